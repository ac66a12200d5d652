use Rattle.report_text.proofs.ListingLemmas.{each_date_listed, listed_rise}
use Rattle.report_text.proofs.laws.a_report_lists_each_date.Goals as goal

pub returns-clause-rise : goal.returns-clause-rise
returns-clause-rise c = listed_rise

pub returns-clause-dates : goal.returns-clause-dates
returns-clause-dates c = each_date_listed
