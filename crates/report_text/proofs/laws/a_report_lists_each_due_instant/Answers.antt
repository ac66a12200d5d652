use Rattle.report_text.proofs.ListingLemmas.{each_due_listed}
use Rattle.report_text.proofs.laws.a_report_lists_each_due_instant.Goals as goal

pub returns : goal.returns
returns c = each_due_listed
