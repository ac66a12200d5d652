use Rattle.zone_minutes.proofs.MonthLemmas.{later_month, later_year}
use Rattle.zone_minutes.proofs.civil.a_later_month_begins_later.Goals as goal

pub returns-clause-month : goal.returns-clause-month
returns-clause-month c = later_month

pub returns-clause-year : goal.returns-clause-year
returns-clause-year c = later_year
