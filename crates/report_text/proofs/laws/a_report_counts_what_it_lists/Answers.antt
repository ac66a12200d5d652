use Rattle.report_text.proofs.CountLaws.{counts_listed, launches_counted, no_void_counted}
use Rattle.report_text.proofs.laws.a_report_counts_what_it_lists.Goals as goal

pub returns-clause-listed : goal.returns-clause-listed
returns-clause-listed c = counts_listed

pub returns-clause-launched : goal.returns-clause-launched
returns-clause-launched c = launches_counted

pub returns-clause-void : goal.returns-clause-void
returns-clause-void c = no_void_counted
