use Rattle.report_text.proofs.BookLemmas.{one_report, of_rows, of_ledger}
use Rattle.report_text.proofs.laws.a_book_has_one_report.Goals as goal

pub returns-clause-one : goal.returns-clause-one
returns-clause-one c = one_report

pub returns-clause-rows : goal.returns-clause-rows
returns-clause-rows c = of_rows

pub returns-clause-ledger : goal.returns-clause-ledger
returns-clause-ledger c = of_ledger
