use Rattle.audit_finding.proofs.ReportLemmas.{report_of_book}
use Rattle.audit_finding.proofs.laws.a_report_that_passes_is_its_books.Goals as goal

pub returns : goal.returns
returns c = report_of_book
