use Rattle.run_audit.proofs.BookLemmas.{of_book}
use Rattle.run_audit.proofs.laws.a_journal_is_that_of_its_book.Goals as goal

pub returns : goal.returns
returns c = of_book
