use Rattle.run_audit.proofs.NewlineLemmas.{is_of_book}
use Rattle.run_audit.proofs.laws.the_journal_of_a_book_is_a_journal.Goals as goal

pub returns : goal.returns
returns c = is_of_book
