use Rattle.history.proofs.Snapshots.{a_book}
use Rattle.history.proofs.books.a_book_with_snapshots_is_legal.Goals as goal

pub returns : goal.returns
returns c = a_book
