use Rattle.std.proofs.Common.{refl}
use Rattle.history.proofs.SomeBook.{some_book, some_book_is_legal}
use Rattle.history.proofs.books.some_books_are_legal.Goals as goal

pub returns : goal.returns
returns c = (some_book, refl, some_book_is_legal)
