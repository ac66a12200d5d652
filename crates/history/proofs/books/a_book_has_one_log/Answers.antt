use Rattle.history.proofs.Agreement.{book_log, book_one_log, book_one_value}
use Rattle.history.proofs.books.a_book_has_one_log.Goals as goal

pub returns-clause-some : goal.returns-clause-some
returns-clause-some c = book_log

pub returns-clause-one : goal.returns-clause-one
returns-clause-one c = book_one_log

pub returns-clause-value : goal.returns-clause-value
returns-clause-value c = book_one_value
