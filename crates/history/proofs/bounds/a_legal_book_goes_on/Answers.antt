use Rattle.history.proofs.Turns.{legal_push}
use Rattle.history.proofs.Keeping.{empty_is_legal, stands_next}
use Rattle.history.proofs.bounds.a_legal_book_goes_on.Goals as goal

pub returns-clause-begins : goal.returns-clause-begins
returns-clause-begins c = empty_is_legal

pub returns-clause-goes : goal.returns-clause-goes
returns-clause-goes c = legal_push

pub returns-clause-stands : goal.returns-clause-stands
returns-clause-stands c = stands_next
