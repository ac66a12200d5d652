use Rattle.std.proofs.Common.{refl}
use Rattle.history.proofs.Asks.{some_asks}
use Rattle.history.proofs.Takeover.{book, legal}
use Rattle.history.proofs.books.a_takeover_is_legal.Goals as goal

pub returns-clause-some : goal.returns-clause-some
returns-clause-some c = some_asks

pub returns-clause-legal : goal.returns-clause-legal
returns-clause-legal c = λ table job at now asks. (book table job at now, refl, legal table job at now asks, refl)
