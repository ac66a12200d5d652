use Rattle.settling.proofs.SomeQuietEnd.{some_quiet_book}
use Rattle.settling.proofs.quiet.a_book_may_end_quietly.Goals as goal

pub returns : goal.returns
returns c = some_quiet_book
