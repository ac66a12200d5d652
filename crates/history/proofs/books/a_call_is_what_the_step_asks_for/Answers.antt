use Rattle.history.proofs.Standings.{call_answered, call_asked}
use Rattle.history.proofs.books.a_call_is_what_the_step_asks_for.Goals as goal

pub returns-clause-asked : goal.returns-clause-asked
returns-clause-asked c = call_asked

pub returns-clause-answer : goal.returns-clause-answer
returns-clause-answer c = call_answered
