use Rattle.history.proofs.Standings.{answer_taken, waits_arrived, waits_made, waits_none, waits_others, waits_started, waits_stopped}
use Rattle.history.proofs.books.an_answer_waits_after_an_answered_call.Goals as goal

pub returns-clause-none : goal.returns-clause-none
returns-clause-none c = waits_none

pub returns-clause-made : goal.returns-clause-made
returns-clause-made c = waits_made

pub returns-clause-stop : goal.returns-clause-stop
returns-clause-stop c = waits_stopped

pub returns-clause-others : goal.returns-clause-others
returns-clause-others c = waits_others

pub returns-clause-start : goal.returns-clause-start
returns-clause-start c = waits_started

pub returns-clause-arrival : goal.returns-clause-arrival
returns-clause-arrival c = waits_arrived

pub returns-clause-taken : goal.returns-clause-taken
returns-clause-taken c = answer_taken
