use Rattle.history.proofs.Standings.{arrival_marked, late_arrives}
use Rattle.history.proofs.books.a_late_call_arrives_once.Goals as goal

pub returns-clause-late : goal.returns-clause-late
returns-clause-late c = late_arrives

pub returns-clause-marked : goal.returns-clause-marked
returns-clause-marked c = arrival_marked
