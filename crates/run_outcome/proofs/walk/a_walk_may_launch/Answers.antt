use Rattle.run_outcome.proofs.SomeWalk.{some_walk}
use Rattle.run_outcome.proofs.walk.a_walk_may_launch.Goals as goal

pub returns : goal.returns
returns c =
    let (table, script, rows, obeyed, job, at, later, sound, legal, long, due, due_later, order, by, turns, few, none, one) = some_walk in
    (table, script, rows, obeyed, job, at, later, sound, legal, long, due, due_later, order, by, turns)
