use Rattle.settling.proofs.SomeIdle.{some_rest}
use Rattle.settling.proofs.drain.a_leader_may_become_idle.Goals as goal

pub returns : goal.returns
returns c = some_rest
