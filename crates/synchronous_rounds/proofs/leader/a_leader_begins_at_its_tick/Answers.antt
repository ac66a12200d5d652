use Rattle.synchronous_rounds.proofs.StageLemmas.{stage_at_tick}
use Rattle.synchronous_rounds.proofs.leader.a_leader_begins_at_its_tick.Goals as goal

pub returns : goal.returns
returns c = stage_at_tick
