use Rattle.synchronous_rounds.proofs.StageLemmas.{stage_next}
use Rattle.synchronous_rounds.proofs.leader.each_round_brings_a_leader_nearer.Goals as goal

pub returns : goal.returns
returns c = stage_next
