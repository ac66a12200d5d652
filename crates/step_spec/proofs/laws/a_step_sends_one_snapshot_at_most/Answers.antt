use Rattle.step_spec.proofs.CopyLemmas.{step_copies}
use Rattle.step_spec.proofs.laws.a_step_sends_one_snapshot_at_most.Goals as goal

pub returns : goal.returns
returns c = step_copies
