use Rattle.launch_safety.proofs.EffectLemmas.{effective_each}
use Rattle.launch_safety.proofs.logs.what_is_in_the_log_is_effective.Goals as goal

pub returns : goal.returns
returns c = effective_each
