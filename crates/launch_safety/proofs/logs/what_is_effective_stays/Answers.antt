use Rattle.launch_safety.proofs.EffectLemmas.{IsEffective-more}
use Rattle.launch_safety.proofs.logs.what_is_effective_stays.Goals as goal

pub returns : goal.returns
returns c = IsEffective-more
