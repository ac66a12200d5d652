use Rattle.step_spec.proofs.LineLemmas.{step_may}
use Rattle.step_spec.proofs.laws.each_act_may_be_done.Goals as goal

pub returns : goal.returns
returns c = λ setting event state. step_may setting state event
