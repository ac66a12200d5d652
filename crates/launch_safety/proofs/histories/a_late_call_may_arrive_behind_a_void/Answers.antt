use Rattle.launch_safety.proofs.Void.{too_late}
use Rattle.launch_safety.proofs.PartLemmas.{void_stays}
use Rattle.launch_safety.proofs.histories.a_late_call_may_arrive_behind_a_void.Goals as goal

pub returns-clause-some : goal.returns-clause-some
returns-clause-some c = too_late

pub returns-clause-held : goal.returns-clause-held
returns-clause-held c = void_stays
