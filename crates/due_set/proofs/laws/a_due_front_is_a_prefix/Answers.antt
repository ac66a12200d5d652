use Rattle.due_set.proofs.FrontLemmas.{front_prefix}
use Rattle.due_set.proofs.laws.a_due_front_is_a_prefix.Goals as goal

pub returns : goal.returns
returns c = front_prefix
