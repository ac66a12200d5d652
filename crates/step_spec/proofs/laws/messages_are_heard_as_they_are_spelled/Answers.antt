use Rattle.step_spec.proofs.HeardLemmas.{messages_heard}
use Rattle.step_spec.proofs.laws.messages_are_heard_as_they_are_spelled.Goals as goal

pub returns : goal.returns
returns c = messages_heard
