use Rattle.agreement.proofs.GuardLemmas.{answers_are_to_calls}
use Rattle.agreement.proofs.laws.each_answer_is_to_a_call.Goals as goal

pub returns : goal.returns
returns c = answers_are_to_calls
