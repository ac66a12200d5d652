use Rattle.synchronous_rounds.proofs.FreeLemmas.{answer_next}
use Rattle.synchronous_rounds.proofs.leader.an_answer_is_proposed.Goals as goal

pub returns : goal.returns
returns c = answer_next
