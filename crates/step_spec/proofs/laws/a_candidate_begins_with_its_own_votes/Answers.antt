use Rattle.step_spec.proofs.OutLemmas.{own_votes}
use Rattle.step_spec.proofs.laws.a_candidate_begins_with_its_own_votes.Goals as goal

pub returns : goal.returns
returns c = own_votes
