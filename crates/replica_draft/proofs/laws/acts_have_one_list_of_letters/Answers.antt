use Rattle.replica_draft.proofs.OneLemmas.{same-letters}
use Rattle.replica_draft.proofs.laws.acts_have_one_list_of_letters.Goals as goal

pub returns : goal.returns
returns c = same-letters
