use Rattle.due_list.proofs.LawLemmas.{same_check_text, some_check_text}
use Rattle.due_list.proofs.laws.a_frame_has_one_check.Goals as goal

pub returns-clause-some : goal.returns-clause-some
returns-clause-some c = some_check_text

pub returns-clause-one : goal.returns-clause-one
returns-clause-one c = same_check_text
