use Rattle.due_list.proofs.LawLemmas.{same_due_text, some_due_text}
use Rattle.due_list.proofs.laws.a_table_has_one_due_list.Goals as goal

pub returns-clause-some : goal.returns-clause-some
returns-clause-some c = some_due_text

pub returns-clause-one : goal.returns-clause-one
returns-clause-one c = same_due_text
