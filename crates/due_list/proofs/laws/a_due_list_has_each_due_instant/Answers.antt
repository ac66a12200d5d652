use Rattle.due_list.proofs.LawLemmas.{has_due_line}
use Rattle.due_list.proofs.laws.a_due_list_has_each_due_instant.Goals as goal

pub returns : goal.returns
returns c = has_due_line
