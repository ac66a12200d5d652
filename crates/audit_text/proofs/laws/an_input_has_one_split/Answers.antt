use Rattle.audit_text.proofs.SplitLemmas.{one_split}
use Rattle.audit_text.proofs.laws.an_input_has_one_split.Goals as goal

pub returns : goal.returns
returns c = one_split
