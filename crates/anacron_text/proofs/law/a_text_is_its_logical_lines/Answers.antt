use Rattle.anacron_text.proofs.LogicalLemmas.{logical-none, logical_begins, some_logical, logical-plain}
use Rattle.anacron_text.proofs.law.a_text_is_its_logical_lines.Goals as goal

pub returns : goal.returns
returns c = record { none = logical-none; next = logical_begins; some = some_logical; plain = logical-plain }
