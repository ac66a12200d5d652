use Rattle.std.proofs.Common.{string_bytes}
use Rattle.std.specs.List.{range_with_len}
use Rattle.due_list.specs.DueText.{AreLinesOfVersion}
use Rattle.due_list.specs.Parts.{AppendsParts}
use Rattle.due_list.proofs.due.put_versions.Given as goal

abbrev pub invariant-loop-version : goal.invariant-loop-version
invariant-loop-version l = AppendsParts (AreLinesOfVersion l.table) (range_with_len 0 l.version) (string_bytes l.fn.into) (string_bytes l.into)
