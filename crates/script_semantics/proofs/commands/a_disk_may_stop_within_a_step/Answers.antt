use Rattle.std.proofs.Common.{refl}
use Rattle.script_semantics.proofs.SomeStop.{is_legal, obeys, some_rows}
use Rattle.script_semantics.proofs.commands.a_disk_may_stop_within_a_step.Goals as goal

pub returns : goal.returns
returns c = (some_rows, refl, is_legal, obeys)
