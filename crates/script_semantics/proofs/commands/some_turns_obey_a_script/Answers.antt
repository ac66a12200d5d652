use Rattle.std.proofs.Common.{refl}
use Rattle.script_semantics.proofs.SomeScript.{is_legal, obeys, some_rows}
use Rattle.script_semantics.proofs.commands.some_turns_obey_a_script.Goals as goal

pub returns : goal.returns
returns c = (some_rows, refl, is_legal, obeys)
