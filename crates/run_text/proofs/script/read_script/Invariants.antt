use Rattle.std.proofs.Common.{length}
use Rattle.run_text.proofs.ScriptLemmas.{ReadsCommands}
use Rattle.run_text.proofs.script.read_script.Given as goal

abbrev pub invariant-commands : goal.invariant-commands
invariant-commands l = ReadsCommands l.fn.head l.fn.reader l.reader l.left l.commands.items

abbrev pub decreases-commands : goal.decreases-commands
decreases-commands l = length l.reader.rest.now
