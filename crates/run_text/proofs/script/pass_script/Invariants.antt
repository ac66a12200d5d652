use Rattle.std.proofs.Common.{List, length}
use Rattle.script_text.specs.declared.command.Command.{Command}
use Rattle.run_text.proofs.ScriptLemmas.{ReadsCommands}
use Rattle.run_text.proofs.script.pass_script.Given as goal

abbrev pub invariant-commands : goal.invariant-commands
invariant-commands l = (commands : List Command) × ReadsCommands l.fn.head l.fn.reader l.reader l.left commands

abbrev pub decreases-commands : goal.decreases-commands
decreases-commands l = length l.reader.rest.now
