use Rattle.std.proofs.Common.{take}
use Rattle.script_play.proofs.Commands.{HasDone}
use Rattle.script_play.proofs.script.play.Given as goal

abbrev pub invariant-commands : goal.invariant-commands
invariant-commands g l = HasDone g.D.Disk.view l.table (take l.command-index l.commands) l.starts.items l.fn.world l.world l.fn.watch l.watch
