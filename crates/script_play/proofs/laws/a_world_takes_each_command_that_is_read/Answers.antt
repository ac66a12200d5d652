use Rattle.script_play.proofs.Taken.{script_taken}
use Rattle.script_play.proofs.laws.a_world_takes_each_command_that_is_read.Goals as goal

pub returns : goal.returns
returns c = script_taken
