use Rattle.std.proofs.Common.{[]}
use Rattle.script_semantics.specs.Situation.{first_situation}
use Rattle.rounds_tests.proofs.meets.world_of_meeting_disks.Goals as goal

pub returns-in-Ok-clause-world : goal.returns-in-Ok-clause-world
returns-in-Ok-clause-world c = record { rows = []; situation = first_situation c.args.count c.args.table.now; is = c.in-Ok.ensures.starts }
