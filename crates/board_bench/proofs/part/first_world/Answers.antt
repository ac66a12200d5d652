use Rattle.std.proofs.Common.{[]}
use Rattle.script_semantics.specs.Situation.{first_situation}
use Rattle.board_bench.proofs.part.first_world.Goals as goal

pub returns-clause-world : goal.returns-clause-world
returns-clause-world c = record { rows = []; situation = first_situation 3 c.args.table.now; is = c.in_ok-world.ensures.starts }
