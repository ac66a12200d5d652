use Rattle.script_semantics.specs.Script.{IsPartOf}
use Rattle.rounds_tests.proofs.Played.{is_world}
use Rattle.rounds_tests.proofs.worlds.take.Goals as goal

pub returns-in-Ok-clause-world : goal.returns-in-Ok-clause-world
returns-in-Ok-clause-world g c =
    is_world g.D.Disk.view c.args.table.now (IsPartOf c.args.world.now.book.members c.args.table.now c.args.command.now) c.args.world.now c.command.new.self
    c.requires.world c.in-Ok.ensures.goes
