use Rattle.script_semantics.specs.Settling.{Settles}
use Rattle.world_rounds.proofs.DrainLemmas.{world_gone}
use Rattle.world_rounds.proofs.WalkLemmas.{earlier_inside, since_in, walks}
use Rattle.world_rounds.proofs.world.World.walk.Goals as goal
use Rattle.replica_core.proofs.SteadyLemmas.{on_ok_so as on_ok}

pub settle_led-requires-clause-inside : goal.settle_led-requires-clause-inside
settle_led-requires-clause-inside g c = earlier_inside c.args.table.now.window c.earlier_of-at.result.0 c.args.self.now.latest.0 c.args.to.0 c.earlier_of-at.ensures
    (since_in g.D.Disk.view c.args.table.now c.args.self.now c.requires.world) c.requires.inside

pub walk_on-requires-clause-world : goal.walk_on-requires-clause-world
walk_on-requires-clause-world g c =
    world_gone g.D.Disk.view c.args.table.now (Settles c.args.self.now.book.members c.args.table.now c.earlier_of-at.result.0) c.args.self.now c.settle_led.new.self c.requires.world c.in_ok-who.ensures.goes

pub walk_on-requires-clause-inside : goal.walk_on-requires-clause-inside
walk_on-requires-clause-inside g c = earlier_inside c.args.table.now.window c.earlier_of-at.result.0 c.args.self.now.latest.0 c.args.to.0 c.earlier_of-at.ensures
    (since_in g.D.Disk.view c.args.table.now c.args.self.now c.requires.world) c.requires.inside

pub returns-clause-goes : goal.returns-clause-goes
returns-clause-goes g c =
    on_ok c.walk_on.result _ _
    (walks g.D.Disk.view c.args.table.now c.earlier_of-at.result.0 c.args.to.0 c.in_ok-who.who c.args.self.now c.settle_led.new.self c.walk_on.new.self c.earlier_of-at.ensures c.in_ok-who.ensures.goes
    c.in_ok-who.ensures.members c.in_ok-who.ensures.leads)
    c.walk_on.ensures.goes

pub returns-clause-bounded : goal.returns-clause-bounded
returns-clause-bounded g c = c.walk_on.ensures.bounded
