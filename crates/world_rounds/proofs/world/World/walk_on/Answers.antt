use Rattle.world_rounds.proofs.WalkLemmas.{has_walked_next, has_walked_none, has_walked_whole, next_inside, next_nearer}
use Rattle.world_rounds.proofs.world.World.walk_on.Goals as goal

pub minutes-init : goal.minutes-init
minutes-init g c = (has_walked_none g.D.Disk.view c.args.table.now c.args.who c.args.at.0 c.args.to.0 c.args.self.now c.requires.world c.requires.run, c.requires.inside, c.requires.given)

pub drain-requires-clause-inside : goal.drain-requires-clause-inside
drain-requires-clause-inside g c =
    let here = c.minutes.invariant.0.world in
    next_inside c.args.table.now.window c.args.table.now (here.situation.standing.replicas c.args.who) c.minutes.above.0 c.args.to.0 c.in-Some.minute.0 c.minutes.invariant.1 c.requires.within
    (c.in-Some.ensures.found here.situation (here.rows, here.is))

pub minutes-smaller : goal.minutes-smaller
minutes-smaller g c =
    let here = c.minutes.invariant.0.world in
    next_nearer c.args.table.now.window c.args.table.now (here.situation.standing.replicas c.args.who) c.minutes.above.0 c.args.to.0 c.in-Some.minute.0 c.requires.within
    (c.in-Some.ensures.found here.situation (here.rows, here.is))

pub minutes-preserved : goal.minutes-preserved
minutes-preserved g c =
    let here = c.minutes.invariant.0.world in (
      has_walked_next g.D.Disk.view c.args.table.now c.args.who c.args.at.0 c.minutes.above.0 c.in-Some.minute.0 c.args.to.0 c.args.self.now c.minutes.self c.drain.new.self c.minutes.invariant.0 c.in-Some.ensures.found
          c.in_ok-drain.ensures.goes c.in_ok-drain.ensures.run c.in_ok-drain.ensures.members,
      next_inside c.args.table.now.window c.args.table.now (here.situation.standing.replicas c.args.who) c.minutes.above.0 c.args.to.0 c.in-Some.minute.0 c.minutes.invariant.1 c.requires.within
          (c.in-Some.ensures.found here.situation (here.rows, here.is)),
      c.in_ok-drain.ensures.given,
    )

pub returns-clause-goes : goal.returns-clause-goes
returns-clause-goes g c =
    has_walked_whole g.D.Disk.view c.args.table.now c.args.who c.args.at.0 c.minutes.above.0 c.args.to.0 c.args.self.now c.minutes.self c.minutes.invariant.0
    c.in_default.ensures.none

pub drain-requires-clause-given : goal.drain-requires-clause-given
drain-requires-clause-given g c = c.minutes.invariant.2

pub returns-clause-bounded : goal.returns-clause-bounded
returns-clause-bounded g c = c.minutes.invariant.2.bounded
