use Rattle.std.proofs.Common.{◌≤◌, ◌-◌}
use Rattle.world_rounds.proofs.WalkLemmas.{RestsIn}
use Rattle.world_rounds.proofs.world.World.next_minute.Given as goal

abbrev pub invariant-minutes : goal.invariant-minutes
invariant-minutes g l = (l.first ≤ l.number) × RestsIn g.D.Disk.view l.table l.self l.who l.first l.number

abbrev pub decreases-minutes : goal.decreases-minutes
decreases-minutes g l = l.end - l.number
