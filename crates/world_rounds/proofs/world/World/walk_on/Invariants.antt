use Rattle.std.specs.Prelude.{unsigned_abs, ◌-ℤ◌}
use Rattle.zone_minutes.specs.Window.{IsInWindow}
use Rattle.settling.specs.Settles.{LeadsNow}
use Rattle.world_rounds.specs.Bounds.{IsFaultlessIn}
use Rattle.world_rounds.proofs.WalkLemmas.{HasWalked}
use Rattle.world_rounds.proofs.world.World.walk_on.Given as goal

abbrev pub invariant-minutes : goal.invariant-minutes
invariant-minutes g l =
    HasWalked g.D.Disk.view l.table l.who l.initial.above.0 l.above.0 l.to.0 l.fn.self l.self
    × IsInWindow l.table.window l.above.0
    × IsFaultlessIn g.D.Disk.view l.table (λ n s. LeadsNow n l.table l.who s) l.self

abbrev pub decreases-minutes : goal.decreases-minutes
decreases-minutes g l = unsigned_abs (l.table.window.until.0 -ℤ l.above.0)
