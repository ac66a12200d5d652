use Rattle.settling.specs.Settles.{LeadsNow}
use Rattle.world_rounds.specs.Bounds.{IsFaultlessIn, left_in}
use Rattle.world_rounds.proofs.DrainLemmas.{HasDrained}
use Rattle.world_rounds.proofs.world.World.drain_until_idle.Given as goal

abbrev pub invariant-rounds : goal.invariant-rounds
invariant-rounds g l =
    HasDrained g.D.Disk.view l.table l.who l.at.0 l.fn.self l.self
    × IsFaultlessIn g.D.Disk.view l.table (λ n s. LeadsNow n l.table l.who s) l.self

abbrev pub decreases-rounds : goal.decreases-rounds
decreases-rounds g l = left_in l.table l.who l.self
