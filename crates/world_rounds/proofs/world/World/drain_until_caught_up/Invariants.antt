use Rattle.std.proofs.Common.{◌≤◌}
use Rattle.settling.specs.Settles.{HasBeenIdleFor}
use Rattle.world_rounds.specs.Bounds.{IsFaultlessIn}
use Rattle.world_rounds.proofs.DrainLemmas.{HasDrained}
use Rattle.world_rounds.proofs.world.World.drain_until_caught_up.Given as goal

abbrev pub invariant-rounds : goal.invariant-rounds
invariant-rounds g l =
    HasDrained g.D.Disk.view l.table l.who l.at.0 l.fn.self l.self
    × (l._round ≤ 5) × IsFaultlessIn g.D.Disk.view l.table (λ n s. HasBeenIdleFor l._round n l.table l.who l.at.0 s) l.self
