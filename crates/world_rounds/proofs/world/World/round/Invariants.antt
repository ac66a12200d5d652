use Rattle.world_rounds.proofs.RoundsOfAll.{HasGone}
use Rattle.world_rounds.proofs.world.World.round.Given as goal

abbrev pub invariant-rounds : goal.invariant-rounds
invariant-rounds g l = HasGone g.D.Disk.view l.table l.at.0 l._round l.fn.self l.self
