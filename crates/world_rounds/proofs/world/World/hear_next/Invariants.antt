use Rattle.world_rounds.proofs.InOrder.{HasHeard}
use Rattle.world_rounds.proofs.world.World.hear_next.Given as goal

abbrev pub invariant-letters : goal.invariant-letters
invariant-letters g l = HasHeard g.D.Disk.view l.table l.fn.self.book.members l.who l._heard l.fn.self l.self
