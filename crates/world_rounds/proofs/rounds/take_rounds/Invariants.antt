use Rattle.world_rounds.proofs.RoundsOfAll.{HasTakenTo}
use Rattle.world_rounds.proofs.rounds.take_rounds.Given as goal

abbrev pub invariant-members : goal.invariant-members
invariant-members g l = HasTakenTo g.D.Disk.view l.table l.book l.at.0 l.member-index l.fn.members l.member-items
