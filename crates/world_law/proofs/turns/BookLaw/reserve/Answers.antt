use Rattle.std.proofs.Common.{length}
use Rattle.world_law.proofs.Rows.{room_for_fewer, rows_stay}
use Rattle.world_law.proofs.turns.BookLaw.reserve.Goals as goal

pub returns-clause-room : goal.returns-clause-room
returns-clause-room c = λ row fewer. room_for_fewer (length row.out.letters) (length c.args.room.now.letters) _ fewer c.in_ok-reserve.ensures.room

pub returns-clause-rows : goal.returns-clause-rows
returns-clause-rows c = λ key rows has. rows_stay key rows c.args.self.now _ c.reserve.ensures.same has
