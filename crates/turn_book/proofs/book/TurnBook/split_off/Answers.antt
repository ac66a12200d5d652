use Rattle.std.proofs.Common.{rules}
use Rattle.turn_book.proofs.SeatLemmas.{splits}
use Rattle.turn_book.proofs.book.TurnBook.split_off.Goals as goal

pub split_seat-seat-requires : goal.split_seat-seat-requires
split_seat-seat-requires g c =
    let first = c.args.first.now in
    let asked = c.requires in
    (search rules, search rules, splits g.L.Law c.args.self.now.table.shared.key first.id first.me.0 asked.rests asked.first asked.opened asked.room)
