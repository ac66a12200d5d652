use Rattle.std.proofs.Common.{◌≡◌, List, ◌++◌, length, map}
use Rattle.turn_book.specs.Turns.{past_by}
use Rattle.turn_book.specs.Views.{with_pasts}
use Rattle.turn_book.specs.declared.book.TurnSeat.{TurnSeat}
use Rattle.turn_book.proofs.book.TurnBook.take_back.Given as goal

abbrev pub invariant-others : goal.invariant-others
invariant-others g l =
    (gone : List (TurnSeat g.row.L.Denot g.row.L-Key.Denot g.row.L-Row.Denot g.row.L-Room.Denot))
    × (l.fn.others.items ≡ l.others.items ++ gone)
    × (l.first.table_id ≡ l.fn.first.table_id) × (l.first.id ≡ l.fn.first.id)
    × (l.first.me ≡ (with_pasts (map past_by gone) l.fn.first.me.0, l.fn.first.me.1))

abbrev pub decreases-others : goal.decreases-others
decreases-others g l = length l.others.items
