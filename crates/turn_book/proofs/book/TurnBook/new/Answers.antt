use Rattle.std.proofs.Common.{ℕ, List, [], ◌∷◌, Option, ap, sym, ◌∙◌, subst}
use Rattle.atomic_table.specs.Table.{Me}
use Rattle.turn_book.specs.Turns.{AreNewSeats, opening_of}
use Rattle.turn_book.specs.Views.{counting, first_view}
use Rattle.turn_book.specs.declared.book.TurnSeat.{TurnSeat}
use Rattle.turn_book.specs.declared.view.View.{View}
use Rattle.turn_book.proofs.SeatListLemmas.{first_seat, new_seats_first}
use Rattle.turn_book.proofs.book.TurnBook.new.Goals as goal

pub returns-clause-seats : goal.returns-clause-seats
returns-clause-seats g c =
    let V : Type 0 = View g.row.L.Denot g.row.L-Key.Denot g.row.L-Row.Denot in
    let S : Type 0 = TurnSeat g.row.L.Denot g.row.L-Key.Denot g.row.L-Row.Denot g.row.L-Room.Denot in
    let book = c.in_ok-book.book in
    let laid = c.in_ok-book.ensures in
    let others = c.make_others.ensures in
    let first : S = record { badge = c.into_badge.result } in
    let table = c.into_badge.ensures.0 ∙ others.table ∙ laid.table in
    let views = c.into_badge.ensures.2 ∙ ap (λ (m : Me (Option g.row.L.Denot) V). m.0 ∷ []) others.view in
    let counted = views ∙ ap (λ (n : ℕ). counting n (first_view (opening_of book)) ∷ []) (sym laid.began.seats_are) in
    subst (λ (seats : List S). AreNewSeats book 0 seats) (sym c.put_first.ensures) (new_seats_first book first c.make_others.new.others.items (first_seat book first table counted) others.others)
