use Rattle.std.proofs.Common.{◌≡◌, suc, List, ◌∷◌, Option, Some, map, refl, ap, sym, ◌∙◌, subst}
use Rattle.std.specs.Slots.{slots_items}
use mathlib.Core.Option.{some}
use lib.ListN.{get_elem?}
use Rattle.atomic_table.specs.Table.{Me}
use Rattle.turn_book.specs.Rested.{Rests}
use Rattle.turn_book.specs.Turns.{AreAllSeats, HasHistory, IsSeatOf, first_or_spent, past_by, view_of}
use Rattle.turn_book.specs.Views.{with_pasts}
use Rattle.turn_book.specs.declared.book.TurnBook.{TurnBook}
use Rattle.turn_book.specs.declared.book.TurnSeat.{TurnSeat}
use Rattle.turn_book.specs.declared.view.View.{View}
use Rattle.turn_book.proofs.CloseLemmas.{closes, ended_at, is_some_slot}
use Rattle.turn_book.proofs.book.TurnBook.close.Goals as goal

module _ {L K R M : Type 0} (book : TurnBook L K R M) (first : TurnSeat L K R M) (others seats : List (TurnSeat L K R M)) where
  all_of : seats ≡ first ∷ others → AreAllSeats book seats → AreAllSeats book (first ∷ others)
  all_of parts all = subst (λ (l : List (TurnSeat L K R M)). AreAllSeats book l) parts all

  is_first : seats ≡ first ∷ others → AreAllSeats book seats → IsSeatOf book first
  is_first parts all = (all_of parts all).each 0 first refl

pub into_seat-first-requires : goal.into_seat-first-requires
into_seat-first-requires g c =
    let first = c.take_first-badge.result in
    (view_of first, (is_first c.args.self first c.take_first-badge.new.seats.items c.args.seats.items c.take_first-badge.ensures c.requires).views)

pub take_back-requires-clause-own : goal.take_back-requires-clause-own
take_back-requires-clause-own g c =
    c.into_seat-first.ensures.0 ∙ (is_first c.args.self c.take_first-badge.result c.take_first-badge.new.seats.items c.args.seats.items c.take_first-badge.ensures c.requires).table

pub take_back-requires-clause-rests : goal.take_back-requires-clause-rests
take_back-requires-clause-rests g c =
    subst (λ (v : View g.row.L.Denot g.row.L-Key.Denot g.row.L-Row.Denot). Rests v) (ap first_or_spent c.into_seat-first.ensures.2)
    (is_first c.args.self c.take_first-badge.result c.take_first-badge.new.seats.items c.args.seats.items c.take_first-badge.ensures c.requires).rests

pub take_back-requires-clause-first : goal.take_back-requires-clause-first
take_back-requires-clause-first g c =
    ap (λ (v : View g.row.L.Denot g.row.L-Key.Denot g.row.L-Row.Denot). v.number) (sym (ap first_or_spent c.into_seat-first.ensures.2))
    ∙ (all_of c.args.self c.take_first-badge.result c.take_first-badge.new.seats.items c.args.seats.items c.take_first-badge.ensures c.requires).number 0 c.take_first-badge.result refl

pub take_back-requires-clause-others : goal.take_back-requires-clause-others
take_back-requires-clause-others g c place seat is =
    (all_of c.args.self c.take_first-badge.result c.take_first-badge.new.seats.items c.args.seats.items c.take_first-badge.ensures c.requires).each (suc place) seat is

pub close_with-closed-requires : goal.close_with-closed-requires
close_with-closed-requires g c =
    c.take_back.ensures.table ∙ c.into_seat-first.ensures.0 ∙ (is_first c.args.self c.take_first-badge.result c.take_first-badge.new.seats.items c.args.seats.items c.take_first-badge.ensures c.requires).table

pub unwrap-requires : goal.unwrap-requires
unwrap-requires g c =
    let L : Type 0 = g.row.L.Denot in
    let V : Type 0 = View g.row.L.Denot g.row.L-Key.Denot g.row.L-Row.Denot in
    let first = c.take_first-badge.result in
    let others = c.take_first-badge.new.seats.items in
    let all = all_of c.args.self first others c.args.seats.items c.take_first-badge.ensures c.requires in
    let view = ap (λ (m : Me (Option L) V). m.0) c.take_back.ensures.view ∙ ap (λ (v : V). with_pasts (map past_by others) v) (sym (ap first_or_spent c.into_seat-first.ensures.2)) in
    let closed = c.close_with-closed in
    let ended = ended_at g.L.Law c.args.self first others c.take_back.new.first.id c.take_back.new.first.me.0 (slots_items closed.result.words) (slots_items closed.result.slots) all view closed.ensures.values.2 in
    is_some_slot (slots_items closed.result.slots) ended.state c.take-state.result ended.there c.take-state.ensures.value

pub returns : goal.returns
returns g c =
    let L : Type 0 = g.row.L.Denot in
    let V : Type 0 = View g.row.L.Denot g.row.L-Key.Denot g.row.L-Row.Denot in
    let first = c.take_first-badge.result in
    let others = c.take_first-badge.new.seats.items in
    let all = all_of c.args.self first others c.args.seats.items c.take_first-badge.ensures c.requires in
    let view = ap (λ (m : Me (Option L) V). m.0) c.take_back.ensures.view ∙ ap (λ (v : V). with_pasts (map past_by others) v) (sym (ap first_or_spent c.into_seat-first.ensures.2)) in
    let closed = c.close_with-closed in
    let slots = slots_items closed.result.slots in
    let ended = ended_at g.L.Law c.args.self first others c.take_back.new.first.id c.take_back.new.first.me.0 (slots_items closed.result.words) slots all view closed.ensures.values.2 in
    let is : get_elem? slots 0 ≡ some (Some c.unwrap.result) = c.take-state.ensures.value ∙ ap (λ (x : Option L). some x) c.unwrap.ensures in
    subst (λ (l : List (TurnSeat g.row.L.Denot g.row.L-Key.Denot g.row.L-Row.Denot g.row.L-Room.Denot)). HasHistory g.L.Law c.args.self l c.unwrap.result) (sym c.take_first-badge.ensures)
    (closes g.L.Law c.args.self first others slots c.unwrap.result all ended is)
