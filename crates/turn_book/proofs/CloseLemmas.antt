-- What is known once a book is closed.
use Rattle.std.proofs.Common.{◌≡◌, ℕ, zero, suc, List, [], ◌∷◌, ◌++◌, map, slice_get, Option, Some, refl, ap, ◌∙◌, subst, arith}
use mathlib.Core.Option.{some, some-injective}
use lib.ListN.{get_elem?}
use Rattle.std.specs.Prelude.{IsSome}
use Rattle.atomic_table.specs.Table.{Final, Seen}
use Rattle.turn_book.specs.declared.book.TurnBook.{TurnBook}
use Rattle.turn_book.specs.declared.book.TurnSeat.{TurnSeat}
use Rattle.turn_book.specs.declared.law.Law.{Ghosts}
use Rattle.turn_book.specs.declared.view.View.{View}
use Rattle.turn_book.specs.Rows.{rows_of}
use Rattle.turn_book.specs.Rule.{Fair, IsAtRest, IsPast}
use Rattle.turn_book.specs.Turns.{AreAllSeats, HasHistory, opening_of, past_by, view_of}
use Rattle.turn_book.specs.Views.{with_pasts}
use Rattle.turn_book.proofs.EndLemmas.{HasAll, IsEnded, ends}
use Rattle.turn_book.proofs.SeatListLemmas.{at_mapped, there_is}

module _ {L K R M : Type 0} where
  -- the first seat has taken all others in
  pub has_all : (book : TurnBook L K R M) (first : TurnSeat L K R M) (others : List (TurnSeat L K R M)) → AreAllSeats book (first ∷ others) → HasAll (with_pasts (map past_by others) (view_of first))
  has_all book first others all zero below other = absurd (other refl)
  has_all book first others all (suc k) below other =
      let made = (all.each 0 first refl).counts (all.number 0 first refl) in
      let count = all.count in
      let there = there_is others k (omega arith) in (
        k,
        past_by there.0,
        at_mapped past_by others (view_of first).joined k there.0 there.1,
        all.number (suc k) there.0 there.1,
      )

module _ {L K R M : Type 0} (law : Ghosts L K R M) where
  -- what each seat left
  each_past : (book : TurnBook L K R M) (first : TurnSeat L K R M) (others : List (TurnSeat L K R M)) (slots : List (Option L))
      → (ended : IsEnded law (opening_of book) (with_pasts (map past_by others) (view_of first)) slots)
      → (place : ℕ) (seat : TurnSeat L K R M) → slice_get (first ∷ others) place ≡ Some seat → IsPast law ended.first ended.after (past_by seat)
  each_past book first others slots ended zero seat is =
      subst (λ (x : TurnSeat L K R M). IsPast law ended.first ended.after (past_by x)) (let same : first ≡ seat = cc in same) ended.own
  each_past book first others slots ended (suc k) seat is = ended.past k (past_by seat) (at_mapped past_by others (view_of first).joined k seat is)

  pub closes : (book : TurnBook L K R M) (first : TurnSeat L K R M) (others : List (TurnSeat L K R M)) (slots : List (Option L)) (result : L) → AreAllSeats book (first ∷ others)
      → IsEnded law (opening_of book) (with_pasts (map past_by others) (view_of first)) slots → get_elem? slots 0 ≡ some (Some result) → HasHistory law book (first ∷ others) result
  closes book first others slots result all ended is =
      let the_state : ended.state ≡ result =
      (let at : get_elem? (Some ended.state ∷ []) 0 ≡ some (Some result) = subst (λ (l : List (Option L)). get_elem? l 0 ≡ some (Some result)) ended.there is in
      let same : Some ended.state ≡ Some result = some-injective (Some ended.state) (Some result) at in cc) in
      record {
        first = ended.first;
        after = ended.after;
        begins = ended.begins;
        lawful = ended.lawful;
        named = ended.named;
        own = λ place seat there. (each_past book first others slots ended place seat there).own ∙ ap (λ (n : ℕ). rows_of law.seat n ended.after) (all.number place seat there);
        saw = λ place seat there. (each_past book first others slots ended place seat there).saw;
        same = λ place seat rows there told. (each_past book first others slots ended place seat there).showed rows told;
        rests = subst (λ (x : L). IsAtRest law (opening_of book) (ended.first ++ ended.after) x) the_state ended.rests;
      }

  -- the last state, once the first seat has taken all others in
  pub ended_at : (book : TurnBook L K R M) (first : TurnSeat L K R M) (others : List (TurnSeat L K R M)) (id : ℕ) (v : View L K R) (words : List ℕ) (slots : List (Option L)) → AreAllSeats book (first ∷ others)
      → v ≡ with_pasts (map past_by others) (view_of first) → Final (Seen (Fair law (opening_of book)) id v) words slots → IsEnded law (opening_of book) (with_pasts (map past_by others) (view_of first)) slots
  ended_at book first others id v words slots all is final =
      let seat = all.each 0 first refl in
      let rests = seat.rests in
      ends law (opening_of book) id (with_pasts (map past_by others) (view_of first)) words slots (record { lives = rests.lives; waits = rests.waits; turn = rests.turn }) (all.number 0 first refl)
      (has_all book first others all)
      (subst (λ (x : View L K R). Final (Seen (Fair law (opening_of book)) id x) words slots) is final)

pub is_some_slot : {L : Type 0} (slots : List (Option L)) (state : L) (x : Option L) → slots ≡ Some state ∷ [] → get_elem? slots 0 ≡ some x → IsSome x
is_some_slot {L = L} slots state x are is =
    let at : get_elem? (Some state ∷ []) 0 ≡ some x = subst (λ (l : List (Option L)). get_elem? l 0 ≡ some x) are is in
    subst (λ (y : Option L). IsSome y) (some-injective (Some state) x at) refl
