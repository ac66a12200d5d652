-- Lists of seats: those that a book makes, and those that it takes back.
use Rattle.std.proofs.Common.{◌≡◌, ◌⊎◌, ℕ, zero, suc, ◌+◌, ◌<◌, List, [], ◌∷◌, ◌++◌, length, map, slice_get, Some, refl, sym, ap, ◌∙◌, subst, inl, inr, ⊎_elim, arith}
use Rattle.std.specs.Prelude.{remove, slice_index_or}
use Rattle.std.proofs.lemmas.Option.{none-some}
use mathlib.Core.Option.{some}
use lib.ListN.{get_elem?}
use Rattle.turn_book.specs.declared.book.TurnBook.{TurnBook}
use Rattle.turn_book.specs.declared.book.TurnSeat.{TurnSeat}
use Rattle.turn_book.specs.declared.view.View.{View}
use Rattle.turn_book.specs.Rested.{Rests}
use Rattle.turn_book.specs.Turns.{AreNewSeats, AreSeatsOf, IsNewSeat, IsSeatOf, first_or_spent, number_of, opening_of, seats_of, view_of}
use Rattle.turn_book.specs.Views.{counting, first_view, newcomer}

module _ {A : Type 0} where
  -- what stands in a list with one more is in the list, or is the last
  pub in_snoc : (xs : List A) (last : A) (place : ℕ) (x : A) → slice_get (xs ++ last ∷ []) place ≡ Some x → (slice_get xs place ≡ Some x) ⊎ ((place ≡ length xs) × (last ≡ x))
  in_snoc [] last zero x is = inr (refl, cc)
  in_snoc [] last (suc place) x is = absurd (none-some x is)
  in_snoc (y ∷ ys) last zero x is = inl is
  in_snoc (y ∷ ys) last (suc place) x is = ⊎_elim (λ t. inl t) (λ t. inr (ap suc t.0, t.1)) (in_snoc ys last place x is)

  -- below the length there is something
  pub there_is : (xs : List A) (place : ℕ) → place < length xs → (x : A) × (slice_get xs place ≡ Some x)
  there_is [] place below = absurd (omega arith)
  there_is (x ∷ xs) zero below = (x, refl)
  there_is (x ∷ xs) (suc place) below = there_is xs place (omega arith)

  -- the place in the list of what is made of each
  pub at_mapped : {B : Type 0} (f : A → B) (xs : List A) (more : List B) (place : ℕ) (x : A) → slice_get xs place ≡ Some x → get_elem? (map f xs ++ more) place ≡ some (f x)
  at_mapped f [] more place x is = absurd (none-some x is)
  at_mapped f (y ∷ ys) more zero x is = ap (λ (z : A). some (f z)) (let same : y ≡ x = cc in same)
  at_mapped f (y ∷ ys) more (suc place) x is = at_mapped f ys more place x is

module _ {L K R M : Type 0} where
  pub new_seats_snoc : (book : TurnBook L K R M) (from number : ℕ) (seats : List (TurnSeat L K R M)) (seat : TurnSeat L K R M) → from + length seats ≡ number
      → AreNewSeats book from seats → IsNewSeat book number seat → AreNewSeats book from (seats ++ seat ∷ [])
  new_seats_snoc book from number seats seat count new one place x is =
      ⊎_elim (λ t. new place x t)
      (λ t. subst (λ (n : ℕ). IsNewSeat book n x) (let at = t.0 in omega arith) (subst (λ (y : TurnSeat L K R M). IsNewSeat book number y) t.1 one))
      (in_snoc seats seat place x is)

  pub new_seats_first : (book : TurnBook L K R M) (first : TurnSeat L K R M) (others : List (TurnSeat L K R M)) → IsNewSeat book 0 first → AreNewSeats book 1 others → AreNewSeats book 0 (first ∷ others)
  new_seats_first book first others one new zero x is = subst (λ (y : TurnSeat L K R M). IsNewSeat book 0 y) (let same : first ≡ x = cc in same) one
  new_seats_first book first others one new (suc place) x is = subst (λ (n : ℕ). IsNewSeat book n x) (omega arith) (new place x is)

  -- a seat that was split off
  pub made_seat : (book : TurnBook L K R M) (made : ℕ) (seat : TurnSeat L K R M) → seat.badge.table_id ≡ book.table.shared.table_id
      → seat.badge.views ≡ newcomer (counting made (first_view (opening_of book))) ∷ [] → 0 < made → IsNewSeat book made seat
  made_seat book made seat table views some_made =
      let v : View L K R = newcomer (counting made (first_view (opening_of book))) in
      let is : view_of seat ≡ v = ap first_or_spent views in
      let number : number_of seat ≡ made = ap (λ (x : View L K R). x.number) is in
      record {
        seat_of =
            record {
              table = table;
              views = views ∙ ap (λ (x : View L K R). x ∷ []) (sym is);
              rests = subst (λ (x : View L K R). Rests x) (sym is) (record { lives = refl; waits = refl; turn = refl });
              opened = ap (λ (x : View L K R). x.opening) is;
              counts = λ none. absurd (omega arith);
            };
        number_is = number;
        first = ap (λ (x : View L K R). x.first) is;
        own = ap (λ (x : View L K R). x.own) is;
        saw = ap (λ (x : View L K R). x.seen) is;
      }

  -- the first seat, once all are made
  pub first_seat : (book : TurnBook L K R M) (seat : TurnSeat L K R M) → seat.badge.table_id ≡ book.table.shared.table_id
      → seat.badge.views ≡ counting (seats_of book) (first_view (opening_of book)) ∷ [] → IsNewSeat book 0 seat
  first_seat book seat table views =
      let v : View L K R = counting (seats_of book) (first_view (opening_of book)) in
      let is : view_of seat ≡ v = ap first_or_spent views in
      record {
        seat_of =
            record {
              table = table;
              views = views ∙ ap (λ (x : View L K R). x ∷ []) (sym is);
              rests = subst (λ (x : View L K R). Rests x) (sym is) (record { lives = refl; waits = refl; turn = refl });
              opened = ap (λ (x : View L K R). x.opening) is;
              counts = λ _. ap (λ (x : View L K R). x.made) is;
            };
        number_is = ap (λ (x : View L K R). x.number) is;
        first = ap (λ (x : View L K R). x.first) is;
        own = ap (λ (x : View L K R). x.own) is;
        saw = ap (λ (x : View L K R). x.seen) is;
      }

module _ {A : Type 0} where
  -- the element at the seam of two lists
  pub at_seam : (xs : List A) (a : A) (ys : List A) → slice_get ((xs ++ a ∷ []) ++ ys) (length xs) ≡ Some a
  at_seam [] a ys = refl
  at_seam (x ∷ xs) a ys = at_seam xs a ys

  -- a list whose first element was taken out
  pub first_out : (xs : List A) (x : A) (others : List A) → 0 < length xs → x ≡ slice_index_or xs 0 x → others ≡ remove xs 0 → xs ≡ x ∷ others
  first_out [] x others some_there is are = absurd (omega arith)
  first_out (y ∷ ys) x others some_there is are = ap (λ (z : A). z ∷ ys) (sym is) ∙ ap (λ (zs : List A). x ∷ zs) (sym are)

module _ {L K R M : Type 0} where
  -- the last of the seats that are left is one of the book
  pub seat_there : (book : TurnBook L K R M) (others left front gone : List (TurnSeat L K R M)) (seat : TurnSeat L K R M) → AreSeatsOf book others → others ≡ left ++ gone → left ≡ front ++ seat ∷ [] → IsSeatOf book seat
  seat_there book others left front gone seat are parts last =
      let whole : others ≡ (front ++ seat ∷ []) ++ gone = parts ∙ ap (λ (l : List (TurnSeat L K R M)). l ++ gone) last in
      are (length front) seat (subst (λ (l : List (TurnSeat L K R M)). slice_get l (length front) ≡ Some seat) (sym whole) (at_seam front seat gone))
