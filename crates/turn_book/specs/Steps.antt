-- What each step of a seat tells.
use Rattle.std.specs.Prelude.{◌≡◌, ◌≢◌, ℕ, ◌%◌, List, [], ◌∷◌, ◌++◌, Option, Some, slice_get}
use Rattle.atomic_table.specs.Table.{Me, rest}
use Rattle.turn_book.specs.declared.law.Law.{Ghosts}
use Rattle.turn_book.specs.declared.view.Opening.{Opening}
use Rattle.turn_book.specs.declared.view.View.{View}
use Rattle.turn_book.specs.Rows.{BeginsWith, IsLawful, rows_of}
use Rattle.turn_book.specs.Rule.{IsAtRest, NamesBelow, follows_in}
use Rattle.turn_book.specs.Views.{in_line, with_turn, with_rows, out_of_line}

module _ {L K R M : Type 0} (law : Ghosts L K R M) where
  -- What a turn tells of the history. It begins with the rows of the opening state, and with what the seat had seen; it is lawful, and
  -- after the first rows each row names a seat that was made, and those that name this one are its own.
  pub record IsHistory (opening : Opening L K) (number : ℕ) (seen mine first after : List R) : Type 0 where
    pub begins : law.has_rows opening.key.value opening.state.value first
    pub saw : BeginsWith (first ++ after) seen
    pub lawful : IsLawful (follows_in law opening) (first ++ after)
    pub own : mine ≡ rows_of law.seat number after
    pub named : (place : ℕ) (row : R) → slice_get after place ≡ Some row → NamesBelow law opening.seats row

  -- The seat is served: the slot goes out with it, and has the state.
  pub record IsServed (m m' : Me (Option L) (View L K R)) : Type 0 where
    pub opening : Opening L K
    pub first : List R
    pub after : List R
    pub state : L
    pub opened : m.0.opening ≡ Some opening
    pub showed : (rows : List R) → m.0.first ≡ Some rows → rows ≡ first
    pub history : IsHistory opening m.0.number m.0.seen m.0.own first after
    pub rests : IsAtRest law opening (first ++ after) state
    pub is : m' ≡ (with_turn first after m.0, (0, Some state) ∷ [])

  -- at the number that is served
  abbrev pub looked : Me (Option L) (View L K R) → ℕ → Me (Option L) (View L K R) → Type 0
  looked m serving m' = (serving ≡ m.0.ticket % 18446744073709551616 → IsServed m m') × (serving ≢ m.0.ticket % 18446744073709551616 → m' ≡ m)

module _ {L K R : Type 0} where
  -- the true number of the ticket
  abbrev pub drew : Me (Option L) (View L K R) → ℕ → Me (Option L) (View L K R) → Type 0
  drew m drawn m' = (ticket : ℕ) × (drawn ≡ ticket % 18446744073709551616) × (m' ≡ (in_line ticket m.0, m.1))

  abbrev pub committed : List R → Me (Option L) (View L K R) → Me (Option L) (View L K R) → Type 0
  committed added m m' = m' ≡ (with_rows added m.0, m.1)

  abbrev pub handed_on : Me (Option L) (View L K R) → Me (Option L) (View L K R) → Type 0
  handed_on m m' = m' ≡ (out_of_line m.0, rest m.1)
