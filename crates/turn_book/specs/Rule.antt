-- The rule of a book of turns: what holds of its words, of its slot and of the views of its seats between any two steps.
-- Word 0 is the next ticket, word 1 the ticket that is served, and word 2 counts the rows that were committed, each modulo 2^64. The slot has the state.
-- Source: the ticket lock; the rest is this project's.
use Rattle.std.specs.Prelude.{◌≡◌, ◌≢◌, ◌⊎◌, ℕ, ◌+◌, ◌%◌, ◌<◌, ◌≤◌, Bool, true, false, List, [], ◌∷◌, ◌++◌, length, Option, Some, slice_get}
use mathlib.Core.Option.{some}
use mathlib.Core.Option as maybe
use lib.ListN.{get_elem?}
use Rattle.atomic_table.specs.Table.{State}
use Rattle.turn_book.specs.declared.law.Law.{Ghosts}
use Rattle.turn_book.specs.declared.view.Opening.{Opening}
use Rattle.turn_book.specs.declared.view.Past.{Past}
use Rattle.turn_book.specs.declared.view.View.{View}
use Rattle.turn_book.specs.Rows.{BeginsWith, IsLawful, rows_of}

-- how many hold
abbrev pub one_if : Bool → ℕ
one_if true = 1
one_if false = 0

-- how many seats have a ticket
abbrev pub seats_waiting : {L K R : Type 0} → List (View L K R) → ℕ
seats_waiting [] = 0
seats_waiting (v ∷ vs) = one_if v.waits + seats_waiting vs

-- the words, by the true numbers
abbrev pub words_of : (next serving count : ℕ) → List ℕ
words_of next serving count = (next % 18446744073709551616) ∷ (serving % 18446744073709551616) ∷ (count % 18446744073709551616) ∷ []

module _ {L K R : Type 0} where
  -- nobody has the turn
  abbrev pub IsFree : List (View L K R) → Type 0
  IsFree views = (place : ℕ) (v : View L K R) → get_elem? views place ≡ some v → v.turn ≡ false

  -- the seat that was joined to another is spent
  abbrev pub IsGone : List (View L K R) → Past R → Type 0
  IsGone views past = (past.number < length views) × ((w : View L K R) → get_elem? views past.number ≡ some w → w.spent ≡ true)

  -- the number is that of a seat that isn't spent, or of one that was joined to the first, which isn't
  abbrev pub IsKept : List (View L K R) → ℕ → Type 0
  IsKept views number =
      ((v : View L K R) × (get_elem? views number ≡ some v) × (v.spent ≡ false))
      ⊎ ((v : View L K R) × (at : ℕ) × (past : Past R) × (get_elem? views 0 ≡ some v) × (v.spent ≡ false) × (get_elem? v.joined at ≡ some past)
      × (past.number ≡ number))

module _ {L K R M : Type 0} (law : Ghosts L K R M) where
  -- what a row may follow, by what the book began with
  abbrev pub follows_in : Opening L K → List R → R → Type 0
  follows_in opening = law.follows opening.key.value (law.number opening.state.value)

  -- the state has these rows and the number of the opening state, and is at rest
  pub record IsAtRest (opening : Opening L K) (history : List R) (state : L) : Type 0 where
    pub rows : law.has_rows opening.key.value state history
    pub number : law.number state ≡ law.number opening.state.value
    pub rest : law.at_rest state

  -- a seat that was joined to another left its own rows, and had seen a front of the history
  pub record IsPast (first after : List R) (past : Past R) : Type 0 where
    pub showed : (rows : List R) → past.first ≡ Some rows → rows ≡ first
    pub own : past.own ≡ rows_of law.seat past.number after
    pub saw : BeginsWith (first ++ after) past.seen

  -- a view beside the true numbers and the history, which has the first rows and those after them
  pub record Fits (opening : Opening L K) (first after : List R) (next serving number : ℕ) (v : View L K R) : Type 0 where
    pub opened : v.spent ≡ false → v.opening ≡ Some opening
    pub showed : (rows : List R) → v.first ≡ Some rows → rows ≡ first
    pub numbered : v.spent ≡ false → v.number ≡ number
    pub queued : v.waits ≡ true → (serving ≤ v.ticket) × (v.ticket < next)
    pub waits : v.turn ≡ true → v.waits ≡ true
    pub served : v.turn ≡ true → v.ticket ≡ serving
    pub sees : v.turn ≡ true → v.seen ≡ first ++ after
    pub lives : v.turn ≡ true → v.spent ≡ false
    pub saw : BeginsWith (first ++ after) v.seen
    pub owns : v.spent ≡ false → v.own ≡ rows_of law.seat number after
    pub past : (place : ℕ) (past : Past R) → get_elem? v.joined place ≡ some past → IsPast first after past

  -- the slot is at home, and has the state
  pub record IsHome (opening : Opening L K) (history : List R) (homes : List (maybe.Option (Option L))) : Type 0 where
    pub state : L
    pub there : homes ≡ some (Some state) ∷ []
    pub rests : IsAtRest opening history state

  -- the row names a seat below a number
  abbrev pub NamesBelow : ℕ → R → Type 0
  NamesBelow count row = (number : ℕ) × (law.seat row ≡ Some number) × (number < count)

  -- The history is the first rows, which are those of the opening state, and the rows after them. On the turn: the tickets in the line are
  -- those from the one that is served on, one a seat, and who has the turn has that one; the slot is at home unless somebody has the turn.
  -- On the history: it is lawful, each seat has seen a front of it, and has as its own the rows after the first that name its number.
  -- On the numbers: a seat's is its place, the first seat counts those that were made, and a row after the first names one of these. Each
  -- is kept, and what was joined to another seat, which only the first has, is spent.
  pub record Fair (opening : Opening L K) (s : State (Option L) (View L K R)) : Type 0 where
    pub first : List R
    pub after : List R
    pub next : ℕ
    pub serving : ℕ
    pub begins : law.has_rows opening.key.value opening.state.value first
    pub lawful : IsLawful (follows_in opening) (first ++ after)
    pub words : s.words ≡ words_of next serving (length after)
    pub slot : length s.homes ≡ 1
    pub few : (length s.views ≤ opening.seats) × (opening.seats ≤ 7)
    pub tickets : serving + seats_waiting s.views ≡ next
    pub each : (place : ℕ) (v : View L K R) → get_elem? s.views place ≡ some v → Fits opening first after next serving place v
    pub apart : (i j : ℕ) (v w : View L K R) → get_elem? s.views i ≡ some v → get_elem? s.views j ≡ some w → v.waits ≡ true → w.waits ≡ true
        → v.ticket ≡ w.ticket → i ≡ j
    pub home : IsFree s.views → IsHome opening (first ++ after) s.homes
    pub counts : (v : View L K R) → get_elem? s.views 0 ≡ some v → v.spent ≡ false → v.made ≡ length s.views
    pub named : (place : ℕ) (row : R) → slice_get after place ≡ Some row → NamesBelow (length s.views) row
    pub gone : (place : ℕ) (v : View L K R) → get_elem? s.views place ≡ some v → (at : ℕ) (past : Past R) → get_elem? v.joined at ≡ some past
        → IsGone s.views past
    pub lone : (place : ℕ) (v : View L K R) → get_elem? s.views place ≡ some v → place ≢ 0 → v.joined ≡ []
    pub kept : (number : ℕ) → number < length s.views → IsKept s.views number
