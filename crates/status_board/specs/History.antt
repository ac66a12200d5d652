-- The rule of the book in which the states of a board stand, and what its step tells.
use Rattle.std.specs.Prelude.{◌≡◌, ℕ, ◌==◌, true, List, [], ◌∷◌, ◌++◌, MatchBool, ⊤}
use Rattle.logbook.specs.Pages.{Book, Cell, Named, Step, View}
use Rattle.paxos_base.specs.declared.rows.JobRow.{JobRow}
use Rattle.status_board.specs.declared.shown.Shown.{Shown}
use Rattle.status_board.specs.Shown.{IsHistory, IsLast}

-- the book's one word is the prefix of the last state
pub record IsKept (cells : List Cell) (states : List Shown) : Type 0 where
  pub total : ℕ
  pub prefix : ℕ
  pub rows : List JobRow
  pub word : cells ≡ (prefix, true) ∷ []
  pub last : IsLast states prefix rows
  pub history : IsHistory total states

-- they are the states of a board
abbrev pub AreOfBoard : List Shown → Type 0
AreOfBoard states = (total : ℕ) × IsHistory total states

-- the book's word
abbrev pub word_of : Book → Named
word_of book = record { tracked = true; key = 0; book = book }

-- where the word was as expected, the state comes after all that had been seen
abbrev pub AddsState : Step Shown → View Shown ℕ → ℕ → View Shown ℕ → Type 0
AddsState step before found after =
    AreOfBoard after.0 × MatchBool (found == step.old) (after.0 ≡ before.0 ++ step.ask ∷ []) ⊤
