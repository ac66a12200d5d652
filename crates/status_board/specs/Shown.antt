-- The states of a board, one after another.
use Rattle.std.specs.Prelude.{◌≡◌, ℕ, ◌<◌, List, [], ◌∷◌, ◌++◌, Some, slice_get}
use Rattle.paxos_base.specs.declared.rows.JobRow.{JobRow}
use Rattle.paxos_base.specs.Rows.{AreNumbered, fresh_rows}
use Rattle.status_board.specs.declared.shown.Shown.{Shown}

-- the state with this prefix and these rows
abbrev pub shown_state_of : ℕ → List JobRow → Shown
shown_state_of prefix rows = record { prefix = prefix; rows = rows }

-- the last of the states has this prefix and these rows
abbrev pub IsLast : List Shown → ℕ → List JobRow → Type 0
IsLast states prefix rows = (before : List Shown) × (states ≡ before ++ shown_state_of prefix rows ∷ [])

-- of two states the later has the higher prefix
abbrev pub PrefixesRise : List Shown → Type 0
PrefixesRise states =
    (j k : ℕ) (earlier later : Shown) → j < k → slice_get states j ≡ Some earlier → slice_get states k ≡ Some later
    → earlier.prefix < later.prefix

-- each state has so many rows, each at its job's number
abbrev pub HaveRowsOf : ℕ → List Shown → Type 0
HaveRowsOf total states = (k : ℕ) (state : Shown) → slice_get states k ≡ Some state → AreNumbered state.rows total

-- the states of a board of so many rows: they begin before the log with fresh rows, and their prefixes rise
pub record IsHistory (total : ℕ) (states : List Shown) : Type 0 where
  pub begins : slice_get states 0 ≡ Some (shown_state_of 0 (fresh_rows total))
  pub rise : PrefixesRise states
  pub rows : HaveRowsOf total states
