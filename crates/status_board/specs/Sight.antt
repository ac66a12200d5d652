-- What callers know of a mark, of a reader and of a view.
use Rattle.std.specs.Prelude.{◌≡◌, ℕ, List}
use mathlib.Core.List.{IsPrefix}
use Rattle.logbook.specs.Pages.{Book}
use Rattle.paxos_base.specs.declared.rows.JobRow.{JobRow}
use Rattle.status_board.specs.declared.shown.Shown.{Shown}
use Rattle.status_board.specs.Shown.{IsHistory, IsLast}

-- a place in the published states of a board: those up to it
pub record Marked : Type 0 where
  pub board : Book
  pub states : List Shown

-- a reader of a board of so many rows: the states that it has seen, or was told of
pub record Sight : Type 0 where
  pub board : Book
  pub total : ℕ
  pub states : List Shown

-- a state of a board, which is seen, and the states that have been seen by then
pub record Viewed : Type 0 where
  pub board : Book
  pub total : ℕ
  pub states : List Shown
  pub prefix : ℕ
  pub rows : List JobRow

-- the last of the states has this prefix
abbrev pub HasLastPrefix : List Shown → ℕ → Type 0
HasLastPrefix states prefix = (rows : List JobRow) × IsLast states prefix rows

-- what is viewed is a state of the board that the reader is of. It is the last of the states that have been seen by then, whose
-- prefixes rise; and they begin with all that the reader had seen before, and was told of
pub record ViewsOn (reader : Sight) (view : Viewed) : Type 0 where
  pub board : view.board ≡ reader.board
  pub total : view.total ≡ reader.total
  pub begins : IsPrefix reader.states view.states
  pub last : IsLast view.states view.prefix view.rows
  pub history : IsHistory view.total view.states
