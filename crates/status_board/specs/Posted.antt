-- What readers are shown, and how the operations of the writer change it.
use Rattle.std.specs.Prelude.{ℕ, List}
use Rattle.logbook.specs.Pages.{Book}
use Rattle.paxos_base.specs.declared.rows.JobRow.{JobRow}
use Rattle.status_board.specs.declared.shown.Shown.{Shown}

-- a state on a board, and the states of the board up to it
pub record Posted : Type 0 where
  pub board : Book
  pub states : List Shown
  pub prefix : ℕ
  pub rows : List JobRow
