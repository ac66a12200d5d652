-- What callers know of the writer of a board.
use Rattle.std.specs.Prelude.{◌≡◌, ℕ, ◌+◌, List, [], ◌∷◌, ◌++◌, Bool, true, length, All}
use mathlib.Core.List.{IsPrefix}
use Rattle.logbook.specs.Pages.{Book}
use Rattle.paxos_base.specs.declared.entry.Entry.{Entry}
use Rattle.paxos_base.specs.declared.rows.JobRow.{JobRow}
use Rattle.due_set.specs.Table.{Table}
use Rattle.launch_machine.specs.Clerk.{Applies, first_rows}
use Rattle.launch_machine.specs.Machine.{Launches, StandsFor}
use Rattle.status_board.specs.declared.shown.Shown.{Shown}
use Rattle.status_board.specs.Shown.{IsHistory, IsLast, shown_state_of}
use Rattle.status_board.specs.Sight.{Marked, Sight}

-- the writer of a board: the states that it has had, those of them that are published, its prefix, the machine with its rows, and
-- whether it may be called on. The board's table is one that the machine stands for
pub record Writing : Type 0 where
  pub board : Book
  pub states : List Shown
  pub published : List Shown
  pub prefix : ℕ
  pub machine : Launches
  pub ready : Bool

-- the published states are the first of the writer's, whose prefixes rise. The last of the writer's has its prefix and its rows
pub record ArePublishedInOrder (writer : Writing) : Type 0 where
  pub begins : IsPrefix writer.published writer.states
  pub history : IsHistory (length writer.machine.rows) writer.states
  pub last : writer.ready ≡ true → IsLast writer.states writer.prefix writer.machine.rows

-- a board begins before the log, with fresh rows, which are published
pub record Starts (table : Table) (writer : Writing) : Type 0 where
  pub stands : StandsFor table writer.machine
  pub states : writer.states ≡ shown_state_of 0 (first_rows table) ∷ []
  pub published : writer.published ≡ writer.states
  pub prefix : writer.prefix ≡ 0
  pub rows : writer.machine.rows ≡ first_rows table
  pub ready : writer.ready ≡ true

-- a reader that has seen what is published
abbrev pub sight_of : Writing → Sight
sight_of writer = record { board = writer.board; total = length writer.machine.rows; states = writer.published }

-- readers of the board, which have seen what is published
abbrev pub AreReadersOf : Writing → List Sight → Type 0
AreReadersOf writer readers = All (λ reader. reader ≡ sight_of writer) readers

-- the writer has one state more, of this prefix and these rows
pub record HasNext (old new : Writing) (prefix : ℕ) (rows : List JobRow) : Type 0 where
  pub states : new.states ≡ old.states ++ shown_state_of prefix rows ∷ []
  pub prefix_is : new.prefix ≡ prefix
  pub rows_are : new.machine.rows ≡ rows

-- the entry at the writer's prefix is applied to its rows
pub record Learns (table : Table) (entry : Entry) (old new : Writing) : Type 0 where
  pub applies : Applies table old.machine.rows entry new.machine.rows
  pub next : HasNext old new (old.prefix + 1) new.machine.rows

-- the place of the writer's last state
abbrev pub mark_of : Writing → Marked
mark_of writer = record { board = writer.board; states = writer.states }
