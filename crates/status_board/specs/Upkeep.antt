-- What the writer keeps true of its parts.
use Rattle.std.specs.Prelude.{◌≡◌, List, Bool, true, Some, drop, length, fold}
use mathlib.Core.List.{IsPrefix}
use Rattle.launch_machine.specs.Clerk.{table_size}
use Rattle.paxos_base.specs.Rows.{row_count}
use Rattle.due_set.specs.Table.{Table}
use Rattle.launch_machine.specs.Machine.{StandsFor}
use Rattle.left_right.specs.Sides.{view}
use Rattle.status_board.specs.declared.change.Change.{Change}
use Rattle.status_board.specs.declared.keeper.Keeper.{Keeper}
use Rattle.status_board.specs.Change.{changed}
use Rattle.status_board.specs.History.{word_of}
use Rattle.status_board.specs.Naming.{IsShown, board_name_of}
use Rattle.status_board.specs.Posted.{Posted}
use Rattle.status_board.specs.Shown.{IsHistory}

-- the latest state
abbrev pub latest_posted : Keeper → Posted
latest_posted keeper = record {
  board = keeper.past.book;
  states = keeper.past.log;
  prefix = keeper.latest.prefix;
  rows = keeper.latest.machine.rows;
}

-- what readers are shown
abbrev pub shown_by : Keeper → Posted
shown_by keeper = keeper.shower.desk.shown.value

-- the changes that they aren't shown yet
abbrev pub changes_unshown : Keeper → List Change
changes_unshown keeper = drop keeper.shower.behind keeper.shower.log.items

-- what holds of a keeper at all times, and while it is ready: then the changes lead from what is shown to the latest state
pub record IsKeptUp (table : Table) (ready : Bool) (keeper : Keeper) : Type 0 where
  pub word : keeper.head ≡ word_of keeper.past.book
  pub named : view keeper.shower.desk.place ≡ Some (board_name_of keeper.past.book)
  pub board : (shown_by keeper).board ≡ keeper.past.book
  pub begins : IsPrefix (shown_by keeper).states keeper.past.log
  pub history : IsHistory (row_count (table_size table)) keeper.past.log
  pub stands : StandsFor table keeper.latest.machine
  pub last : ready ≡ true → IsShown (latest_posted keeper)
  pub changes : ready ≡ true → fold changed (shown_by keeper) (changes_unshown keeper) ≡ latest_posted keeper
