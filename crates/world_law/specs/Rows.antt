-- The rows of a book that threads share, and the rows of history behind them.
use Rattle.std.specs.Prelude.{ℕ, List}
use Rattle.std.specs.List.{AllZip}
use Rattle.due_set.specs.Table.{Table}
use Rattle.launch_machine.specs.Clerk.{first_rows}
use Rattle.history.specs.Book.{Row, standing_after}
use Rattle.history.specs.Legal.{IsLegal, MayFollow}
use Rattle.world_law.specs.Book.{BookState, IsRowOf, StandsBehind}
use Rattle.world_law.specs.declared.row.BookRow.{BookRow}

-- the row of history has the turn of the other, and what came of it
abbrev pub HasTurnOf : BookRow → Row → Type 0
HasTurnOf row behind = IsRowOf row.turn row.out behind

-- these are the rows of the book: row by row, the rows that stand behind it have what they have
pub record HasRows (table : Table) (rows : List BookRow) (book : BookState) : Type 0 where
  pub behind : List Row
  pub stands : StandsBehind table behind book
  pub each : AllZip HasTurnOf rows behind

-- **The row may come next after these**: legal rows have what these have, and one that may follow them has what the row has.
pub record MayComeNext (members : ℕ) (table : Table) (before : List BookRow) (row : BookRow) : Type 0 where
  pub behind : List Row
  pub legal : IsLegal members table behind
  pub each : AllZip HasTurnOf before behind
  pub next : Row
  pub is : HasTurnOf row next
  pub may : MayFollow members table (standing_after members (first_rows table) behind) next.turn next
