-- A part that threads are to take, and the rows of it so far.
use Rattle.std.specs.Prelude.{◌≡◌, ℕ, ℤ, List, ◌++◌, map}
use Rattle.std.specs.List.{AllZip}
use Rattle.due_set.specs.Table.{Table}
use Rattle.history.specs.Book.{Row}
use Rattle.history.specs.Legal.{IsLegal}
use Rattle.replica_core.specs.declared.out.StepOut.{StepOut}
use Rattle.script_semantics.specs.Free.{Course, course_of}
use Rattle.script_semantics.specs.Situation.{Situation}
use Rattle.turn_book.specs.Turns.{opening_of}
use Rattle.turn_book.specs.declared.book.TurnBook.{TurnBook}
use Rattle.turn_book.specs.declared.book.TurnSeat.{TurnSeat}
use Rattle.world_law.specs.Book.{BookState}
use Rattle.world_law.specs.Rows.{HasTurnOf}
use Rattle.world_law.specs.declared.row.BookRow.{BookRow}
use Rattle.world_free.specs.declared.job.Setting.{Setting}

-- a book that threads share
abbrev pub SharedBook : Type 0
SharedBook = TurnBook BookState Table BookRow StepOut

-- a seat at such a book
abbrev pub Seat : Type 0
Seat = TurnSeat BookState Table BookRow StepOut

-- The table of jobs, the book and the situation with which the part begins, its instant, and how many turns each replica has; and, as
-- the threads have it, how many replicas there are, and from whom to whom letters are lost.
pub record FreePlan : Type 0 where
  pub table : Table
  pub book : BookState
  pub situation : Situation
  pub at : ℤ
  pub turns : ℕ
  pub members : ℕ
  pub cuts : List (ℕ × ℕ)

-- the plan of a part that begins in this situation, by what its threads are handed
abbrev pub plan_of : Table → SharedBook → Situation → Setting → FreePlan
plan_of table book situation setting =
    record {
      table = table;
      book = (opening_of book).state.value;
      situation = situation;
      at = setting.at.0;
      turns = setting.turns;
      members = setting.members;
      cuts = setting.cuts.items;
    }

-- how far a replica has come in it by these rows
abbrev pub course_in : FreePlan → ℕ → List Row → Course
course_in plan who more = course_of plan.book.members who plan.situation more

-- Rows with which the part began, and rows of it: they are legal, the book that the part began with has the turns of the one, and these rows
-- of the shared book are those of the other.
pub record ArePlayed (plan : FreePlan) (after : List BookRow) (begun more : List Row) : Type 0 where
  pub legal : IsLegal plan.book.members plan.table (begun ++ more)
  pub turns : plan.book.turns ≡ map (λ row. row.turn) begun
  pub each : AllZip HasTurnOf after more
