-- A legal book that goes on with a part of a script, whatever came before.
use Rattle.std.specs.Prelude.{◌≡◌, ℕ, ◌≤◌, List, ◌++◌}
use Rattle.due_set.specs.Table.{IsSound, Table}
use Rattle.launch_machine.specs.Clerk.{first_rows}
use Rattle.history.specs.Book.{Row, standing_after}
use Rattle.history.specs.Legal.{IsLegal}
use Rattle.script_semantics.specs.Situation.{Situation}
use Rattle.settling.specs.Rounds.{IsWithinBounds}

-- **The book of one to seven replicas is legal and goes on with a part, within the limits.** Before it replicas may have stopped,
-- letters may wait or be lost, clocks may be wrong, and calls may be lost or late.
pub record ContinuesBy (part : Situation → List Row → Situation → Type 0) (members : ℕ) (table : Table) (book rows : List Row)
    (situation after : Situation) : Type 0 where
  pub some : 1 ≤ members
  pub few : members ≤ 7
  pub sound : IsSound table
  pub legal : IsLegal members table (book ++ rows)
  pub standing : situation.standing ≡ standing_after members (first_rows table) book
  pub goes : part situation rows after
  pub limits : IsWithinBounds (book ++ rows) after.standing.posted
