-- What a replica hears of a round beside a book, and the answer that it takes.
use Rattle.std.specs.Prelude.{◌≡◌, ℕ, List, [], ◌∷◌, Option, None, Some, Contains, map}
use Rattle.disk_model.specs.View.{DiskView}
use Rattle.cluster_sched.specs.declared.row.SchedRow.{SchedRow}
use Rattle.due_set.specs.Table.{Table}
use Rattle.history.specs.Book.{Row}
use Rattle.history.specs.declared.turn.Cause.{Cause}
use Rattle.history.specs.declared.turn.Cause.TheVariants.{Hear, Answer}
use Rattle.replica_node.specs.declared.node.Node.{Node}
use Rattle.world_law.specs.Book.{BookState}
use Rattle.world_steps.specs.Parts.{IsSentTo}
use Rattle.world_steps.specs.Steps.{IsBeside, waits_in}
use Rattle.world_steps.specs.declared.steps.Taken.{Taken}

-- a node takes the answer that waits for it, where one does
pub record MayTakeAnswer {D : Type 0} (view : DiskView D) (table : Table) (rows : List Row) (book : BookState) (who : ℕ) (waits : Option SchedRow)
    (node : Node D) : Type 0 where
  pub beside : IsBeside view table rows book who [] node
  pub waiting : waits ≡ waits_in table rows book who

-- it hears letters that go to it
pub record MayHear {D : Type 0} (view : DiskView D) (table : Table) (rows : List Row) (book : BookState) (who : ℕ) (steps : List Taken)
    (node : Node D) (letters : List ℕ) : Type 0 where
  pub beside : IsBeside view table rows book who steps node
  pub sent : (number : ℕ) → Contains letters number → IsSentTo book.letters who number

-- an answer that waits is taken
abbrev pub answer_causes : Option SchedRow → List Cause
answer_causes None = []
answer_causes (Some row) = Answer ∷ []

-- the letters of these numbers are heard
abbrev pub hear_causes : List ℕ → List Cause
hear_causes letters = map Hear letters
