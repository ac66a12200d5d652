-- What a replica takes in a round, before its turns join the book.
use Rattle.std.specs.Prelude.{◌≡◌, ℕ, List, [], ℤ, length, false, Some, slice_get}
use Rattle.std.specs.List.{flat_map, range_with_len}
use Rattle.disk_model.specs.View.{DiskView}
use Rattle.due_set.specs.Table.{Table}
use Rattle.history.specs.Book.{Row}
use Rattle.script_semantics.specs.Round.{tasks_of}
use Rattle.script_semantics.specs.Situation.{Situation, Task}
use Rattle.world_law.specs.Book.{BookState}
use Rattle.world_steps.specs.Steps.{causes_of}
use Rattle.world_rounds.specs.Taking.{HasTakenTurns, IsAhead, steps_at, tasks_by}
use Rattle.world_steps.specs.Parts.{IsBookAt}
use Rattle.world_rounds.specs.World.{IsMemberAhead, book_of}
use Rattle.world_rounds.specs.declared.member.Member.{Member}
use Rattle.world_rounds.specs.declared.world.World.{World}

-- a replica beside a book at rest that has taken no step since
pub record IsMemberIdle {D : Type 0} (view : DiskView D) (table : Table) (rows : List Row) (book : BookState) (situation : Situation) (who : ℕ)
    (member : Member D) : Type 0 where
  pub at : IsBookAt table rows book situation
  pub ahead : IsMemberAhead view table rows book situation who [] member
  pub none : member.steps.items ≡ []

-- so it is, by some rows
pub record MayTakeRound {D : Type 0} (view : DiskView D) (table : Table) (book : BookState) (member : Member D) : Type 0 where
  pub rows : List Row
  pub situation : Situation
  pub who : ℕ
  pub idle : IsMemberIdle view table rows book situation who member

-- the replica has taken the steps of a round, and is ahead of the book by them
pub record HasTakenRound {D : Type 0} (view : DiskView D) (table : Table) (rows : List Row) (book : BookState) (situation : Situation) (at : ℤ)
    (who : ℕ) (member : Member D) : Type 0 where
  pub ahead : IsMemberAhead view table rows book situation who member.steps.items member
  pub tasks : tasks_by who (causes_of member.steps.items) ≡ tasks_of table.window at situation who

-- whatever rows stand behind the book
abbrev pub TakesRound : {D : Type 0} → (view : DiskView D) → Table → BookState → (at : ℤ) → (old new : Member D) → Type 0
TakesRound view table book at old new =
    (rows : List Row) (situation : Situation) (who : ℕ) → IsMemberIdle view table rows book situation who old
    → HasTakenRound view table rows book situation at who new

-- so it does where memory was not wanting
abbrev pub RunsRound : {D : Type 0} → (view : DiskView D) → Table → BookState → (at : ℤ) → (old new : Member D) → Type 0
RunsRound view table book at old new = new.short ≡ false → TakesRound view table book at old new

-- ---- all replicas

-- each replica takes its steps of a round
pub record AllTakeRounds {D : Type 0} (view : DiskView D) (table : Table) (book : BookState) (at : ℤ) (old new : List (Member D)) : Type 0 where
  pub count : length new ≡ length old
  pub each : (who : ℕ) (one two : Member D) → slice_get old who ≡ Some one → slice_get new who ≡ Some two → TakesRound view table book at one two

-- what the steps of all replicas come to, in the order of their numbers
abbrev pub tasks_at_hand : {D : Type 0} → World D → List Task
tasks_at_hand world = flat_map (λ who. tasks_by who (causes_of (steps_at world who))) (range_with_len 0 (length world.members.items))

-- **The world has taken the turns of all steps that its replicas have at hand.**
pub record CommitsAll {D : Type 0} (view : DiskView D) (table : Table) (old new : World D) : Type 0 where
  pub commits : (rows : List Row) (situation : Situation) → IsAhead view table rows old situation
      → HasTakenTurns view table (book_of old).members rows situation (tasks_at_hand old) (steps_at new) new
  pub down : (who : ℕ) → steps_at new who ≡ []
