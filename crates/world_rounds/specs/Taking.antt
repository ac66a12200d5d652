-- How a world goes on by turns, one after another.
use Rattle.std.specs.Prelude.{◌≡◌, ◌≢◌, ℕ, ◌<◌, List, [], ◌++◌, length, map, Option, None, Some, slice_get}
use Rattle.disk_model.specs.View.{DiskView}
use Rattle.due_set.specs.Table.{Table}
use Rattle.history.specs.Book.{Row, with_fact}
use Rattle.history.specs.declared.turn.Cause.{Cause}
use Rattle.script_semantics.specs.Situation.{AreTurnsFor, Do, Situation, Task, after_turns}
use Rattle.world_steps.specs.Steps.{causes_of}
use Rattle.world_steps.specs.declared.steps.Taken.{Taken}
use Rattle.world_rounds.specs.World.{IsWorldAhead, book_of}
use Rattle.world_rounds.specs.declared.member.Member.{Member}
use Rattle.world_rounds.specs.declared.world.World.{World}

-- what a replica is to do for some causes
abbrev pub tasks_by : ℕ → List Cause → List Task
tasks_by who causes = map (Do who) causes

-- the turns of these tasks have been taken, and these steps are left
pub record HasTakenTurns {D : Type 0} (view : DiskView D) (table : Table) (members : ℕ) (rows : List Row) (situation : Situation) (tasks : List Task)
    (left : ℕ → List Taken) (world : World D) : Type 0 where
  pub members_are : (book_of world).members ≡ members
  pub more : List Row
  pub turns : AreTurnsFor members situation tasks more
  pub ahead : IsWorldAhead view table (rows ++ more) world (after_turns members situation more) left

-- a replica of the world is a step ahead, and then some
pub record MayCommit {D : Type 0} (view : DiskView D) (table : Table) (world : World D) (who : ℕ) (steps : List Taken) : Type 0 where
  pub rows : List Row
  pub situation : Situation
  pub ahead_by : ℕ → List Taken
  pub ahead : IsWorldAhead view table rows world situation ahead_by
  pub mine : ahead_by who ≡ steps
  pub member : who < length world.members.items

-- **The world has taken some turns of a replica**: whatever it was, the first steps of the replica are turns, and the others are left.
abbrev pub TakesTurns : {D : Type 0} → (view : DiskView D) → Table → (who : ℕ) → (steps more : List Taken) → (old new : World D) → Type 0
TakesTurns view table who steps more old new =
    (rows : List Row) (situation : Situation) (ahead_by : ℕ → List Taken) → IsWorldAhead view table rows old situation ahead_by
    → ahead_by who ≡ steps ++ more
    → HasTakenTurns view table (book_of old).members rows situation (tasks_by who (causes_of steps)) (with_fact who more ahead_by) new

-- ---- by the steps that the replicas of a world have at hand

-- the steps of a replica that aren't turns yet
abbrev pub steps_left_to : {D : Type 0} → Option (Member D) → List Taken
steps_left_to None = []
steps_left_to (Some member) = member.steps.items

-- the steps at hand of a replica by its number: those that aren't turns yet
abbrev pub steps_at : {D : Type 0} → World D → ℕ → List Taken
steps_at world who = steps_left_to (slice_get world.members.items who)

-- each replica of the world is ahead of the book by just those
abbrev pub IsAhead : {D : Type 0} → (view : DiskView D) → Table → List Row → World D → Situation → Type 0
IsAhead view table rows world situation = IsWorldAhead view table rows world situation (steps_at world)

-- so they are, for some rows and in some situation
pub record MayCommitOwn {D : Type 0} (view : DiskView D) (table : Table) (world : World D) : Type 0 where
  pub rows : List Row
  pub situation : Situation
  pub ahead : IsAhead view table rows world situation

-- **The world has taken the turns of a replica's steps**, and those of others are left.
abbrev pub CommitsOwn : {D : Type 0} → (view : DiskView D) → Table → (who : ℕ) → (old new : World D) → Type 0
CommitsOwn view table who old new =
    (rows : List Row) (situation : Situation) → IsAhead view table rows old situation
    → HasTakenTurns view table (book_of old).members rows situation (tasks_by who (causes_of (steps_at old who))) (steps_at new) new

-- each replica has the steps at hand that it had
pub record KeepsSteps {D : Type 0} (old new : World D) : Type 0 where
  pub each : (who : ℕ) → steps_at new who ≡ steps_at old who
  pub count : length new.members.items ≡ length old.members.items

-- one replica has put down its steps, and the others have those that they had
pub record PutsDown {D : Type 0} (who : ℕ) (old new : World D) : Type 0 where
  pub mine : steps_at new who ≡ []
  pub others : (other : ℕ) → other ≢ who → steps_at new other ≡ steps_at old other
  pub count : length new.members.items ≡ length old.members.items
