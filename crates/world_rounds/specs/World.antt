-- A world of replicas, by the situation in which they are.
use Rattle.std.specs.Prelude.{◌≡◌, ℕ, true, false, List, [], ◌++◌, length, Some, slice_get}
use Rattle.disk_model.specs.View.{DiskView}
use Rattle.due_set.specs.Table.{Table}
use Rattle.history.specs.Book.{Row}
use Rattle.script_semantics.specs.Situation.{Situation, is_cut}
use Rattle.world_law.specs.Book.{BookState, standing_behind}
use Rattle.world_steps.specs.Nodes.{bases_behind}
use Rattle.world_steps.specs.Parts.{IsBookAt, IsMailOf}
use Rattle.world_steps.specs.Steps.{IsNodeAhead, IsNodeStopped, causes_of, letters_heard_in}
use Rattle.world_steps.specs.declared.steps.Taken.{Taken}
use Rattle.world_rounds.specs.declared.member.Member.{Member}
use Rattle.world_rounds.specs.declared.world.World.{World}
use Rattle.zone_minutes.specs.declared.minute.Minute.{Minute}

-- a replica of the world, which may be some steps ahead of the book
pub record IsMemberAhead {D : Type 0} (view : DiskView D) (table : Table) (rows : List Row) (book : BookState) (situation : Situation) (who : ℕ)
    (steps : List Taken) (member : Member D) : Type 0 where
  pub mail : IsMailOf book.letters situation who (letters_heard_in (causes_of steps)) member.mail
  pub running : (standing_behind table rows book).runs who ≡ true → IsNodeAhead view table rows book who steps member.node
  pub stopped : (standing_behind table rows book).runs who ≡ false
      → IsNodeStopped view table book.members (standing_behind table rows book) (bases_behind table rows book who) who steps member.node

-- The world is in this situation, and behind its book stand these rows; of each replica there may be steps that aren't turns yet.
pub record IsWorldAhead {D : Type 0} (view : DiskView D) (table : Table) (rows : List Row) (world : World D) (situation : Situation)
    (steps : ℕ → List Taken) : Type 0 where
  pub at : IsBookAt table rows world.book situation
  pub count : length world.members.items ≡ world.book.members
  pub each : (who : ℕ) (member : Member D) → slice_get world.members.items who ≡ Some member
      → IsMemberAhead view table rows world.book situation who (steps who) member
  pub cuts : (from to : ℕ) → is_cut from to world.cuts.items ≡ is_cut from to situation.cuts
  pub latest : world.latest.0 ≡ situation.latest

-- the book of a world
abbrev pub book_of : {D : Type 0} → World D → BookState
book_of world = world.book

-- the replicas of a world
abbrev pub members_of : {D : Type 0} → World D → List (Member D)
members_of world = world.members.items

-- from whom to whom letters of a world are lost on the way
abbrev pub cuts_of : {D : Type 0} → World D → List (ℕ × ℕ)
cuts_of world = world.cuts.items

-- the latest clock reading of a world
abbrev pub latest_of : {D : Type 0} → World D → Minute
latest_of world = world.latest

-- no step has been taken that isn't a turn
abbrev pub none_taken : ℕ → List Taken
none_taken who = []

-- **The world is in this situation**, and behind its book stand these rows.
pub record IsWorldAt {D : Type 0} (view : DiskView D) (table : Table) (rows : List Row) (world : World D) (situation : Situation) : Type 0 where
  pub ahead : IsWorldAhead view table rows world situation none_taken
  pub idle : (who : ℕ) (member : Member D) → slice_get world.members.items who ≡ Some member → member.steps.items ≡ []

-- so it is, for some rows and in some situation
pub record IsWorld {D : Type 0} (view : DiskView D) (table : Table) (world : World D) : Type 0 where
  pub rows : List Row
  pub situation : Situation
  pub is : IsWorldAt view table rows world situation

-- **The world goes on by a part**: from whichever situation it was in, some turns are added that are such a part.
abbrev pub GoesOnBy : {D : Type 0} → (view : DiskView D) → Table → (part : Situation → List Row → Situation → Type 0) → (old new : World D) → Type 0
GoesOnBy view table part old new =
    (rows : List Row) (situation : Situation) → IsWorldAt view table rows old situation
    → (more : List Row) × (after : Situation) × part situation more after × IsWorldAt view table (rows ++ more) new after
