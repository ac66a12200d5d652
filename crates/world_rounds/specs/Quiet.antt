-- What a world in which all run tells of who has nothing left to do.
use Rattle.std.specs.Prelude.{◌≡◌, ◌↔◌, ℕ, true, List, IsTrue, Bool, Some, slice_get}
use Rattle.disk_model.specs.View.{DiskView}
use Rattle.due_set.specs.Table.{Table}
use Rattle.history.specs.Book.{Row}
use Rattle.script_semantics.specs.Situation.{Situation}
use Rattle.world_rounds.specs.World.{IsWorldAt}
use Rattle.world_rounds.specs.declared.member.Member.{Member}
use Rattle.world_rounds.specs.declared.world.World.{World}

-- each replica of the world runs
abbrev pub AllRun : {D : Type 0} → World D → Type 0
AllRun {D = D} world = (who : ℕ) (member : Member D) → slice_get world.members.items who ≡ Some member → member.mail.runs ≡ true

-- **The answer is true just where this holds of the situation**, whichever the world is in.
abbrev pub AnswersFor : {D : Type 0} → (view : DiskView D) → Table → (holds : Situation → Type 0) → World D → Bool → Type 0
AnswersFor view table holds world answer =
    (rows : List Row) (situation : Situation) → IsWorldAt view table rows world situation → IsTrue answer ↔ holds situation

-- the world is in this situation, whatever rows stand behind its book
abbrev pub IsIn : {D : Type 0} → (view : DiskView D) → Table → World D → Situation → Type 0
IsIn view table world situation = (rows : List Row) × IsWorldAt view table rows world situation
