-- What a replica takes that stands for leader, before its turn joins the book.
use Rattle.std.specs.Prelude.{◌≡◌, ℕ, List, [], ◌∷◌}
use Rattle.disk_model.specs.View.{DiskView}
use Rattle.due_set.specs.Table.{Table}
use Rattle.history.specs.Book.{Row}
use Rattle.history.specs.declared.turn.Cause.TheVariants.{Campaign}
use Rattle.script_semantics.specs.Situation.{Situation}
use Rattle.world_law.specs.Book.{BookState}
use Rattle.world_steps.specs.Steps.{causes_of}
use Rattle.world_rounds.specs.Rounds.{IsMemberIdle}
use Rattle.world_rounds.specs.World.{IsMemberAhead}
use Rattle.world_rounds.specs.declared.member.Member.{Member}

-- the replica is ahead of the book by its campaign
pub record HasStood {D : Type 0} (view : DiskView D) (table : Table) (rows : List Row) (book : BookState) (situation : Situation) (who : ℕ)
    (member : Member D) : Type 0 where
  pub ahead : IsMemberAhead view table rows book situation who member.steps.items member
  pub causes : causes_of member.steps.items ≡ Campaign ∷ []

-- whatever rows stand behind the book
abbrev pub TakesCampaign : {D : Type 0} → (view : DiskView D) → Table → BookState → (old new : Member D) → Type 0
TakesCampaign view table book old new =
    (rows : List Row) (situation : Situation) (who : ℕ) → IsMemberIdle view table rows book situation who old
    → HasStood view table rows book situation who new
