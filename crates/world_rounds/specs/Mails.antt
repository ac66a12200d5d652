-- How letters join the mails of a world.
use Rattle.std.specs.Prelude.{ℕ, List, [], ◌∷◌, ◌++◌, if◌then◌else◌, slice_get}
use Rattle.disk_model.specs.View.{DiskView}
use Rattle.due_set.specs.Table.{Table}
use Rattle.history.specs.Book.{Row}
use Rattle.script_semantics.specs.Situation.{Situation, reaches}
use Rattle.world_rounds.specs.World.{IsWorldAt}
use Rattle.world_rounds.specs.declared.world.World.{World}

-- a letter, where it reaches the replica
abbrev pub arrival_of : Situation → ℕ → ℕ → List ℕ
arrival_of situation number who = if reaches situation who (slice_get situation.standing.posted number) then number ∷ [] else []

-- a letter has joined the mail of its addressee, where it reaches that
abbrev pub arrived : ℕ → Situation → Situation
arrived number situation = record situation { mails = λ who. situation.mails who ++ arrival_of situation number who }

-- **The situation of the world changes**, and no turn is added.
abbrev pub Changes : {D : Type 0} → (view : DiskView D) → (change : Situation → Situation) → (old new : World D) → Type 0
Changes view change old new =
    (table : Table) (rows : List Row) (situation : Situation) → IsWorldAt view table rows old situation
    → IsWorldAt view table rows new (change situation)
