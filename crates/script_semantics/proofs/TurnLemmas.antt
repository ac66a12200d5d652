-- Turns of tasks.
use Rattle.std.proofs.Common.{◌≡◌, ℕ, List, [], ◌∷◌, length, ap, suc, Some, None, refl}
use Rattle.history.specs.Book.{Row, Standing, acts_at}
use Rattle.script_semantics.specs.Situation.{AreTurnsFor, Situation, Task, after_turn, changes_in}
use Rattle.due_set.specs.Table.{Table}
use Rattle.step_spec.specs.Folds.{deltas_of}
use Rattle.step_spec.specs.Step.{Event}
use Rattle.history.specs.Legal.{MayFollow}
use Rattle.history.specs.declared.turn.Turn.{Turn}
use Rattle.history.specs.declared.turn.Turn.TheVariants.{Did, Stopped, Restarted, Arrived}
use Rattle.history.proofs.Keeping.{one_event}

pub as_many : (members : ℕ) (situation : Situation) (tasks : List Task) (rows : List Row) → AreTurnsFor members situation tasks rows → length rows ≡ length tasks
as_many members situation [] rows turns = ap length turns
as_many members situation (task ∷ tasks) [] turns = ap length turns
as_many members situation (task ∷ tasks) (row ∷ rows) turns = ap suc (as_many members (after_turn members situation row) tasks rows turns.1)

-- turns that may follow and are the same change the same, since their causes tell the same
pub same_changes : (members : ℕ) (table : Table) (standing : Standing) (turn : Turn) (row other : Row) → MayFollow members table standing turn row
    → MayFollow members table standing turn other → changes_in members standing turn row.event ≡ changes_in members standing turn other.event
same_changes members table standing (Did who cause made) row other a b =
    ap (λ (event : Event). deltas_of (acts_at members standing who event)) (one_event members table standing who cause row.event other.event a.0 b.0)
same_changes members table standing (Stopped who None kept) row other a b = refl
same_changes members table standing (Stopped who (Some cause) kept) row other a b =
    ap (λ (event : Event). deltas_of (acts_at members standing who event)) (one_event members table standing who cause row.event other.event a.0 b.0)
same_changes members table standing (Restarted who) row other a b = refl
same_changes members table standing (Arrived number) row other a b = refl
