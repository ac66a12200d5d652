-- Turns of tasks on disks that may be armed, one after another: which tasks are left, and where they stop.
use Rattle.std.proofs.Common.{◌≡◌, ℕ, List, [], ◌∷◌, ◌++◌, refl, sym, subst}
use Rattle.history.specs.Book.{Row}
use Rattle.history.specs.declared.turn.Turn.{Turn}
use Rattle.script_semantics.specs.Arms.{AreTurnsByArms, IsTurnByArm, PlaysByArms, tasks_left}
use Rattle.script_semantics.specs.Situation.{Situation, Task, after_turn, after_turns}
use Rattle.journal_text.proofs.Twins.{AreTwins, after_twin}
use Rattle.run_audit.specs.Begins.{BeginsToPlayByArms, BeginsTurnsByArms}
use Rattle.run_audit.specs.Played.{StopsIn}

-- the rows are turns of the first tasks, and these tasks are left behind them
abbrev pub LeavesTasks : ℕ → Situation → List Task → List Row → List Task → Type 0
LeavesTasks members situation tasks [] left = tasks ≡ left
LeavesTasks members situation [] (row ∷ rows) left = ⊥
LeavesTasks members situation (task ∷ tasks) (row ∷ rows) left =
    IsTurnByArm members situation task row × LeavesTasks members (after_turn members situation row) (tasks_left row.turn tasks) rows left

-- the next task's turn is one more
pub task_more : (members : ℕ) (situation : Situation) (tasks : List Task) (rows : List Row) (task : Task) (left : List Task) (row : Row)
    → LeavesTasks members situation tasks rows (task ∷ left) → IsTurnByArm members (after_turns members situation rows) task row
    → LeavesTasks members situation tasks (rows ++ row ∷ []) (tasks_left row.turn left)
task_more members situation [] [] task left row leaves turn = cc
task_more members situation (first ∷ tasks) [] task left row leaves turn =
    let same : first ≡ task = cc in
    let rest : tasks ≡ left = cc in
    (subst (λ (t : Task). IsTurnByArm members situation t row) (sym same) turn, subst (λ (l : List Task). tasks_left row.turn tasks ≡ tasks_left row.turn l) rest refl)
task_more members situation [] (other ∷ rows) task left row leaves turn = leaves
task_more members situation (first ∷ tasks) (other ∷ rows) task left row leaves turn =
    (leaves.0, task_more members (after_turn members situation other) (tasks_left other.turn tasks) rows task left row leaves.1 turn)

-- where no task is left the turns are those of all
pub all_taken : (members : ℕ) (situation : Situation) (tasks : List Task) (rows : List Row) → LeavesTasks members situation tasks rows []
    → AreTurnsByArms members situation tasks rows
all_taken members situation tasks [] leaves = leaves
all_taken members situation [] (row ∷ rows) leaves = absurd leaves
all_taken members situation (task ∷ tasks) (row ∷ rows) leaves =
    (leaves.0, all_taken members (after_turn members situation row) (tasks_left row.turn tasks) rows leaves.1)

begun : (members : ℕ) (situation : Situation) (tasks : List Task) (rows : List Row) (left : List Task) → LeavesTasks members situation tasks rows left
    → BeginsTurnsByArms members situation tasks rows
begun members situation tasks [] left leaves = tt
begun members situation [] (row ∷ rows) left leaves = leaves
begun members situation (task ∷ tasks) (row ∷ rows) left leaves =
    (leaves.0, begun members (after_turn members situation row) (tasks_left row.turn tasks) rows left leaves.1)

not_all : (members : ℕ) (situation : Situation) (tasks : List Task) (rows : List Row) (task : Task) (left : List Task) (front more : List Row)
    → LeavesTasks members situation tasks rows (task ∷ left) → AreTurnsByArms members situation tasks front → AreTwins members situation.standing rows (front ++ more) → ⊥
not_all members situation tasks [] task left [] more leaves all twins = cc
not_all members situation tasks [] task left (other ∷ front) more leaves all twins = twins
not_all members situation [] (row ∷ rows) task left front more leaves all twins = leaves
not_all members situation (first ∷ tasks) (row ∷ rows) task left [] more leaves all twins = cc
not_all members situation (first ∷ tasks) (row ∷ rows) task left (other ∷ front) more leaves all twins =
    let (turn, stands, changes, others) = twins in
    let here = after_turn members situation row in
    let same : here ≡ after_turn members situation other = after_twin members situation row other turn stands changes in
    not_all members here (tasks_left row.turn tasks) rows task left front more leaves.1
    (subst (λ (at : Situation). AreTurnsByArms members at (tasks_left row.turn tasks) front) (sym same)
    (subst (λ (had : Turn). AreTurnsByArms members (after_turn members situation other) (tasks_left had tasks) front) (sym turn) all.1)) others

no_other : (members : ℕ) (situation : Situation) (tasks : List Task) (rows : List Row) (task : Task) (left : List Task) (others : List Row) (row : Row)
    → LeavesTasks members situation tasks rows (task ∷ left) → AreTwins members situation.standing rows others
    → (IsTurnByArm members (after_turns members situation rows) task row → ⊥) → BeginsTurnsByArms members situation tasks (others ++ row ∷ []) → ⊥
no_other members situation tasks [] task left [] row leaves twins none begins =
    none (subst (λ (l : List Task). BeginsTurnsByArms members situation l (row ∷ [])) leaves begins).0
no_other members situation tasks [] task left (other ∷ others) row leaves twins none begins = twins
no_other members situation [] (first ∷ rows) task left others row leaves twins none begins = leaves
no_other members situation (given ∷ tasks) (first ∷ rows) task left [] row leaves twins none begins = twins
no_other members situation (given ∷ tasks) (first ∷ rows) task left (other ∷ others) row leaves twins none begins =
    let (turn, stands, changes, behind) = twins in
    let here = after_turn members situation first in
    let same : here ≡ after_turn members situation other = after_twin members situation first other turn stands changes in
    no_other members here (tasks_left first.turn tasks) rows task left others row leaves.1 behind none
    (subst (λ (at : Situation). BeginsTurnsByArms members at (tasks_left first.turn tasks) (others ++ row ∷ [])) (sym same)
    (subst (λ (had : Turn). BeginsTurnsByArms members (after_turn members situation other) (tasks_left had tasks) (others ++ row ∷ [])) (sym turn) begins.1))

-- **Turns of tasks stop where the next row that may come isn't the turn of the next task that is left.**
pub plays_by_stop : (members : ℕ) (asked : Situation → List Task) (situation : Situation) (rows : List Row) (task : Task) (left : List Task) (Next : Row → Type 0)
    → LeavesTasks members situation (asked situation) rows (task ∷ left)
    → ((row : Row) → Next row → IsTurnByArm members (after_turns members situation rows) task row → ⊥)
    → StopsIn members (BeginsToPlayByArms members asked) (PlaysByArms members asked) Next situation rows
plays_by_stop members asked situation rows task left Next leaves none = record {
  begun = begun members situation (asked situation) rows (task ∷ left) leaves;
  not_whole = λ front more after is twins. not_all members situation (asked situation) rows task left front more leaves is.turns twins;
  stuck = λ others row twins is begins. no_other members situation (asked situation) rows task left others row leaves twins (none row is) begins;
}
