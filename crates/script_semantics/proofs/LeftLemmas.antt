-- Who has no further turn: one that has stopped within a step.
use Rattle.std.proofs.Common.{◌≡◌, ℕ, zero, suc, ◌<◌, Bool, false, not, List, [], ◌∷◌, None, Some, inl, inr, refl, sym, ap, ◌∙◌, subst, arith, if◌then◌else◌}
use Rattle.std.specs.Prelude.{⊤, Contains, filter, slice_get}
use Rattle.std.proofs.lemmas.Bool.{cases_Bool}
use Rattle.due_set.proofs.Rising.{Contains-cases, Contains-head, Contains-none, Contains-tail}
use Rattle.history.specs.Book.{Row}
use Rattle.history.specs.declared.turn.Cause.{Cause}
use Rattle.history.specs.declared.turn.Turn.{Turn}
use Rattle.history.specs.declared.turn.Turn.TheVariants.{Did, Stopped, Restarted, Arrived}
use Rattle.script_semantics.specs.Arms.{AreTurnsByArms, IsTurnByArm, is_task_of, tasks_left}
use Rattle.script_semantics.specs.Free.{is_turn_of}
use Rattle.script_semantics.specs.Situation.{Situation, Task, Arrive, Do, Restart, Stop, after_turn}
use Rattle.step_spec.proofs.ListLemmas.{in_filter}

-- none of the tasks is the replica's
abbrev AreOfOthers : ℕ → List Task → Type 0
AreOfOthers who [] = ⊤
AreOfOthers who (task ∷ tasks) = (is_task_of who task ≡ false) × AreOfOthers who tasks

others_left : (who : ℕ) (tasks : List Task) → AreOfOthers who (filter (λ task. not (is_task_of who task)) tasks)
others_left who [] = tt
others_left who (task ∷ tasks) = elim (cases_Bool (is_task_of who task)) [
  | inl is ↦ rw is (others_left who tasks)
  | inr is ↦ subst (λ b. AreOfOthers who (if not b then task ∷ filter (λ some. not (is_task_of who some)) tasks else filter (λ some. not (is_task_of who some)) tasks)) (sym is) (is, others_left who tasks)
]

fewer_others : (who : ℕ) (p : Task → Bool) (tasks : List Task) → AreOfOthers who tasks → AreOfOthers who (filter p tasks)
fewer_others who p [] others = tt
fewer_others who p (task ∷ tasks) others = elim (cases_Bool (p task)) [
  | inl is ↦ rw is (others.0, fewer_others who p tasks others.1)
  | inr is ↦ rw is (fewer_others who p tasks others.1)
]

still_others : (who : ℕ) (turn : Turn) (tasks : List Task) → AreOfOthers who tasks → AreOfOthers who (tasks_left turn tasks)
still_others who (Did other cause made) tasks others = others
still_others who (Stopped other None kept) tasks others = others
still_others who (Stopped other (Some cause) kept) tasks others = fewer_others who (λ task. not (is_task_of other task)) tasks others
still_others who (Restarted other) tasks others = others
still_others who (Arrived number) tasks others = others

turn_of_task : (members : ℕ) (situation : Situation) (who : ℕ) (task : Task) (row : Row) → IsTurnByArm members situation task row
    → is_task_of who task ≡ false → is_turn_of who row.turn ≡ false
turn_of_task members situation who (Do other cause) row (inl takes) others = ap (is_turn_of who) takes.does.is ∙ others
turn_of_task members situation who (Do other cause) row (inr stops) others = ap (is_turn_of who) stops.is ∙ others
turn_of_task members situation who (Stop other) row is others = ap (is_turn_of who) is ∙ others
turn_of_task members situation who (Restart other) row is others = ap (is_turn_of who) is ∙ others
turn_of_task members situation who (Arrive late) row is others = ap (is_turn_of who) is

none_of : (members : ℕ) (situation : Situation) (who : ℕ) (tasks : List Task) (rows : List Row) (place : ℕ) (row : Row) → AreOfOthers who tasks
    → AreTurnsByArms members situation tasks rows → slice_get rows place ≡ Some row → is_turn_of who row.turn ≡ false
none_of members situation who tasks [] place row others turns found = absurd cc
none_of members situation who [] (first ∷ rows) place row others turns found = absurd cc
none_of members situation who (task ∷ tasks) (first ∷ rows) zero row others turns found =
    let same : first ≡ row = cc in
    subst (λ (r : Row). is_turn_of who r.turn ≡ false) same (turn_of_task members situation who task first turns.0 others.0)
none_of members situation who (task ∷ tasks) (first ∷ rows) (suc place) row others turns found =
    none_of members (after_turn members situation first) who (tasks_left first.turn tasks) rows place row (still_others who first.turn tasks others.1) turns.1 found

pub no_further : (members : ℕ) (situation : Situation) (tasks : List Task) (rows : List Row) (first second : ℕ) (one other : Row) (who : ℕ) (cause : Cause) (kept : Bool)
    → AreTurnsByArms members situation tasks rows → slice_get rows first ≡ Some one → slice_get rows second ≡ Some other → first < second
    → one.turn ≡ Stopped who (Some cause) kept → is_turn_of who other.turn ≡ false
no_further members situation tasks [] first second one other who cause kept turns there later below is = absurd cc
no_further members situation [] (row ∷ rows) first second one other who cause kept turns there later below is = absurd cc
no_further members situation (task ∷ tasks) (row ∷ rows) zero zero one other who cause kept turns there later below is = absurd (omega arith)
no_further members situation (task ∷ tasks) (row ∷ rows) (suc first) zero one other who cause kept turns there later below is = absurd (omega arith)
no_further members situation (task ∷ tasks) (row ∷ rows) zero (suc second) one other who cause kept turns there later below is =
    let same : row ≡ one = cc in
    let stops : row.turn ≡ Stopped who (Some cause) kept = ap (λ (r : Row). r.turn) same ∙ is in
    none_of members (after_turn members situation row) who (tasks_left row.turn tasks) rows second other
    (subst (λ (turn : Turn). AreOfOthers who (tasks_left turn tasks)) (sym stops) (others_left who tasks)) turns.1 later
no_further members situation (task ∷ tasks) (row ∷ rows) (suc first) (suc second) one other who cause kept turns there later below is =
    no_further members (after_turn members situation row) (tasks_left row.turn tasks) rows first second one other who cause kept turns.1 there later (omega arith) is

-- ---- all others have their turns

-- a task stays behind a turn, unless its replica stops in it
stays_left : (turn : Turn) (tasks : List Task) (task : Task) → Contains tasks task
    → ((who : ℕ) (cause : Cause) (kept : Bool) → turn ≡ Stopped who (Some cause) kept → is_task_of who task ≡ false) → Contains (tasks_left turn tasks) task
stays_left (Did other cause made) tasks task has other_of = has
stays_left (Stopped other None kept) tasks task has other_of = has
stays_left (Stopped other (Some cause) kept) tasks task has other_of =
    in_filter (λ some. not (is_task_of other some)) tasks task (ap not (other_of other cause kept refl)) has
stays_left (Restarted other) tasks task has other_of = has
stays_left (Arrived number) tasks task has other_of = has

pub has_turn : (members : ℕ) (situation : Situation) (tasks : List Task) (rows : List Row) (task : Task) → AreTurnsByArms members situation tasks rows → Contains tasks task
    → ((row : Row) (who : ℕ) (cause : Cause) (kept : Bool) → Contains rows row → row.turn ≡ Stopped who (Some cause) kept → is_task_of who task ≡ false)
    → (row : Row) × (here : Situation) × Contains rows row × IsTurnByArm members here task row
has_turn members situation tasks [] task turns has others = absurd (Contains-none task (subst (λ (some : List Task). Contains some task) turns has))
has_turn members situation [] (row ∷ rows) task turns has others = absurd cc
has_turn members situation (first ∷ tasks) (row ∷ rows) task turns has others = elim (Contains-cases first tasks task has) [
  | inl same ↦ (row, situation, Contains-head row rows, subst (λ (some : Task). IsTurnByArm members situation some row) same turns.0)
  | inr more ↦
      let (later, here, among, turn) = has_turn members (after_turn members situation row) (tasks_left row.turn tasks) rows task turns.1
      (stays_left row.turn tasks task more (λ who cause kept is. others row who cause kept (Contains-head row rows) is))
      (λ some who cause kept there is. others some who cause kept (Contains-tail row rows some there) is) in
      (later, here, Contains-tail row rows later among, turn)
]
