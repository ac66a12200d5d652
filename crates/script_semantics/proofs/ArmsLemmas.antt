-- Where no disk is armed, the turns are those of the tasks.
use Rattle.std.proofs.Common.{◌≡◌, ℕ, ◌==◌, List, [], ◌∷◌, Option, None, Some, refl, sym, ap, ◌∙◌, subst, inl, inr}
use Rattle.std.proofs.lemmas.Bool.{cases_Bool, eqb-true}
use Rattle.paxos_base.specs.declared.durable.Delta.{Delta}
use Rattle.history.specs.Book.{Row, with_fact}
use Rattle.history.specs.declared.turn.Turn.{Turn}
use Rattle.history.specs.declared.turn.Turn.TheVariants.{Did, Stopped, Restarted, Arrived}
use Rattle.script_semantics.specs.Arms.{AreTurnsByArms, AreUnarmed, IsEnough, IsTurnByArm, PerformsByArms, tasks_left}
use Rattle.script_semantics.specs.Situation.{AreTurnsFor, Armed, IsTurnFor, Performs, Situation, Task, Arrive, Do, Restart, Stop, after_turn, after_turns, armed_after, arms_after, changes_in}

same_fact : {A : Type 0} (who : ℕ) (fact : A) (facts : ℕ → A) (other : ℕ) → fact ≡ facts who → with_fact who fact facts other ≡ facts other
same_fact who fact facts other same = elim (cases_Bool (other == who)) [
  | inl is ↦ rw is (same ∙ ap facts (sym (eqb-true other who is)))
  | inr differs ↦ rw differs refl
]

still_unarmed : (turn : Turn) (changes : List Delta) (arms : ℕ → Option Armed) → ((who : ℕ) → arms who ≡ None) → (who : ℕ) → arms_after turn changes arms who ≡ None
still_unarmed (Did other cause made) changes arms none who = same_fact other (armed_after changes (arms other)) arms who (ap (armed_after changes) (none other) ∙ sym (none other)) ∙ none who
still_unarmed (Stopped other cause kept) changes arms none who = same_fact other None arms who (sym (none other)) ∙ none who
still_unarmed (Restarted other) changes arms none who = none who
still_unarmed (Arrived number) changes arms none who = none who

-- a turn of a task leaves the tasks behind it
plain_turn : (members : ℕ) (situation : Situation) (task : Task) (row : Row) → AreUnarmed situation → IsTurnByArm members situation task row
    → IsTurnFor situation.fates task row.turn × ((tasks : List Task) → tasks_left row.turn tasks ≡ tasks)
plain_turn members situation (Do who cause) row none (inl does) = (does.does, λ tasks. ap (λ turn. tasks_left turn tasks) does.does.is)
plain_turn members situation (Do who cause) row none (inr breaks) = absurd (let no : None ≡ Some breaks.armed = sym (none who) ∙ breaks.is_armed in cc)
plain_turn members situation (Stop who) row none is = (is, λ tasks. ap (λ turn. tasks_left turn tasks) is)
plain_turn members situation (Restart who) row none is = (is, λ tasks. ap (λ turn. tasks_left turn tasks) is)
plain_turn members situation (Arrive late) row none is = (is, λ tasks. ap (λ turn. tasks_left turn tasks) is)

pub unarmed_turns : (members : ℕ) (situation : Situation) (tasks : List Task) (rows : List Row) → AreUnarmed situation → AreTurnsByArms members situation tasks rows → AreTurnsFor members situation tasks rows
unarmed_turns members situation [] [] none turns = refl
unarmed_turns members situation (task ∷ tasks) [] none turns = absurd cc
unarmed_turns members situation [] (row ∷ rows) none turns = absurd cc
unarmed_turns members situation (task ∷ tasks) (row ∷ rows) none turns =
    let plain = plain_turn members situation task row none turns.0 in
    let next = after_turn members situation row in
    let still : AreUnarmed next = still_unarmed row.turn (changes_in members situation.standing row.turn row.event) situation.arms none in
    (plain.0, unarmed_turns members next tasks rows still (subst (λ left. AreTurnsByArms members next left rows) (plain.1 tasks) turns.1))

pub unarmed_performs : (members : ℕ) (tasks : List Task) (situation after : Situation) (rows : List Row) → AreUnarmed situation → PerformsByArms members tasks situation rows after → Performs members tasks situation rows after
unarmed_performs members tasks situation after rows none performs = record { turns = unarmed_turns members situation tasks rows none performs.turns; is = performs.is }

-- and the other way
plain_by : (members : ℕ) (situation : Situation) (task : Task) (row : Row) → AreUnarmed situation → IsTurnFor situation.fates task row.turn → IsTurnByArm members situation task row
plain_by members situation (Do who cause) row none is =
    inl (record { does = is; saved = subst (λ armed. IsEnough armed (changes_in members situation.standing row.turn row.event)) (sym (none who)) tt })
plain_by members situation (Stop who) row none is = is
plain_by members situation (Restart who) row none is = is
plain_by members situation (Arrive late) row none is = is

pub turns_unarmed : (members : ℕ) (situation : Situation) (tasks : List Task) (rows : List Row) → AreUnarmed situation → AreTurnsFor members situation tasks rows → AreTurnsByArms members situation tasks rows
turns_unarmed members situation [] [] none turns = refl
turns_unarmed members situation (task ∷ tasks) [] none turns = absurd cc
turns_unarmed members situation [] (row ∷ rows) none turns = absurd cc
turns_unarmed members situation (task ∷ tasks) (row ∷ rows) none turns =
    let by : IsTurnByArm members situation task row = plain_by members situation task row none turns.0 in
    let plain = plain_turn members situation task row none by in
    let next = after_turn members situation row in
    let still : AreUnarmed next = still_unarmed row.turn (changes_in members situation.standing row.turn row.event) situation.arms none in
    (by, subst (λ left. AreTurnsByArms members next left rows) (sym (plain.1 tasks)) (turns_unarmed members next tasks rows still turns.1))

pub performs_unarmed : (members : ℕ) (tasks : List Task) (situation after : Situation) (rows : List Row) → AreUnarmed situation → Performs members tasks situation rows after → PerformsByArms members tasks situation rows after
performs_unarmed members tasks situation after rows none performs = record { turns = turns_unarmed members situation tasks rows none performs.turns; is = performs.is }

-- ---- no disk is armed after turns

pub unarmed_after : (members : ℕ) (situation : Situation) (rows : List Row) → AreUnarmed situation → AreUnarmed (after_turns members situation rows)
unarmed_after members situation [] none = none
unarmed_after members situation (row ∷ rows) none =
    unarmed_after members (after_turn members situation row) rows
    (still_unarmed row.turn (changes_in members situation.standing row.turn row.event) situation.arms none)

pub unarmed_performed : (members : ℕ) (tasks : List Task) (situation after : Situation) (rows : List Row) → AreUnarmed situation → Performs members tasks situation rows after → AreUnarmed after
unarmed_performed members tasks situation after rows none performs who = ap (λ (s : Situation). s.arms who) performs.is ∙ unarmed_after members situation rows none who
