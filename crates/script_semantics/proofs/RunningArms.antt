-- Through each part of a script the disks that are armed are those of replicas that run.
use Rattle.std.proofs.Common.{◌≡◌, ℕ, zero, suc, ℤ, ◌==◌, true, false, List, [], ◌∷◌, Option, Some, None, inl, inr, refl, sym, ap, ◌∙◌, subst, if◌then◌else◌}
use Rattle.std.specs.List.{slice_get}
use Rattle.std.proofs.lemmas.Bool.{cases_Bool, eqb-true}
use Rattle.zone_minutes.specs.declared.minute.Window.{Window}
use Rattle.due_set.specs.Table.{Table}
use Rattle.paxos_base.specs.declared.durable.Delta.{Delta}
use Rattle.script_text.specs.declared.command.Command.{Command}
use Rattle.script_text.specs.declared.command.Command.TheVariants as command
use Rattle.step_spec.specs.Step.{Event}
use Rattle.step_spec.specs.declared.out.OutLetter.{OutLetter}
use Rattle.history.specs.Book.{PostedLetter, Row, Standing, after_row}
use Rattle.history.specs.declared.turn.Turn.{Turn}
use Rattle.history.specs.declared.turn.Turn.TheVariants.{Did, Stopped, Restarted, Arrived}
use Rattle.script_semantics.specs.Arms.{AreArmsOfRunning, AreRoundsByArms, PerformsByArms, armed_by}
use Rattle.script_semantics.specs.Commands.{set_by, tasks_for, with_letter}
use Rattle.script_semantics.specs.Free.{after_all_posted, after_posted}
use Rattle.script_semantics.specs.Round.{round_tasks}
use Rattle.script_semantics.specs.Script.{IsPartOf}
use Rattle.script_semantics.specs.Situation.{Armed, Situation, Task, after_turn, after_turns, armed_after, arms_after, changes_in}
use Rattle.script_semantics.proofs.EndLemmas.{settled_unarmed, walked_unarmed}

-- ---- turns

turn_keeps : (members : ℕ) (standing : Standing) (turn : Turn) (event : Event) (letters : List OutLetter) (changes : List Delta) (arms : ℕ → Option Armed)
    → ((who : ℕ) → standing.runs who ≡ false → arms who ≡ None)
    → (who : ℕ) → (after_row members standing turn event letters).runs who ≡ false → arms_after turn changes arms who ≡ None
unfolding after_row
turn_keeps members standing (Did other cause made) event letters changes arms none who stopped = elim (cases_Bool (who == other)) [
  | inl is ↦ rw is (ap (armed_after changes) (none other (subst (λ (w : ℕ). standing.runs w ≡ false) (eqb-true who other is) stopped)))
  | inr differs ↦ rw differs (none who stopped)
]
turn_keeps members standing (Stopped other cause kept) event letters changes arms none who stopped = elim (cases_Bool (who == other)) [
  | inl is ↦ rw is refl
  | inr differs ↦ rw differs (none who (subst (λ b. (if b then false else standing.runs who) ≡ false) differs stopped))
]
turn_keeps members standing (Restarted other) event letters changes arms none who stopped = elim (cases_Bool (who == other)) [
  | inl is ↦ absurd (let no : true ≡ false = subst (λ b. (if b then true else standing.runs who) ≡ false) is stopped in cc)
  | inr differs ↦ none who (subst (λ b. (if b then true else standing.runs who) ≡ false) differs stopped)
]
turn_keeps members standing (Arrived number) event letters changes arms none who stopped = none who stopped

row_keeps : (members : ℕ) (situation : Situation) (row : Row) → AreArmsOfRunning situation → AreArmsOfRunning (after_turn members situation row)
row_keeps members situation row none =
    turn_keeps members situation.standing row.turn row.event row.letters (changes_in members situation.standing row.turn row.event) situation.arms none

turns_keep : (members : ℕ) (situation : Situation) (rows : List Row) → AreArmsOfRunning situation → AreArmsOfRunning (after_turns members situation rows)
turns_keep members situation [] none = none
turns_keep members situation (row ∷ rows) none = turns_keep members (after_turn members situation row) rows (row_keeps members situation row none)

posted_keep : (members : ℕ) (situation : Situation) (rows : List Row) → AreArmsOfRunning situation → AreArmsOfRunning (after_all_posted members situation rows)
posted_keep members situation [] none = none
posted_keep members situation (row ∷ rows) none = posted_keep members (after_posted members situation row) rows (row_keeps members situation row none)

performed_keeps : (members : ℕ) (tasks : List Task) (situation after : Situation) (rows : List Row) → AreArmsOfRunning situation
    → PerformsByArms members tasks situation rows after → AreArmsOfRunning after
performed_keeps members tasks situation after rows none performs = subst AreArmsOfRunning (sym performs.is) (turns_keep members situation rows none)

rounds_keep : (members : ℕ) (window : Window) (at : ℤ) (rounds : ℕ) (situation after : Situation) (rows : List Row) → AreArmsOfRunning situation
    → AreRoundsByArms members window at rounds situation rows after → AreArmsOfRunning after
rounds_keep members window at zero situation after rows none parts = subst AreArmsOfRunning (sym parts.is) none
rounds_keep members window at (suc more) situation after rows none parts =
    rounds_keep members window at more parts.middle after parts.back
    (performed_keeps members (round_tasks members window at situation) situation parts.middle parts.front none parts.one) parts.two

-- ---- what is set

armed_keeps : (situation : Situation) (who pass image : ℕ) → AreArmsOfRunning situation → AreArmsOfRunning (armed_by who pass image situation)
armed_keeps situation who pass image none = elim (cases_Bool (situation.standing.runs who)) [
  | inl runs ↦ rw runs (λ other stopped. elim (cases_Bool (other == who)) [
    | inl is ↦ absurd (let no : true ≡ false = sym runs ∙ subst (λ (w : ℕ). situation.standing.runs w ≡ false) (eqb-true other who is) stopped in cc)
    | inr differs ↦ rw differs (none other stopped)
  ])
  | inr stopped ↦ rw stopped none
]

letter_keeps : (number : ℕ) (letter : Option PostedLetter) (situation : Situation) → AreArmsOfRunning situation → AreArmsOfRunning (with_letter number letter situation)
letter_keeps number None situation none = none
letter_keeps number (Some letter) situation none = elim (cases_Bool (situation.standing.runs letter.to)) [ inl runs ↦ rw runs none | inr stopped ↦ rw stopped none ]

set_keeps : (given : Command) (situation : Situation) → AreArmsOfRunning situation → AreArmsOfRunning (set_by given situation)
set_keeps (command.Again number) situation none = letter_keeps number (slice_get situation.standing.posted number) situation none
set_keeps (command.Cut from to) situation none = none
set_keeps command.Heal situation none = none
set_keeps (command.Drop from to) situation none = none
set_keeps (command.Repeat from to) situation none = none
set_keeps (command.Reverse who) situation none = none
set_keeps (command.Skew who minutes) situation none = none
set_keeps (command.Fate who word) situation none = none
set_keeps other situation none = none

-- ---- parts

pub part_keeps : (members : ℕ) (table : Table) (given : Command) (situation after : Situation) (rows : List Row) → AreArmsOfRunning situation
    → IsPartOf members table given situation rows after → AreArmsOfRunning after
part_keeps members table (command.Round at rounds) situation after rows none part = rounds_keep members table.window at.0 rounds situation after rows none part
part_keeps members table (command.Campaign who) situation after rows none part = performed_keeps members (tasks_for (command.Campaign who) situation) situation after rows none part
part_keeps members table (command.Settle at) situation after rows none part = λ who stopped. settled_unarmed members table at.0 situation after rows part who
part_keeps members table (command.Walk to) situation after rows none part = λ who stopped. walked_unarmed members table to.0 situation after rows part who
part_keeps members table (command.Break who pass image) situation after rows none part = subst AreArmsOfRunning (sym part.is) (armed_keeps situation who pass image none)
part_keeps members table (command.Free at turns) situation after rows none part = subst AreArmsOfRunning (sym part.is) (posted_keep members situation rows none)
part_keeps members table given situation after rows none part =
    subst AreArmsOfRunning (sym part.two.is)
    (set_keeps given part.middle (subst AreArmsOfRunning (sym part.one.is) (turns_keep members situation part.front none)))
