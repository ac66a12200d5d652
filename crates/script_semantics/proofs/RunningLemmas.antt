-- Who runs once turns have settled.
use Rattle.std.proofs.Common.{◌≡◌, ℕ, zero, suc, ◌<◌, Bool, true, List, [], ◌∷◌, ℤ, inl, inr, refl, sym, ap, ◌∙◌, subst}
use Rattle.std.specs.Prelude.{Contains}
use Rattle.due_set.specs.Table.{Table}
use Rattle.due_set.proofs.Rising.{Contains-cases, Contains-head, Contains-none, Contains-tail}
use Rattle.term_core.specs.declared.term.Term.{Term}
use Rattle.term_core.specs.declared.term.Term.TheVariants.{Follower, Candidate, Leader}
use Rattle.history.specs.Book.{Row, after_row}
use Rattle.history.specs.declared.turn.Cause.{Cause}
use Rattle.history.specs.declared.turn.Cause.TheVariants.{Campaign}
use Rattle.script_semantics.specs.Round.{round_tasks}
use Rattle.script_semantics.specs.Settling.{DrainsIn, Settles, campaign_tasks, coordinator}
use Rattle.script_semantics.specs.Situation.{AreTurnsFor, Performs, Situation, Task, Do, after_turn, after_turns}
use Rattle.script_semantics.proofs.RoundLemmas.{is_step}
use Rattle.script_semantics.proofs.StartLemmas.{all_run}

-- each task is a step of some replica
abbrev AreSteps : List Task → Type 0
AreSteps tasks = (task : Task) → Contains tasks task → (who : ℕ) × (cause : Cause) × (task ≡ Do who cause)

step_keeps : (members : ℕ) (situation : Situation) (row : Row) (task : Task) (step : (who : ℕ) × (cause : Cause) × (task ≡ Do who cause))
    → AreTurnsFor members situation (task ∷ []) (row ∷ []) → (after_turn members situation row).standing.runs ≡ situation.standing.runs
unfolding after_row
step_keeps members situation row task (who, cause, is) (turn, rest) =
    let does = subst (λ t. AreTurnsFor members situation (t ∷ []) (row ∷ [])) is (turn, rest) in
    rw (does.0.is) refl

steps_keep : (members : ℕ) (situation : Situation) (tasks : List Task) (rows : List Row) → AreSteps tasks → AreTurnsFor members situation tasks rows
    → (after_turns members situation rows).standing.runs ≡ situation.standing.runs
steps_keep members situation [] rows steps turns = rw turns refl
steps_keep members situation (task ∷ tasks) [] steps turns = absurd cc
steps_keep members situation (task ∷ tasks) (row ∷ rows) steps (turn, turns) =
    steps_keep members (after_turn members situation row) tasks rows (λ other has. steps other (Contains-tail task tasks other has)) turns
    ∙ step_keeps members situation row task (steps task (Contains-head task tasks)) (turn, refl)

performed : (members : ℕ) (tasks : List Task) (situation : Situation) (rows : List Row) (after : Situation) → AreSteps tasks
    → Performs members tasks situation rows after → after.standing.runs ≡ situation.standing.runs
performed members tasks situation rows after steps performs =
    ap (λ (s : Situation). s.standing.runs) performs.is ∙ steps_keep members situation tasks rows steps performs.turns

pub one_step : (who : ℕ) (cause : Cause) → AreSteps (Do who cause ∷ [])
one_step who cause task has = elim (Contains-cases (Do who cause) [] task has) [
  | inl same ↦ (who, cause, sym same)
  | inr none ↦ absurd (Contains-none task none)
]

pub campaign_steps : (who : ℕ) (term : Term) → AreSteps (campaign_tasks who term)
campaign_steps who (Follower ended) task has = one_step who Campaign task has
campaign_steps who (Candidate ballot first heard best) task has = absurd (Contains-none task has)
campaign_steps who (Leader ballot best flight) task has = absurd (Contains-none task has)

drains_keep : (rounds members : ℕ) (table : Table) (who : ℕ) (at : ℤ) (situation : Situation) (rows : List Row) (after : Situation)
    → DrainsIn rounds members table who at situation rows after → after.standing.runs ≡ situation.standing.runs
drains_keep zero members table who at situation rows after drains = ap (λ (s : Situation). s.standing.runs) drains.stays.is
drains_keep (suc more) members table who at situation rows after drains =
    let parts = drains.goes_on in
    let turns = parts.one in
    drains_keep more members table who at parts.middle parts.back after parts.two
    ∙ (performed members (round_tasks members table.window at turns.middle) turns.middle turns.back parts.middle
    (λ task has. is_step members table.window at turns.middle task has) turns.two
    ∙ performed members (campaign_tasks who (situation.standing.replicas who).term) situation turns.front turns.middle
    (campaign_steps who (situation.standing.replicas who).term) turns.one)

pub all_settled : (members : ℕ) (table : Table) (at : ℤ) (situation after : Situation) (rows : List Row) (who : ℕ)
    → Settles members table at situation rows after → who < members → after.standing.runs who ≡ true
all_settled members table at situation after rows who settles member =
    let start = settles.one in
    let led = settles.two in
    let lead = coordinator members settles.middle in
    let drains = led.two in
    let started : settles.middle.standing.runs who ≡ true =
    ap (λ (s : Situation). s.standing.runs who) start.two.is ∙ (ap (λ (s : Situation). s.standing.runs who) start.one.is
    ∙ all_run members situation start.front who start.one.turns member) in
    let stays : after.standing.runs ≡ settles.middle.standing.runs =
    drains_keep drains.0 members table lead at led.middle led.back after drains.1
    ∙ performed members (Do lead Campaign ∷ []) settles.middle led.front led.middle (one_step lead Campaign) led.one in
    ap (λ (runs : ℕ → Bool). runs who) stays ∙ started
