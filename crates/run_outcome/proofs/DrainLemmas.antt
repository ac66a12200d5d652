-- What the clocks read while a situation settles or is drained whose clocks are right.
use Rattle.std.proofs.Common.{◌≡◌, ℕ, zero, suc, List, [], ◌∷◌, ◌++◌, ℤ, pos, ◌≤ℤ◌, refl, sym, ap, ◌∙◌, inl, inr, subst, arith, if◌then◌else◌}
use Rattle.std.specs.List.{Contains, range_with_len}
use Rattle.std.proofs.lemmas.Bool.{cases_Bool}
use Rattle.std.proofs.lemmas.Int.{ints, clamps}
use Rattle.std.proofs.lemmas.List.Elements.{All-append, All-cons, All-nil}
use Rattle.zone_minutes.specs.declared.minute.Minute.{Minute}
use Rattle.zone_minutes.specs.declared.minute.Window.{Window}
use Rattle.due_set.specs.Table.{Table}
use Rattle.term_core.specs.declared.term.Term.{Term}
use Rattle.term_core.specs.declared.term.Term.TheVariants.{Follower, Candidate, Leader}
use Rattle.step_spec.proofs.Lists.{flat_came, nothing_in}
use Rattle.cluster_sched.specs.declared.fate.Fate.{Fate}
use Rattle.history.specs.Book.{Row}
use Rattle.history.specs.declared.turn.Cause.{Cause}
use Rattle.history.specs.declared.turn.Cause.TheVariants.{Campaign, Tick, Hear, Answer}
use Rattle.history.specs.declared.turn.Turn.{Turn}
use Rattle.script_semantics.specs.Round.{clock_reading, round_tasks}
use Rattle.script_semantics.specs.Settling.{Drains, DrainsIn, Settles, campaign_tasks, coordinator, restart_tasks}
use Rattle.script_semantics.specs.Situation.{AreTurnsFor, IsTurnFor, Performs, Situation, Task, Arrive, Do, Restart, Stop, after_turn, after_turns}
use Rattle.script_semantics.proofs.RoundLemmas.{is_step, reading}
use Rattle.launch_safety.specs.Readings.{AreTurnsBy, IsTurnBy, ReadsBy}
use Rattle.due_set.proofs.Rising.{Contains-head as in_first, Contains-tail as in_rest, Contains-cases as cons_cases}

-- ---- tasks

-- the clock of a task, where one ticks, reads the instant or an earlier one
abbrev IsTaskBy : ℤ → Task → Type 0
IsTaskBy at (Do who cause) = ReadsBy at cause
IsTaskBy at task = Unit {0}

abbrev AreTasksBy : ℤ → List Task → Type 0
AreTasksBy at tasks = (task : Task) → Contains tasks task → IsTaskBy at task

turn_by : (at : ℤ) (fates : ℕ → Fate) (task : Task) (turn : Turn) → IsTaskBy at task → IsTurnFor fates task turn → IsTurnBy at turn
turn_by at fates (Do who cause) turn by is = subst (IsTurnBy at) (sym is.is) by
turn_by at fates (Stop who) turn by is = subst (IsTurnBy at) (sym is) tt
turn_by at fates (Restart who) turn by is = subst (IsTurnBy at) (sym is) tt
turn_by at fates (Arrive late) turn by is = subst (IsTurnBy at) (sym is) tt

turns_by : (members : ℕ) (at : ℤ) (situation : Situation) (tasks : List Task) (rows : List Row) → AreTasksBy at tasks → AreTurnsFor members situation tasks rows → AreTurnsBy at rows
turns_by members at situation [] rows by turns = subst (AreTurnsBy at) (sym turns) (All-nil (λ (r : Row). IsTurnBy at r.turn))
turns_by members at situation (task ∷ tasks) [] by turns = absurd cc
turns_by members at situation (task ∷ tasks) (row ∷ rows) by (turn, turns) =
    All-cons (λ (r : Row). IsTurnBy at r.turn) row rows (turn_by at situation.fates task row.turn (by task (in_first task tasks)) turn)
    (turns_by members at (after_turn members situation row) tasks rows (λ other has. by other (in_rest task tasks other has)) turns)

-- ---- clocks that are right

-- each clock is right
abbrev pub AreRight : Situation → Type 0
AreRight situation = (who : ℕ) → situation.skews who ≡ pos 0

-- readings are no later, and the clocks are right still
pub record KeepsTime (at : ℤ) (rows : List Row) (after : Situation) : Type 0 where
  pub by : AreTurnsBy at rows
  pub right : AreRight after

turns_keep : (members : ℕ) (situation : Situation) (rows : List Row) → (after_turns members situation rows).skews ≡ situation.skews
turns_keep members situation [] = refl
turns_keep members situation (row ∷ rows) = turns_keep members (after_turn members situation row) rows

pub played : (members : ℕ) (at : ℤ) (tasks : List Task) (situation : Situation) (rows : List Row) (after : Situation) → AreTasksBy at tasks → AreRight situation → Performs members tasks situation rows after → KeepsTime at rows after
played members at tasks situation rows after by right performs = record {
  by = turns_by members at situation tasks rows by performs.turns;
  right = λ who. ap (λ (s : Situation). s.skews who) performs.is ∙ ap (λ skews. skews who) (turns_keep members situation rows) ∙ right who;
}

joined : (at : ℤ) (front back rows : List Row) (after : Situation) → rows ≡ front ++ back → AreTurnsBy at front → KeepsTime at back after → KeepsTime at rows after
joined at front back rows after parts first later = record {
  by = subst (AreTurnsBy at) (sym parts) (All-append (λ (r : Row). IsTurnBy at r.turn) front back first later.by);
  right = later.right;
}

-- ---- draining

no_tasks : (at : ℤ) → AreTasksBy at []
no_tasks at task has = nothing_in has

one_task : (at : ℤ) (only : Task) → IsTaskBy at only → AreTasksBy at (only ∷ [])
one_task at only by task has = elim (cons_cases only [] task has) [ inl same ↦ subst (IsTaskBy at) same by | inr none ↦ nothing_in none ]

campaigns_by : (at : ℤ) (who : ℕ) (term : Term) → AreTasksBy at (campaign_tasks who term)
campaigns_by at who (Follower ended) = one_task at (Do who Campaign) tt
campaigns_by at who (Candidate ballot first heard best) = no_tasks at
campaigns_by at who (Leader ballot best flight) = no_tasks at

-- a right clock reads the instant, or the window's first minute where that is later
reads_by : (window : Window) (at minute : ℤ) (skew : ℤ) → skew ≡ pos 0 → window.from.0 ≤ℤ at → minute ≤ℤ at → (clock_reading window minute skew).0 ≤ℤ at
reads_by window at minute skew right from low = omega (arith, ints, clamps, right, from, low)

pub round_by : (members : ℕ) (window : Window) (at minute : ℤ) (situation : Situation) → AreRight situation → window.from.0 ≤ℤ at → minute ≤ℤ at → AreTasksBy at (round_tasks members window minute situation)
round_by members window at minute situation right from low task has = by_step (is_step members window minute situation task has)
  where
    by_cause : (who : ℕ) (cause : Cause) → Contains (round_tasks members window minute situation) (Do who cause) → ReadsBy at cause
    by_cause who (Tick now) has =
        subst (λ (m : Minute). m.0 ≤ℤ at) (sym (reading members window minute situation who now has)) (reads_by window at minute (situation.skews who) (right who) from low)
    by_cause who Campaign has = tt
    by_cause who (Hear number) has = tt
    by_cause who Answer has = tt

    by_step : (who : ℕ) × (cause : Cause) × (task ≡ Do who cause) → IsTaskBy at task
    by_step (who, cause, is) = subst (IsTaskBy at) (sym is) (by_cause who cause (subst (λ t. Contains (round_tasks members window minute situation) t) is has))

drains_in : (rounds members : ℕ) (table : Table) (who : ℕ) (at minute : ℤ) (situation : Situation) (rows : List Row) (after : Situation) → AreRight situation → table.window.from.0 ≤ℤ at → minute ≤ℤ at
    → DrainsIn rounds members table who minute situation rows after → KeepsTime at rows after
drains_in zero members table who at minute situation rows after right from low drains = record {
  by = subst (AreTurnsBy at) (sym drains.stays.none) (All-nil (λ (r : Row). IsTurnBy at r.turn));
  right = λ other. ap (λ (s : Situation). s.skews other) drains.stays.is ∙ right other;
}
drains_in (suc more) members table who at minute situation rows after right from low drains =
    let parts = drains.goes_on in
    let turns = parts.one in
    let term = (situation.standing.replicas who).term in
    let stood = played members at (campaign_tasks who term) situation turns.front turns.middle (campaigns_by at who term) right turns.one in
    let round =
    played members at (round_tasks members table.window minute turns.middle) turns.middle turns.back parts.middle
    (round_by members table.window at minute turns.middle stood.right from low) stood.right turns.two in
    let rest = drains_in more members table who at minute parts.middle parts.back after round.right from low parts.two in
    joined at parts.front parts.back rows after parts.parts (joined at turns.front turns.back parts.front parts.middle turns.parts stood.by round).by rest

pub drains_by : (members : ℕ) (table : Table) (who : ℕ) (at minute : ℤ) (situation : Situation) (rows : List Row) (after : Situation) → AreRight situation → table.window.from.0 ≤ℤ at → minute ≤ℤ at
    → Drains members table who minute situation rows after → KeepsTime at rows after
drains_by members table who at minute situation rows after right from low (rounds, drains) = drains_in rounds members table who at minute situation rows after right from low drains

-- ---- settling

restarts_by : (at : ℤ) (members : ℕ) (situation : Situation) → AreTasksBy at (restart_tasks members situation)
restarts_by at members situation task has =
    let came = flat_came (λ who. if situation.standing.runs who then [] else Restart who ∷ []) (range_with_len 0 members) task has in
    elim (cases_Bool (situation.standing.runs came.of)) [
      | inl runs ↦ nothing_in (subst (λ b. Contains (if b then [] else Restart came.of ∷ []) task) runs came.inside)
      | inr stopped ↦ one_task at (Restart came.of) tt task (subst (λ b. Contains (if b then [] else Restart came.of ∷ []) task) stopped came.inside)
    ]

pub settles_by : (members : ℕ) (table : Table) (at minute : ℤ) (situation : Situation) (rows : List Row) (after : Situation) → table.window.from.0 ≤ℤ at → minute ≤ℤ at
    → Settles members table minute situation rows after → KeepsTime at rows after
settles_by members table at minute situation rows after from low settles =
    let start = settles.one in
    let leads = settles.two in
    let who = coordinator members settles.middle in
    let begun : AreTurnsBy at settles.front =
    subst (AreTurnsBy at) (sym start.parts)
    (All-append (λ (r : Row). IsTurnBy at r.turn) start.front start.back
    (turns_by members at situation (restart_tasks members situation) start.front (restarts_by at members situation) start.one.turns)
    (subst (AreTurnsBy at) (sym start.two.none) (All-nil (λ (r : Row). IsTurnBy at r.turn)))) in
    let right : AreRight settles.middle = λ other. ap (λ (s : Situation). s.skews other) start.two.is in
    let stood = played members at (Do who Campaign ∷ []) settles.middle leads.front leads.middle (one_task at (Do who Campaign) tt) right leads.one in
    let rest = drains_by members table who at minute leads.middle leads.back after stood.right from low leads.two in
    joined at settles.front settles.back rows after settles.parts begun (joined at leads.front leads.back settles.back after leads.parts stood.by rest)
