-- A replica that doesn't stop forgets nothing that it has learned.
use Rattle.std.proofs.Common.{◌≡◌, ℕ, ◌-◌, ◌≤◌, eqb, Some, None, List, [], ◌∷◌, ◌++◌, refl, sym, ◌∙◌, inl, inr, arith, subst, append_assoc, append-nil}
use Rattle.std.proofs.lemmas.Bool.{cases_Bool, eqb-true}
use Rattle.std.proofs.lemmas.List.{length-append, length-drop}
use Rattle.std.proofs.lemmas.List.Sums.{fold_push}
use Rattle.paxos_base.specs.Durable.{after_delta}
use Rattle.due_set.specs.Table.{Table}
use Rattle.launch_machine.specs.Clerk.{first_rows}
use Rattle.step_spec.specs.Act.{Act, Observe, Stand, Gather, TakeLead, Pledge, Cast, Propose, Count, Wait, Learn, Rebase, Call, Send, Restart, after_act}
use Rattle.step_spec.specs.Folds.{after_acts}
use Rattle.step_spec.specs.May.{AllMay, May, Setting}
use Rattle.step_spec.specs.State.{State, prefix_of}
use Rattle.step_spec.specs.Step.{Event}
use Rattle.agreement.specs.World.{with_replica}
use Rattle.history.specs.Book.{Row, Standing, acts_at, after_row, first_standing, standing_after}
use Rattle.history.specs.Legal.{IsLegal, MayFollow}
use Rattle.history.specs.declared.turn.Turn.{Turn}
use Rattle.history.specs.declared.turn.Turn.TheVariants.{Did, Stopped, Restarted, Arrived}
use Rattle.launch_safety.proofs.Asking.{acts_may, setting}
use Rattle.history.proofs.FrontLemmas.{front_legal, follows_there}

-- an act of a step learns or leaves what was learned
act_rises : (setting : Setting) (state : State) (event : Event) (act : Act) → setting.event ≡ Some event → May setting state act → prefix_of state ≤ prefix_of (after_act act state)
unfolding May after_act after_delta
act_rises setting state event (Observe ballot) is may = omega arith
act_rises setting state event (Stand me ballot) is may = omega arith
act_rises setting state event (Gather from votes) is may = omega arith
act_rises setting state event TakeLead is may = omega arith
act_rises setting state event (Pledge ballot) is may = omega arith
act_rises setting state event (Cast vote) is may = omega arith
act_rises setting state event (Propose me vote) is may = omega arith
act_rises setting state event (Count from) is may = omega arith
act_rises setting state event Wait is may = omega arith
act_rises setting state event (Learn slot entry) is may = omega (arith, length-append state.learned (entry ∷ []))
act_rises setting state event (Rebase slot rows) is may = omega (arith, may.up, length-drop (slot - state.kept.base) state.learned)
act_rises setting state event (Call row) is may = omega arith
act_rises setting state event (Send whom message) is may = omega arith
act_rises setting state event (Restart me) is may = absurd (let none : None ≡ Some event = sym may.told ∙ is in cc)

acts_rise : (setting : Setting) (state : State) (event : Event) (acts : List Act) → setting.event ≡ Some event → AllMay setting state acts → prefix_of state ≤ prefix_of (after_acts acts state)
acts_rise setting state event [] is may = omega arith
acts_rise setting state event (act ∷ acts) is may =
    let first = act_rises setting state event act is may.0 in
    let rest = acts_rise setting (after_act act state) event acts is may.1 in
    omega (arith, first, rest)

-- no replica stops in the turn
abbrev pub GoesOn : Turn → Type 0
GoesOn (Stopped who cause kept) = ⊥
GoesOn turn = Unit {0}

with_rises : (who q : ℕ) (new : State) (replicas : ℕ → State) → prefix_of (replicas who) ≤ prefix_of new → prefix_of (replicas q) ≤ prefix_of (with_replica who new replicas q)
with_rises who q new replicas up = elim (cases_Bool (eqb q who)) [
  | inl here ↦
      let same : q ≡ who = eqb-true q who here in
      rw here (subst (λ r. prefix_of (replicas r) ≤ prefix_of new) (sym same) up)
  | inr other ↦ rw other (omega arith)
]

module _ (n : ℕ) (table : Table) (book : List Row) (few : n ≤ 7) (legal : IsLegal n table book) where
  abbrev st : Standing
  st = standing_after n (first_rows table) book

  turn_rises : (turn : Turn) (row : Row) (q : ℕ) → MayFollow n table st turn row → GoesOn turn → prefix_of (st.replicas q) ≤ prefix_of ((after_row n st turn row.event row.letters).replicas q)
  unfolding after_row
  turn_rises (Did who cause made) row q may goes =
      with_rises who q (after_acts (acts_at n st who row.event) (st.replicas who)) st.replicas
      (acts_rise (setting n table book few legal who cause row.event may.0) (st.replicas who) row.event (acts_at n st who row.event) refl
      (acts_may n table book few legal who cause row.event may.0))
  turn_rises (Stopped who cause kept) row q may goes = absurd goes
  turn_rises (Restarted who) row q may goes = omega arith
  turn_rises (Arrived number) row q may goes = omega arith

-- ---- rows of a book

-- no replica stops in the turns
abbrev pub AllGoOn : List Row → Type 0
AllGoOn [] = Unit {0}
AllGoOn (row ∷ rows) = GoesOn row.turn × AllGoOn rows

-- what a replica has learned before some turns in which none stops it has learned behind them
pub rises : (n : ℕ) (table : Table) (book rows : List Row) (q : ℕ) → n ≤ 7 → IsLegal n table (book ++ rows) → AllGoOn rows
    → prefix_of ((standing_after n (first_rows table) book).replicas q) ≤ prefix_of ((standing_after n (first_rows table) (book ++ rows)).replicas q)
rises n table book [] q few legal go = subst (λ some. prefix_of ((standing_after n (first_rows table) book).replicas q) ≤ prefix_of ((standing_after n (first_rows table) some).replicas q)) (sym (append-nil book)) (omega arith)
rises n table book (row ∷ rows) q few legal (goes, go) =
    let parts : (book ++ row ∷ []) ++ rows ≡ book ++ row ∷ rows = append_assoc book (row ∷ []) rows in
    let first = turn_rises n table book few (front_legal n table book (row ∷ rows) legal) row.turn row q (follows_there n table book rows row legal) goes in
    let pushed : prefix_of ((standing_after n (first_rows table) book).replicas q) ≤ prefix_of ((standing_after n (first_rows table) (book ++ row ∷ [])).replicas q) =
    subst (λ (s : Standing). prefix_of ((standing_after n (first_rows table) book).replicas q) ≤ prefix_of (s.replicas q)) (sym (fold_push _ (first_standing n (first_rows table)) book row)) first in
    let rest = rises n table (book ++ row ∷ []) rows q few (subst (λ some. IsLegal n table some) (sym parts) legal) go in
    let rested : prefix_of ((standing_after n (first_rows table) (book ++ row ∷ [])).replicas q) ≤ prefix_of ((standing_after n (first_rows table) (book ++ row ∷ rows)).replicas q) =
    subst (λ some. prefix_of ((standing_after n (first_rows table) (book ++ row ∷ [])).replicas q) ≤ prefix_of ((standing_after n (first_rows table) some).replicas q)) parts rest in
    omega (arith, pushed, rested)
