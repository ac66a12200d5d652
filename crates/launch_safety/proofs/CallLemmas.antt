-- A call is made at a tick, and has the clock's reading.
use Rattle.std.proofs.Common.{◌≡◌, ℕ, Bool, true, false, Some, None, List, [], ◌∷◌, ℤ, refl, sym, ap, ◌∙◌, inl, inr, subst}
use Rattle.std.specs.List.{Contains}
use Rattle.std.proofs.lemmas.Bool.{cases_Bool}
use Rattle.std.proofs.lemmas.List.Elements.{Contains-append_cases}
use Rattle.zone_minutes.specs.declared.minute.Minute.{Minute}
use Rattle.due_set.specs.Table.{Table}
use Rattle.paxos_base.specs.Vote.{votes_from}
use Rattle.paxos_base.specs.declared.entry.Entry.{Entry}
use Rattle.paxos_base.specs.declared.entry.Entry.TheVariants.{End}
use Rattle.paxos_base.specs.declared.entry.Vote.{Vote}
use Rattle.cluster_sched.specs.declared.row.SchedRow.{SchedRow}
use Rattle.term_core.specs.declared.term.Term.{Term}
use Rattle.term_core.specs.declared.term.Term.TheVariants.{Follower, Candidate, Leader}
use Rattle.launch_machine.specs.declared.machine.Intent.{Intent}
use Rattle.launch_machine.specs.declared.machine.Intent.TheVariants as intent
use Rattle.step_spec.specs.Act.{Act, Call, Rebase}
use Rattle.step_spec.specs.Folds.{calls_by, calls_of}
use Rattle.step_spec.specs.Hear.{hear, hear_all}
use Rattle.step_spec.specs.Propose.{answer, answer_of, campaign, end_if, follow_intent, is_long, is_open, lead_on, propose, tick, tick_of}
use Rattle.step_spec.specs.State.{State, Identity, prefix_of}
use Rattle.step_spec.specs.Step.{Event, Campaign, Tick, Hear, Answer, Plan, step}
use Rattle.step_spec.proofs.Lists.{nothing_in}
use Rattle.agreement.specs.Transition.{identity_of}
use Rattle.history.specs.Book.{Row, Standing}
use Rattle.history.specs.Legal.{IsEventOfCause, MayFollow}
use Rattle.history.specs.declared.turn.CallRow.{CallRow}
use Rattle.history.specs.declared.turn.Cause.{Cause}
use Rattle.history.specs.declared.turn.Cause.TheVariants as causes
use Rattle.history.specs.declared.turn.Turn.TheVariants.{Did}
use Rattle.history.proofs.Standings.{call_asked}
use Rattle.history.proofs.PlainLemmas.{AsksFor, RestPlain, step_plain, plain_calls}
use Rattle.due_set.proofs.Rising.{Contains-head as in_first, Contains-cases as cons_cases}

-- the event is a tick, and the call has its reading
record IsTickAt (call : SchedRow) (event : Event) : Type 0 where
  now : ℤ
  plan : Plan
  is : event ≡ Tick now plan
  same : call.now.0 ≡ now

follow_call : (self : Identity) (now : ℤ) (wanted : Intent) (ballot : ℕ) (best : List Vote) (state : State) (call : SchedRow) (acts : List Act)
    → follow_intent self now wanted ballot best state ≡ Call call ∷ acts → call.now.0 ≡ now
unfolding propose
follow_call self now (intent.Call job at kind) ballot best state call acts is =
    let same : record { name = record { job = job; at = at }; kind = kind; now = record { 0 = now }; by = self.me } ≡ call = cc in
    ap (λ (r : SchedRow). r.now.0) (sym same)
follow_call self now (intent.Start job at) ballot best state call acts is = absurd cc
follow_call self now (intent.Adopt version) ballot best state call acts is = absurd cc
follow_call self now intent.Rest ballot best state call acts is = absurd cc

tick_call : (self : Identity) (now : ℤ) (wanted : Intent) (state : State) (term : Term) (call : SchedRow) (acts : List Act)
    → tick_of self now wanted state term ≡ Call call ∷ acts → call.now.0 ≡ now
unfolding propose
tick_call self now wanted state (Follower ended) call acts is = absurd cc
tick_call self now wanted state (Candidate ballot first heard best) call acts is = absurd cc
tick_call self now wanted state (Leader ballot best (Some flight)) call acts is = absurd cc
tick_call self now wanted state (Leader ballot best None) call acts is = go (votes_from (prefix_of state) best) is
  where
    go : (bound : List Vote) → lead_on self now wanted ballot best state bound ≡ Call call ∷ acts → call.now.0 ≡ now
    go [] is = follow_call self now wanted ballot best state call acts is
    go (bound ∷ others) is = absurd cc

no_answer_calls : (self : Identity) (state : State) (entry : Entry) (open_now : Bool) (term : Term) (call : SchedRow) (acts : List Act)
    → answer_of self state entry open_now term ≡ Call call ∷ acts → ⊥
unfolding propose
no_answer_calls self state entry open_now (Follower ended) call acts is = cc
no_answer_calls self state entry open_now (Candidate ballot first heard best) call acts is = cc
no_answer_calls self state entry open_now (Leader ballot best (Some flight)) call acts is = cc
no_answer_calls self state entry open_now (Leader ballot best None) call acts is = go (votes_from (prefix_of state) best) open_now is
  where
    go : (bound : List Vote) (now : Bool) → end_if self ballot best state entry now bound ≡ Call call ∷ acts → ⊥
    go [] true is = cc
    go [] false is = cc
    go (bound ∷ others) now is = cc

-- a step that begins with a call is one to a tick
first_call : (self : Identity) (event : Event) (state : State) (call : SchedRow) (acts : List Act) → step self event state ≡ Call call ∷ acts → IsTickAt call event
unfolding step campaign tick answer hear_all hear
first_call self Campaign state call acts is = absurd cc
first_call self (Tick now plan) state call acts is = elim (cases_Bool (is_long state)) [
  | inl long ↦ absurd (let rebased : Rebase (prefix_of state) plan.rows ∷ [] ≡ Call call ∷ acts = rw long at is in cc)
  | inr short ↦
      let follows : tick_of self now plan.intent state state.term ≡ Call call ∷ acts = rw short at is in
      record { now = now; plan = plan; is = refl; same = tick_call self now plan.intent state state.term call acts follows }
]
first_call self (Hear from []) state call acts is = absurd cc
first_call self (Hear from (message ∷ messages)) state call acts is = absurd cc
first_call self (Answer job at kind rows) state call acts is =
    absurd (no_answer_calls self state (End job at kind) (is_open job at rows) state.term call acts is)

call_of_act : (act : Act) (call : SchedRow) → Contains (calls_by act) call → act ≡ Call call
unfolding calls_by
call_of_act (Call mine) call has = elim (cons_cases mine [] call has) [ inl same ↦ ap Call same | inr none ↦ nothing_in none ]
call_of_act act call has = nothing_in has

-- the call of a step is its first act
step_call : (self : Identity) (event : Event) (state : State) (call : SchedRow) → Contains (calls_of (step self event state)) call → IsTickAt call event
step_call self event state call has = go (step self event state) refl (step_plain self event state) has
  where
    go : (acts : List Act) → step self event state ≡ acts → RestPlain (AsksFor event) acts → Contains (calls_of acts) call → IsTickAt call event
    go [] is plain has = nothing_in has
    go (act ∷ acts) is plain has = elim (Contains-append_cases (calls_by act) (calls_of acts) call has) [
      | inl here ↦ first_call self event state call acts (is ∙ ap (λ one. one ∷ acts) (call_of_act act call here))
      | inr later ↦ absurd (plain_calls (AsksFor event) acts call plain later)
    ]

-- the turn's cause is a tick, and the call has its reading
pub record IsReadAt (cause : Cause) (call : SchedRow) : Type 0 where
  pub now : Minute
  pub is : cause ≡ causes.Tick now
  pub same : call.now.0 ≡ now.0

pub call_read : (n : ℕ) (table : Table) (standing : Standing) (who : ℕ) (cause : Cause) (made : CallRow) (row : Row) → MayFollow n table standing (Did who cause (Some made)) row → IsReadAt cause made.row
call_read n table standing who cause made row may = by_cause cause may.0.event_of
  where
    asked : Contains (calls_of (step (identity_of n who) row.event (standing.replicas who))) made.row
    asked = subst (λ calls. Contains calls made.row) (sym (call_asked n table standing who cause made row may)) (in_first made.row [])

    ticked : IsTickAt made.row row.event
    ticked = step_call (identity_of n who) row.event (standing.replicas who) made.row asked

    by_cause : (of : Cause) → IsEventOfCause n table standing who of row.event → IsReadAt of made.row
    by_cause causes.Campaign is = absurd (let other : Campaign ≡ Tick ticked.now ticked.plan = sym is ∙ ticked.is in cc)
    by_cause (causes.Tick now) (inside, plan, is) =
        let one : Tick ticked.now ticked.plan ≡ Tick now.0 plan = sym ticked.is ∙ is in
        let same : ticked.now ≡ now.0 = cc in
        record { now = now; is = refl; same = ticked.same ∙ same }
    by_cause (causes.Hear number) is = absurd (let other : Hear is.letter.from is.messages ≡ Tick ticked.now ticked.plan = sym is.is ∙ ticked.is in cc)
    by_cause causes.Answer is =
        absurd (let other : Answer is.row.name.job is.row.name.at is.row.kind is.plan.rows ≡ Tick ticked.now ticked.plan = sym is.is ∙ ticked.is in cc)
