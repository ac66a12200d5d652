-- One that is a candidate after a round called nobody in it.
use Rattle.std.proofs.Common.{◌≡◌, ℕ, Option, Some, None, List, [], ◌∷◌, ℤ, refl, sym, inl, inr, subst}
use Rattle.std.proofs.lemmas.Bool.{cases_Bool}
use Rattle.paxos_base.specs.Members.{has_majority, only_member}
use Rattle.paxos_base.specs.Vote.{votes_from}
use Rattle.paxos_base.specs.declared.entry.Entry.TheVariants.{Noop, Start, Table as TableEntry}
use Rattle.paxos_base.specs.declared.entry.Vote.{Vote}
use Rattle.cluster_sched.specs.declared.row.SchedRow.{SchedRow}
use Rattle.launch_machine.specs.declared.machine.Intent.{Intent}
use Rattle.launch_machine.specs.declared.machine.Intent.TheVariants as intent
use Rattle.term_core.specs.declared.term.Term.{Term}
use Rattle.term_core.specs.declared.term.Term.TheVariants.{Follower, Candidate, Leader}
use Rattle.step_spec.specs.Act.{after_act}
use Rattle.step_spec.specs.Folds.{after_acts, calls_by, calls_of}
use Rattle.step_spec.specs.Propose.{follow_intent, is_long, lead_on, proposal, propose, tick, tick_of}
use Rattle.step_spec.specs.State.{Identity, State, prefix_of}
use Rattle.step_spec.specs.Step.{Plan, Tick, step}
use Rattle.agreement.specs.Transition.{identity_of}
use Rattle.synchronous_rounds.specs.Cluster.{Advice, Cluster, before_tick, calls_at, cluster_round}
use Rattle.synchronous_rounds.specs.Rounds.{IsAnswerTo}
use Rattle.synchronous_rounds.proofs.OutcomeLemmas.{no_call_rebase, no_call_wait}
use Rattle.synchronous_rounds.proofs.RoundLemmas.{round_after}

no_call_propose : (self : Identity) (vote : Vote) → calls_of (propose self vote) ≡ []
unfolding propose calls_by
no_call_propose self vote = elim (cases_Bool (has_majority self.members (only_member self.me))) [ inl enough ↦ rw enough refl | inr few ↦ rw few refl ]

-- it is a candidate's
abbrev pub IsCandidacy : Term → Type 0
IsCandidacy (Follower ended) = ⊥
IsCandidacy (Candidate ballot first heard best) = Unit {0}
IsCandidacy (Leader ballot best flight) = ⊥

-- a leader that calls leads on
no_call_follow : (self : Identity) (now : ℤ) (wanted : Intent) (ballot : ℕ) (best : List Vote) (state : State) → state.term ≡ Leader ballot best None
    → IsCandidacy (after_acts (follow_intent self now wanted ballot best state) state).term → calls_of (follow_intent self now wanted ballot best state) ≡ []
unfolding after_act calls_by
no_call_follow self now (intent.Call job at kind) ballot best state is stands = absurd (subst IsCandidacy is stands)
no_call_follow self now (intent.Start job at) ballot best state is stands = no_call_propose self (proposal ballot best (prefix_of state) (Start job at now))
no_call_follow self now (intent.Adopt version) ballot best state is stands = no_call_propose self (proposal ballot best (prefix_of state) (TableEntry version now))
no_call_follow self now intent.Rest ballot best state is stands = refl

no_call_tick : (self : Identity) (now : ℤ) (wanted : Intent) (state : State) (term : Term) → state.term ≡ term
    → IsCandidacy (after_acts (tick_of self now wanted state term) state).term → calls_of (tick_of self now wanted state term) ≡ []
no_call_tick self now wanted state (Follower ended) is stands = refl
no_call_tick self now wanted state (Candidate ballot first heard best) is stands = refl
no_call_tick self now wanted state (Leader ballot best (Some flight)) is stands = no_call_wait ballot flight
no_call_tick self now wanted state (Leader ballot best None) is stands = go (votes_from (prefix_of state) best) stands
  where
    go : (bound : List Vote) → IsCandidacy (after_acts (lead_on self now wanted ballot best state bound) state).term → calls_of (lead_on self now wanted ballot best state bound) ≡ []
    go [] stands = no_call_follow self now wanted ballot best state is stands
    go (vote ∷ others) stands = no_call_propose self (proposal ballot best (prefix_of state) Noop)

no_call_step : (self : Identity) (now : ℤ) (plan : Plan) (state : State) → IsCandidacy (after_acts (step self (Tick now plan) state) state).term → calls_of (step self (Tick now plan) state) ≡ []
unfolding step tick
no_call_step self now plan state stands = elim (cases_Bool (is_long state)) [
  | inl long ↦ rw long (no_call_rebase (prefix_of state) plan.rows)
  | inr short ↦ rw short (no_call_tick self now plan.intent state state.term refl (rw short at stands))
]

pub no_answer_to : (calls : List SchedRow) (waits : Option SchedRow) → calls ≡ [] → IsAnswerTo calls waits → waits ≡ None
no_answer_to calls waits none is = subst (λ rows. IsAnswerTo rows waits) none is

-- one that is a candidate after the round has no answer waiting for it
pub candidate_alone : (members : ℕ) (now : ℤ) (advice : ℕ → Advice) (answers : ℕ → Option SchedRow) (cluster : Cluster) (who : ℕ) (ballot first heard : ℕ) (best : List Vote)
    → ((cluster_round members now advice answers cluster).replicas who).term ≡ Candidate ballot first heard best
    → IsAnswerTo (calls_at members now advice cluster who) (answers who) → answers who ≡ None
candidate_alone members now advice answers cluster who ballot first heard best is answered =
    let self = identity_of members who in
    let before = before_tick members advice cluster who in
    let stands : IsCandidacy ((cluster_round members now advice answers cluster).replicas who).term = subst IsCandidacy (sym is) tt in
    no_answer_to (calls_at members now advice cluster who) (answers who)
    (no_call_step self now (advice who).plan before (subst (λ (s : State). IsCandidacy s.term) (round_after members now advice answers cluster who) stands)) answered
