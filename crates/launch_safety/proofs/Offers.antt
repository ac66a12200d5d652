-- What a step offers of its own accord: by its first act, and a start or an adoption only at a tick whose launch table asks for it.
use Rattle.std.proofs.Common.{◌≡◌, ◌⊎◌, ℕ, Bool, true, false, Some, None, List, [], ◌∷◌, ℤ, refl, inl, inr, subst}
use Rattle.std.specs.List.{AllByRecursion, Contains}
use Rattle.std.proofs.lemmas.Bool.{cases_Bool}
use Rattle.std.proofs.lemmas.List.Elements.{Contains-append_cases}
use Rattle.paxos_base.specs.Vote.{votes_from}
use Rattle.paxos_base.specs.declared.entry.Entry.{Entry}
use Rattle.paxos_base.specs.declared.entry.Entry.TheVariants.{Noop, Start, End, Table as TableEntry}
use Rattle.paxos_base.specs.declared.entry.Kind.{Kind}
use Rattle.paxos_base.specs.declared.entry.Vote.{Vote}
use Rattle.term_core.specs.declared.term.Term.{Term}
use Rattle.term_core.specs.declared.term.Term.TheVariants.{Follower, Candidate, Leader}
use Rattle.launch_machine.specs.declared.machine.Intent.{Intent}
use Rattle.launch_machine.specs.declared.machine.Intent.TheVariants as intent
use Rattle.step_spec.specs.Act.{Act}
use Rattle.step_spec.specs.Hear.{hear, hear_all}
use Rattle.step_spec.specs.May.{HasSaid, Saying, WasSaid}
use Rattle.step_spec.specs.Message.{Message, Accept}
use Rattle.step_spec.specs.Propose.{answer, answer_of, campaign, end_if, follow_intent, is_long, is_open, lead_on, propose, proposal, tick, tick_of}
use Rattle.step_spec.specs.State.{State, Identity, prefix_of}
use Rattle.step_spec.specs.Step.{Event, Campaign, Tick, Hear, Answer, Plan, step}
use Rattle.step_spec.proofs.Lists.{nothing_in}
use Rattle.history.specs.Book.{votes_by, votes_of}
use Rattle.history.proofs.PlainLemmas.{AsksFor, RestPlain, step_plain, plain_votes}
use Rattle.due_set.proofs.Rising.{Contains-cases as cons_cases}

-- the event is a tick at the instant of the start or adoption, and its plan is that; of another entry nothing is asked
abbrev pub IsTicked : Event → Entry → Type 0
IsTicked event (Start job at now) = (plan : Plan) × (event ≡ Tick now plan) × (plan.intent ≡ intent.Start job at)
IsTicked event (TableEntry version now) = (plan : Plan) × (event ≡ Tick now plan) × (plan.intent ≡ intent.Adopt version)
IsTicked event entry = Unit {0}

-- a leader without a flight offers the entry, or what a vote binds it to
pub record IsOffered (event : Event) (state : State) (vote : Vote) : Type 0 where
  pub ballot : ℕ
  pub best : List Vote
  pub leader : state.term ≡ Leader ballot best None
  pub entry : Entry
  pub is : proposal ballot best (prefix_of state) entry ≡ vote
  pub ticked : IsTicked event entry

-- each vote of the first act is offered
abbrev FirstOffers : Event → State → List Act → Type 0
FirstOffers event state [] = Unit {0}
FirstOffers event state (act ∷ acts) = (vote : Vote) → Contains (votes_by act) vote → IsOffered event state vote

offers : (self : Identity) (event : Event) (state : State) (ballot : ℕ) (best : List Vote) (entry : Entry) → state.term ≡ Leader ballot best None → IsTicked event entry
    → FirstOffers event state (propose self (proposal ballot best (prefix_of state) entry))
unfolding propose
offers self event state ballot best entry leader ticked = λ vote has.
    elim (cons_cases (proposal ballot best (prefix_of state) entry) [] vote has) [
      | inl same ↦ record { ballot = ballot; best = best; leader = leader; entry = entry; is = same; ticked = ticked }
      | inr none ↦ nothing_in none
    ]

follow_offers : (self : Identity) (now : ℤ) (plan : Plan) (state : State) (ballot : ℕ) (best : List Vote) → state.term ≡ Leader ballot best None → (wanted : Intent) → plan.intent ≡ wanted
    → FirstOffers (Tick now plan) state (follow_intent self now wanted ballot best state)
follow_offers self now plan state ballot best leader (intent.Call job at kind) is = λ vote has. nothing_in has
follow_offers self now plan state ballot best leader (intent.Start job at) is = offers self (Tick now plan) state ballot best (Start job at now) leader (plan, refl, is)
follow_offers self now plan state ballot best leader (intent.Adopt version) is = offers self (Tick now plan) state ballot best (TableEntry version now) leader (plan, refl, is)
follow_offers self now plan state ballot best leader intent.Rest is = λ vote has. nothing_in has

tick_offers : (self : Identity) (now : ℤ) (plan : Plan) (state : State) (term : Term) → state.term ≡ term
    → FirstOffers (Tick now plan) state (tick_of self now plan.intent state term)
tick_offers self now plan state (Follower ended) is = tt
tick_offers self now plan state (Candidate ballot first heard best) is = tt
tick_offers self now plan state (Leader ballot best (Some flight)) is = λ vote has. nothing_in has
tick_offers self now plan state (Leader ballot best None) is = go (votes_from (prefix_of state) best)
  where
    go : (bound : List Vote) → FirstOffers (Tick now plan) state (lead_on self now plan.intent ballot best state bound)
    go [] = follow_offers self now plan state ballot best is plan.intent refl
    go (bound ∷ others) = offers self (Tick now plan) state ballot best Noop is tt

answer_offers : (self : Identity) (event : Event) (state : State) (job : ℕ) (at : ℤ) (kind : Kind) (open_now : Bool) (term : Term) → state.term ≡ term
    → FirstOffers event state (answer_of self state (End job at kind) open_now term)
answer_offers self event state job at kind open_now (Follower ended) is = tt
answer_offers self event state job at kind open_now (Candidate ballot first heard best) is = tt
answer_offers self event state job at kind open_now (Leader ballot best (Some flight)) is = tt
answer_offers self event state job at kind open_now (Leader ballot best None) is = go (votes_from (prefix_of state) best) open_now
  where
    go : (bound : List Vote) (now : Bool) → FirstOffers event state (end_if self ballot best state (End job at kind) now bound)
    go [] true = offers self event state ballot best (End job at kind) is tt
    go [] false = tt
    go (bound ∷ others) now = tt

step_offers : (self : Identity) (event : Event) (state : State) → FirstOffers event state (step self event state)
unfolding step campaign tick answer hear_all hear
step_offers self Campaign state = λ vote has. nothing_in has
step_offers self (Tick now plan) state = elim (cases_Bool (is_long state)) [
  | inl long ↦ rw long (λ (vote : Vote) has. nothing_in has)
  | inr short ↦ rw short (tick_offers self now plan state state.term refl)
]
step_offers self (Hear from []) state = tt
step_offers self (Hear from (message ∷ messages)) state = λ vote has. nothing_in has
step_offers self (Answer job at kind rows) state = answer_offers self (Answer job at kind rows) state job at kind (is_open job at rows) state.term refl

-- ---- what is asked for

-- a vote of a step was asked for in a letter, or is offered
pub step_votes : (self : Identity) (event : Event) (state : State) (vote : Vote) → Contains (votes_of (step self event state)) vote → AsksFor event vote ⊎ IsOffered event state vote
step_votes self event state vote has = go (step self event state) (step_offers self event state) (step_plain self event state) has
  where
    go : (acts : List Act) → FirstOffers event state acts → RestPlain (AsksFor event) acts → Contains (votes_of acts) vote → AsksFor event vote ⊎ IsOffered event state vote
    go [] first plain has = nothing_in has
    go (act ∷ acts) first plain has = elim (Contains-append_cases (votes_by act) (votes_of acts) vote has) [
      | inl here ↦ inr (first vote here)
      | inr later ↦ inl (plain_votes (AsksFor event) acts vote plain later)
    ]

pub heard_accept : (said : List Saying) (from : ℕ) (messages : List Message) (vote : Vote) → AllByRecursion (WasSaid said from) messages → Contains messages (Accept vote) → HasSaid said from (Accept vote)
heard_accept said from [] vote all has = nothing_in has
heard_accept said from (message ∷ messages) vote all has = elim (cons_cases message messages (Accept vote) has) [
  | inl same ↦ let said_so : WasSaid said from (Accept vote) = subst (λ m. WasSaid said from m) same all.0 in said_so
  | inr later ↦ heard_accept said from messages vote all.1 later
]
