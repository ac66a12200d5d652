-- Act by act, without a campaign: a follower follows on, a term is of no other ballot, what was seen stays seen, and a higher ballot
-- ends a term.
use Rattle.std.proofs.Common.{◌≡◌, ℕ, ◌+◌, ◌<◌, ◌≤◌, List, [], ◌∷◌, ◌++◌, ltb, None, Some, refl, sym, ◌∙◌, inl, inr, arith, subst}
use Rattle.std.specs.Prelude.{⊤}
use Rattle.std.specs.List.{AllByRecursion, Contains}
use Rattle.std.proofs.Math.Nat.{le-max_left, le-max_right}
use Rattle.std.proofs.lemmas.Bool.{cases_Bool, lt-ltb}
use Rattle.std.proofs.lemmas.List.Elements.{Contains-append_left, Contains-append_right}
use Rattle.paxos_base.specs.declared.entry.Entry.{Entry}
use Rattle.paxos_base.specs.declared.entry.Vote.{Vote}
use Rattle.due_set.specs.Table.{Table}
use Rattle.term_core.specs.Term.{after_advance, after_ballot, after_proposal, after_tick}
use Rattle.term_core.specs.declared.term.Term.{Term}
use Rattle.term_core.specs.declared.term.Term.TheVariants.{Follower, Candidate, Leader}
use Rattle.step_spec.specs.Act.{Act, Observe, Stand, Gather, TakeLead, Propose, Count, Wait, Learn, Rebase, Restart, after_act, after_counting, after_gathering, as_leader}
use Rattle.step_spec.specs.Coherent.{IsCoherent}
use Rattle.step_spec.specs.Folds.{after_acts}
use Rattle.step_spec.specs.Hear.{Once, hear, hear_all, line, not_yet, once_after}
use Rattle.step_spec.specs.May.{AllMay, HasNoOther, IsFollower, May, Setting}
use Rattle.step_spec.specs.Message.{Message, ballot_in}
use Rattle.step_spec.specs.State.{Identity, State, prefix_of}
use Rattle.step_spec.specs.Step.{Event, step}
use Rattle.step_spec.proofs.Lists.{nothing_in}
use Rattle.step_spec.proofs.Said.{setting_of, stays_coherent, step_may_be_done}
use Rattle.synchronous_rounds.specs.Cluster.{ArePlanned, HeardLetter, after_events, hear_events}
use Rattle.synchronous_rounds.specs.LedAlone.{Occurs}
use Rattle.synchronous_rounds.proofs.ActLemmas.{follows_later, follows_on}
use Rattle.synchronous_rounds.proofs.SendLemmas.{IsPlain, no_campaign}
use Rattle.due_set.proofs.Rising.{Contains-head as in_first, Contains-cases as cons_cases}

-- ---- no act of a round is a campaign or a start

abbrev pub GoesOn : Act → Type 0
GoesOn (Restart me) = ⊥
GoesOn (Stand me ballot) = ⊥
GoesOn act = ⊤

act_goes_on : (setting : Setting) (event : Event) (state : State) (act : Act) → setting.event ≡ Some event → IsPlain event → May setting state act → GoesOn act
unfolding May
act_goes_on setting event state (Restart me) told plain may = absurd (none (sym told ∙ may.told))
  where
    none : Some event ≡ None → ⊥
    none is = cc
act_goes_on setting event state (Stand me ballot) told plain may = absurd (no_campaign setting event state me ballot told plain may)
act_goes_on setting event state act told plain may = tt

acts_go_on : (setting : Setting) (event : Event) (state : State) (acts : List Act) → setting.event ≡ Some event → IsPlain event → AllMay setting state acts → AllByRecursion GoesOn acts
acts_go_on setting event state [] told plain may = tt
acts_go_on setting event state (act ∷ acts) told plain may =
    (act_goes_on setting event state act told plain may.0, acts_go_on setting event (after_act act state) acts told plain may.1)

-- the same of each step of some events
abbrev pub AllGoOn : Identity → List Event → State → Type 0
AllGoOn self [] state = ⊤
AllGoOn self (event ∷ events) state = AllByRecursion GoesOn (step self event state) × AllGoOn self events (after_acts (step self event state) state)

pub all_go_on : (self : Identity) (table : Table) (events : List Event) (state : State) → self.me < 8 → AllByRecursion IsPlain events → IsCoherent self state → ArePlanned self table events state → AllGoOn self events state
all_go_on self table [] state small plain sound planned = tt
all_go_on self table (event ∷ events) state small plain sound planned = (
  acts_go_on (setting_of self table event) event state (step self event state) refl plain.0 (step_may_be_done self table event state small sound planned.0),
  all_go_on self table events (after_acts (step self event state) state) small plain.1 (stays_coherent self table event state small sound planned.0) planned.1,
)

-- and a replica is coherent after them
pub sound_events : (self : Identity) (table : Table) (events : List Event) (state : State) → self.me < 8 → IsCoherent self state → ArePlanned self table events state → IsCoherent self (after_events self events state)
sound_events self table [] state small sound planned = sound
sound_events self table (event ∷ events) state small sound planned =
    sound_events self table events (after_acts (step self event state) state) small (stays_coherent self table event state small sound planned.0) planned.1

-- ---- a follower

follows_act : (act : Act) (state : State) → GoesOn act → IsFollower state.term → IsFollower (after_act act state).term
unfolding after_act
follows_act (Observe ballot) state on follows = follows_on ballot state.term follows
follows_act (Stand me ballot) state on follows = absurd on
follows_act (Gather from votes) state on follows = go state.term follows
  where
    go : (term : Term) → IsFollower term → IsFollower (after_gathering from votes term)
    go (Follower ended) follows = tt
    go (Candidate own first heard best) follows = absurd follows
    go (Leader own best flight) follows = absurd follows
follows_act TakeLead state on follows = go state.term follows
  where
    go : (term : Term) → IsFollower term → IsFollower (as_leader term)
    go (Follower ended) follows = tt
    go (Candidate own first heard best) follows = absurd follows
    go (Leader own best flight) follows = absurd follows
follows_act (Propose me vote) state on follows = go state.term follows
  where
    go : (term : Term) → IsFollower term → IsFollower (after_proposal vote.slot vote.entry me term)
    go (Follower ended) follows = tt
    go (Candidate own first heard best) follows = absurd follows
    go (Leader own best flight) follows = absurd follows
follows_act (Count from) state on follows = go state.term follows
  where
    go : (term : Term) → IsFollower term → IsFollower (after_counting from term)
    go (Follower ended) follows = tt
    go (Candidate own first heard best) follows = absurd follows
    go (Leader own best flight) follows = absurd follows
follows_act Wait state on follows = go state.term follows
  where
    go : (term : Term) → IsFollower term → IsFollower (after_tick term)
    go (Follower ended) follows = tt
    go (Candidate own first heard best) follows = absurd follows
    go (Leader own best flight) follows = absurd follows
follows_act (Learn slot entry) state on follows = follows_later (prefix_of state + 1) state.term follows
follows_act (Rebase slot rows) state on follows = follows_later slot state.term follows
follows_act (Restart me) state on follows = absurd on
follows_act act state on follows = follows

follows_acts : (acts : List Act) (state : State) → AllByRecursion GoesOn acts → IsFollower state.term → IsFollower (after_acts acts state).term
follows_acts [] state on follows = follows
follows_acts (act ∷ acts) state on follows = follows_acts acts (after_act act state) on.1 (follows_act act state on.0 follows)

follows_events : (self : Identity) (events : List Event) (state : State) → AllGoOn self events state → IsFollower state.term → IsFollower (after_events self events state).term
follows_events self [] state on follows = follows
follows_events self (event ∷ events) state on follows =
    follows_events self events (after_acts (step self event state) state) on.1 (follows_acts (step self event state) state on.0 follows)

-- ---- a term of no other ballot

other_ballot : (b ballot : ℕ) (term : Term) → HasNoOther b term → HasNoOther b (after_ballot ballot term)
other_ballot b ballot (Follower ended) none = tt
other_ballot b ballot (Candidate own first heard best) none = elim (cases_Bool (ltb own ballot)) [ inl ends ↦ rw ends tt | inr stays ↦ rw stays none ]
other_ballot b ballot (Leader own best flight) none = elim (cases_Bool (ltb own ballot)) [ inl ends ↦ rw ends tt | inr stays ↦ rw stays none ]

other_gathering : (b from : ℕ) (votes : List Vote) (term : Term) → HasNoOther b term → HasNoOther b (after_gathering from votes term)
other_gathering b from votes (Follower ended) none = tt
other_gathering b from votes (Candidate own first heard best) none = none
other_gathering b from votes (Leader own best flight) none = none

other_lead : (b : ℕ) (term : Term) → HasNoOther b term → HasNoOther b (as_leader term)
other_lead b (Follower ended) none = tt
other_lead b (Candidate own first heard best) none = none
other_lead b (Leader own best flight) none = none

other_proposal : (b slot me : ℕ) (entry : Entry) (term : Term) → HasNoOther b term → HasNoOther b (after_proposal slot entry me term)
other_proposal b slot me entry (Follower ended) none = tt
other_proposal b slot me entry (Candidate own first heard best) none = none
other_proposal b slot me entry (Leader own best None) none = none
other_proposal b slot me entry (Leader own best (Some flight)) none = none

other_counting : (b from : ℕ) (term : Term) → HasNoOther b term → HasNoOther b (after_counting from term)
other_counting b from (Follower ended) none = tt
other_counting b from (Candidate own first heard best) none = none
other_counting b from (Leader own best None) none = none
other_counting b from (Leader own best (Some flight)) none = none

other_tick : (b : ℕ) (term : Term) → HasNoOther b term → HasNoOther b (after_tick term)
other_tick b (Follower ended) none = tt
other_tick b (Candidate own first heard best) none = none
other_tick b (Leader own best None) none = none
other_tick b (Leader own best (Some flight)) none = none

other_advance : (b prefix : ℕ) (term : Term) → HasNoOther b term → HasNoOther b (after_advance prefix term)
other_advance b prefix (Follower ended) none = tt
other_advance b prefix (Candidate own first heard best) none = none
other_advance b prefix (Leader own best None) none = none
other_advance b prefix (Leader own best (Some flight)) none = none

other_act : (b : ℕ) (act : Act) (state : State) → GoesOn act → HasNoOther b state.term → HasNoOther b (after_act act state).term
unfolding after_act
other_act b (Observe ballot) state on none = other_ballot b ballot state.term none
other_act b (Stand me ballot) state on none = absurd on
other_act b (Gather from votes) state on none = other_gathering b from votes state.term none
other_act b TakeLead state on none = other_lead b state.term none
other_act b (Propose me vote) state on none = other_proposal b vote.slot me vote.entry state.term none
other_act b (Count from) state on none = other_counting b from state.term none
other_act b Wait state on none = other_tick b state.term none
other_act b (Learn slot entry) state on none = other_advance b (prefix_of state + 1) state.term none
other_act b (Rebase slot rows) state on none = other_advance b slot state.term none
other_act b (Restart me) state on none = absurd on
other_act b act state on none = none

other_acts : (b : ℕ) (acts : List Act) (state : State) → AllByRecursion GoesOn acts → HasNoOther b state.term → HasNoOther b (after_acts acts state).term
other_acts b [] state on none = none
other_acts b (act ∷ acts) state on none = other_acts b acts (after_act act state) on.1 (other_act b act state on.0 none)

-- ---- what was seen

sees_act : (act : Act) (state : State) → GoesOn act → state.seen ≤ (after_act act state).seen
unfolding after_act
sees_act (Observe ballot) state on = le-max_left state.seen ballot
sees_act (Restart me) state on = absurd on
sees_act (Stand me ballot) state on = absurd on
sees_act act state on = omega arith

sees_acts : (acts : List Act) (state : State) → AllByRecursion GoesOn acts → state.seen ≤ (after_acts acts state).seen
sees_acts [] state on = omega arith
sees_acts (act ∷ acts) state on =
    let first = sees_act act state on.0 in
    let rest = sees_acts acts (after_act act state) on.1 in
    omega (arith, first, rest)

sees_events : (self : Identity) (events : List Event) (state : State) → AllGoOn self events state → state.seen ≤ (after_events self events state).seen
sees_events self [] state on = omega arith
sees_events self (event ∷ events) state on =
    let first = sees_acts (step self event state) state on.0 in
    let rest = sees_events self events (after_acts (step self event state) state) on.1 in
    omega (arith, first, rest)

-- ---- a higher ballot

-- it follows, and has seen the ballot
pub record Yields (ballot : ℕ) (state : State) : Type 0 where
  pub follows : IsFollower state.term
  pub seen : ballot ≤ state.seen

ended_by : (b ballot : ℕ) (term : Term) → b < ballot → HasNoOther b term → IsFollower (after_ballot ballot term)
ended_by b ballot (Follower ended) above none = tt
ended_by b ballot (Candidate own first heard best) above none = rw (lt-ltb own ballot (omega (arith, above, none))) tt
ended_by b ballot (Leader own best flight) above none = rw (lt-ltb own ballot (omega (arith, above, none))) tt

observed_yields : (b ballot : ℕ) (state : State) → b < ballot → HasNoOther b state.term → Yields ballot (after_act (Observe ballot) state)
unfolding after_act
observed_yields b ballot state above none = record { follows = ended_by b ballot state.term above none; seen = le-max_right state.seen ballot }

acts_yield : (b ballot : ℕ) (acts : List Act) (state : State) → b < ballot → AllByRecursion GoesOn acts → HasNoOther b state.term → Contains acts (Observe ballot) → Yields ballot (after_acts acts state)
acts_yield b ballot [] state above on none has = nothing_in has
acts_yield b ballot (act ∷ acts) state above on none has = elim (cons_cases act acts (Observe ballot) has) [
  | inl same ↦ still (after_act act state) (subst (λ a. Yields ballot (after_act a state)) (sym same) (observed_yields b ballot state above none))
  | inr later ↦ acts_yield b ballot acts (after_act act state) above on.1 (other_act b act state on.0 none) later
]
  where
    still : (now : State) → Yields ballot now → Yields ballot (after_acts acts now)
    still now yields =
        let up = sees_acts acts now on.1 in
        record { follows = follows_acts acts now on.1 yields.follows; seen = omega (arith, up, yields.seen) }

-- the ballot of each message is observed
observes : (self : Identity) (from : ℕ) (message : Message) (messages : List Message) (once : Once) (state : State) → Contains messages message → Contains (hear_all self from messages once state) (Observe (ballot_in message))
unfolding hear_all hear
observes self from message [] once state has = nothing_in has
observes self from message (first ∷ messages) once state has =
    let acts = hear self from first once state in
    let later = once_after first state acts once in
    let rest = hear_all self from messages later (after_acts acts state) in
    elim (cons_cases first messages message has) [
      | inl same ↦ Contains-append_left acts rest (Observe (ballot_in message)) (subst (λ m. Contains acts (Observe (ballot_in m))) same (in_first (Observe (ballot_in first)) (line self from first once (after_act (Observe (ballot_in first)) state))))
      | inr behind ↦ Contains-append_right acts rest (Observe (ballot_in message)) (observes self from message messages later (after_acts acts state) behind)
    ]

-- a mail that names a higher ballot ends a term
pub mail_yields : (self : Identity) (b from : ℕ) (message : Message) (mail : List HeardLetter) (rest : List Event) (state : State) → b < ballot_in message → AllGoOn self (hear_events mail ++ rest) state → HasNoOther b state.term → Occurs mail from message → Yields (ballot_in message) (after_events self (hear_events mail ++ rest) state)
unfolding step
mail_yields self b from message [] rest state above on none occurs = nothing_in occurs.there
mail_yields self b from message (letter ∷ mail) rest state above on none occurs =
    let acts = hear_all self letter.from letter.messages not_yet state in
    let now = after_acts acts state in
    elim (cons_cases letter mail occurs.letter occurs.there) [
      | inl same ↦
          let here : Contains letter.messages message = subst (λ l. Contains l.messages message) (sym same) occurs.has in
          let yields = acts_yield b (ballot_in message) acts state above on.0 none (observes self letter.from message letter.messages not_yet state here) in
          let up = sees_events self (hear_events mail ++ rest) now on.1 in
          record { follows = follows_events self (hear_events mail ++ rest) now on.1 yields.follows; seen = omega (arith, up, yields.seen) }
      | inr later ↦
          mail_yields self b from message mail rest now above on.1 (other_acts b acts state on.0 none)
          (record { letter = occurs.letter; there = later; is_from = occurs.is_from; has = occurs.has })
    ]
