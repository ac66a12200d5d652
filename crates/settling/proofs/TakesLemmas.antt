-- Each ballot that a step promises without a vote is one that it has heard of.
use Rattle.std.proofs.Common.{ℕ, ◌+◌, ◌-◌, Bool, Some, None, List, [], ◌∷◌, ◌++◌, drop, true, false, eqb, ltb, leb, ◌&&◌, ℤ, inl, inr}
use Rattle.std.specs.List.{AllByRecursion}
use Rattle.std.proofs.lemmas.Bool.{cases_Bool}
use Rattle.paxos_base.specs.Members.{has_majority, only_member, with_member}
use Rattle.paxos_base.specs.Vote.{vote_at, votes_from}
use Rattle.paxos_base.specs.declared.entry.Entry.{Entry}
use Rattle.paxos_base.specs.declared.entry.Entry.TheVariants.{Noop, Start, End, Table as TableEntry}
use Rattle.paxos_base.specs.declared.entry.Vote.{Vote}
use Rattle.paxos_base.specs.declared.rows.JobRow.{JobRow}
use Rattle.term_core.specs.Term.{is_fourth}
use Rattle.term_core.specs.declared.flight.Flight.{Flight}
use Rattle.term_core.specs.declared.term.Term.{Term}
use Rattle.term_core.specs.declared.term.Term.TheVariants.{Follower, Candidate, Leader}
use Rattle.launch_machine.specs.declared.machine.Intent.{Intent}
use Rattle.launch_machine.specs.declared.machine.Intent.TheVariants as intent
use Rattle.step_spec.specs.Act.{Act, Pledge}
use Rattle.step_spec.specs.Folds.{after_acts}
use Rattle.step_spec.specs.Hear.{Once, ask_below, hear, hear_all, is_vote_of, known_from, line, not_yet, on_prepare, on_promise, on_accept, on_accepted, on_known, on_ask, on_lead, on_snap, once_after, send_all, snapshot}
use Rattle.step_spec.specs.Message.{Message, Prepare, Promise, Accept, Accepted, Nack, Known, AskFrom, Snap, Lead, Mention, ballot_in}
use Rattle.step_spec.specs.Propose.{answer, answer_of, campaign, choose_if, end_if, follow_intent, lead_if, lead_on, propose, proposal, tick, tick_of, wait, is_long, is_open}
use Rattle.step_spec.specs.State.{State, Identity, prefix_of, promised_in}
use Rattle.step_spec.specs.Step.{Event, Campaign, Tick, Hear, Answer, step}

-- a ballot that the act promises, without a vote, is such a one
abbrev pub Takes : (ℕ → Type 0) → Act → Type 0
Takes P (Pledge ballot) = P ballot
Takes P act = Unit {0}

-- each of some acts
abbrev pub AllTake : (ℕ → Type 0) → List Act → Type 0
AllTake P acts = AllByRecursion (Takes P) acts

-- the ballots that an event names are such
abbrev pub AllName : (ℕ → Type 0) → Event → Type 0
AllName P Campaign = Unit {0}
AllName P (Tick now plan) = Unit {0}
AllName P (Hear from messages) = AllByRecursion (λ message. P (ballot_in message)) messages
AllName P (Answer job at kind rows) = Unit {0}

take_append : (P : ℕ → Type 0) (xs ys : List Act) → AllTake P xs → AllTake P ys → AllTake P (xs ++ ys)
take_append P [] ys front back = back
take_append P (x ∷ xs) ys front back = (front.0, take_append P xs ys front.1 back)

lead_takes : (P : ℕ → Type 0) (n heard : ℕ) → AllTake P (lead_if n heard)
lead_takes P n heard = elim (cases_Bool (has_majority n heard)) [ inl enough ↦ rw enough (tt, tt) | inr few ↦ rw few tt ]

choose_takes : (P : ℕ → Type 0) (n accepted slot : ℕ) (entry : Entry) → AllTake P (choose_if n accepted slot entry)
choose_takes P n accepted slot entry =
    elim (cases_Bool (has_majority n accepted)) [ inl enough ↦ rw enough (tt, (tt, tt)) | inr few ↦ rw few tt ]

ask_takes : (P : ℕ → Type 0) (from slot : ℕ) (state : State) → AllTake P (ask_below from slot state)
ask_takes P from slot state = elim (cases_Bool (ltb (prefix_of state) slot)) [ inl missing ↦ rw missing (tt, tt) | inr all ↦ rw all tt ]

known_takes : (P : ℕ → Type 0) (from slot : ℕ) (entries : List Entry) → AllTake P (send_all from (known_from slot entries))
known_takes P from slot [] = tt
known_takes P from slot (entry ∷ entries) = (tt, known_takes P from (slot + 1) entries)

propose_takes : (P : ℕ → Type 0) (self : Identity) (vote : Vote) → AllTake P (propose self vote)
unfolding propose
propose_takes P self vote = (tt, (tt, choose_takes P self.members (only_member self.me) vote.slot vote.entry))

campaign_takes : (P : ℕ → Type 0) (self : Identity) (state : State) → AllTake P (campaign self state)
unfolding campaign
campaign_takes P self state = (tt, (tt, lead_takes P self.members (only_member self.me)))

wait_takes : (P : ℕ → Type 0) (ballot : ℕ) (flight : Flight) → AllTake P (wait ballot flight)
wait_takes P ballot flight = elim (cases_Bool (is_fourth flight)) [ inl again ↦ rw again (tt, (tt, tt)) | inr not_yet ↦ rw not_yet (tt, tt) ]

follow_takes : (P : ℕ → Type 0) (self : Identity) (now : ℤ) (wanted : Intent) (ballot : ℕ) (best : List Vote) (state : State) → AllTake P (follow_intent self now wanted ballot best state)
follow_takes P self now (intent.Call job at kind) ballot best state = (tt, tt)
follow_takes P self now (intent.Start job at) ballot best state = propose_takes P self (proposal ballot best (prefix_of state) (Start job at now))
follow_takes P self now (intent.Adopt version) ballot best state = propose_takes P self (proposal ballot best (prefix_of state) (TableEntry version now))
follow_takes P self now intent.Rest ballot best state = (tt, tt)

tick_takes : (P : ℕ → Type 0) (self : Identity) (now : ℤ) (wanted : Intent) (state : State) (term : Term) → AllTake P (tick_of self now wanted state term)
tick_takes P self now wanted state (Follower ended) = tt
tick_takes P self now wanted state (Candidate ballot first heard best) = tt
tick_takes P self now wanted state (Leader ballot best (Some flight)) = wait_takes P ballot flight
tick_takes P self now wanted state (Leader ballot best None) = go (votes_from (prefix_of state) best)
  where
    go : (bound : List Vote) → AllTake P (lead_on self now wanted ballot best state bound)
    go [] = follow_takes P self now wanted ballot best state
    go (bound ∷ others) = propose_takes P self (proposal ballot best (prefix_of state) Noop)

answer_takes : (P : ℕ → Type 0) (self : Identity) (state : State) (entry : Entry) (open_now : Bool) (term : Term) → AllTake P (answer_of self state entry open_now term)
answer_takes P self state entry open_now (Follower ended) = tt
answer_takes P self state entry open_now (Candidate ballot first heard best) = tt
answer_takes P self state entry open_now (Leader ballot best (Some flight)) = tt
answer_takes P self state entry open_now (Leader ballot best None) = go (votes_from (prefix_of state) best) open_now
  where
    go : (bound : List Vote) (now : Bool) → AllTake P (end_if self ballot best state entry now bound)
    go [] true = propose_takes P self (proposal ballot best (prefix_of state) entry)
    go [] false = tt
    go (bound ∷ others) now = tt

snapshot_takes : (P : ℕ → Type 0) (from : ℕ) (copied : Bool) (state : State) → AllTake P (snapshot from copied state)
snapshot_takes P from true state = tt
snapshot_takes P from false state = (tt, known_takes P from state.kept.base state.learned)

on_prepare_takes : (P : ℕ → Type 0) (from ballot slot : ℕ) (copied : Bool) (state : State) → P ballot → AllTake P (on_prepare from ballot slot copied state)
unfolding on_prepare
on_prepare_takes P from ballot slot copied state named =
    elim (cases_Bool (leb ballot (promised_in state.kept))) [
      | inl refused ↦ rw refused (tt, tt)
      | inr above ↦ rw above (elim (cases_Bool (ltb slot state.kept.base)) [
        | inl behind ↦ rw behind (snapshot_takes P from copied state)
        | inr kept ↦ rw kept (named, (tt, tt))
      ])
    ]

on_accept_takes : (P : ℕ → Type 0) (from : ℕ) (vote : Vote) (copied : Bool) (state : State) → AllTake P (on_accept from vote copied state)
unfolding on_accept
on_accept_takes P from vote copied state =
    let asks = ask_takes P from vote.slot state in
    elim (cases_Bool (ltb vote.ballot (promised_in state.kept))) [
      | inl refused ↦ rw refused (tt, tt)
      | inr least ↦ rw least (elim (cases_Bool (ltb vote.slot state.kept.base)) [
        | inl behind ↦ rw behind (snapshot_takes P from copied state)
        | inr kept ↦ rw kept (elim (cases_Bool (is_vote_of vote.ballot (vote_at vote.slot state.kept.votes))) [
          | inl again ↦ rw again (tt, asks)
          | inr new ↦ rw new (tt, (tt, asks))
        ])
      ])
    ]

on_promise_takes : (P : ℕ → Type 0) (n from ballot slot : ℕ) (votes : List Vote) (term : Term) → AllTake P (on_promise n from ballot slot votes term)
unfolding on_promise
on_promise_takes P n from ballot slot votes (Follower ended) = tt
on_promise_takes P n from ballot slot votes (Leader own best flight) = tt
on_promise_takes P n from ballot slot votes (Candidate own first heard best) =
    elim (cases_Bool (eqb own ballot && eqb first slot)) [ inl asked ↦ rw asked (tt, lead_takes P n (with_member from heard)) | inr other ↦ rw other tt ]

on_accepted_takes : (P : ℕ → Type 0) (n from ballot slot : ℕ) (term : Term) → AllTake P (on_accepted n from ballot slot term)
unfolding on_accepted
on_accepted_takes P n from ballot slot (Follower ended) = tt
on_accepted_takes P n from ballot slot (Candidate own first heard best) = tt
on_accepted_takes P n from ballot slot (Leader own best None) = tt
on_accepted_takes P n from ballot slot (Leader own best (Some flight)) =
    elim (cases_Bool (eqb own ballot && eqb flight.slot slot)) [
      | inl counts ↦ rw counts (tt, choose_takes P n (with_member from flight.accepted) flight.slot flight.entry)
      | inr other ↦ rw other tt
    ]

on_known_takes : (P : ℕ → Type 0) (from slot : ℕ) (entry : Entry) (asked : Bool) (state : State) → AllTake P (on_known from slot entry asked state)
unfolding on_known
on_known_takes P from slot entry asked state =
    elim (cases_Bool (eqb slot (prefix_of state))) [
      | inl next ↦ rw next (tt, tt)
      | inr other ↦ rw other (elim (cases_Bool asked) [ inl once ↦ rw once tt | inr first ↦ rw first (ask_takes P from slot state) ])
    ]

on_ask_takes : (P : ℕ → Type 0) (from slot : ℕ) (copied : Bool) (state : State) → AllTake P (on_ask from slot copied state)
unfolding on_ask
on_ask_takes P from slot copied state =
    elim (cases_Bool (ltb slot state.kept.base)) [
      | inl behind ↦ rw behind (snapshot_takes P from copied state)
      | inr kept ↦ rw kept (known_takes P from slot (drop (slot - state.kept.base) state.learned))
    ]

on_snap_takes : (P : ℕ → Type 0) (slot : ℕ) (rows : List JobRow) (state : State) → AllTake P (on_snap slot rows state)
unfolding on_snap
on_snap_takes P slot rows state =
    elim (cases_Bool (ltb (prefix_of state) slot)) [ inl behind ↦ rw behind (tt, tt) | inr old ↦ rw old tt ]

line_takes : (P : ℕ → Type 0) (self : Identity) (from : ℕ) (message : Message) (once : Once) (state : State) → P (ballot_in message) → AllTake P (line self from message once state)
unfolding line on_lead
line_takes P self from (Prepare ballot slot) once state named = on_prepare_takes P from ballot slot once.copied state named
line_takes P self from (Promise ballot slot votes) once state named = on_promise_takes P self.members from ballot slot votes state.term
line_takes P self from (Accept vote) once state named = on_accept_takes P from vote once.copied state
line_takes P self from (Accepted ballot slot) once state named = on_accepted_takes P self.members from ballot slot state.term
line_takes P self from (Nack ballot promised) once state named = tt
line_takes P self from (Known slot entry) once state named = on_known_takes P from slot entry once.asked state
line_takes P self from (AskFrom slot) once state named = on_ask_takes P from slot once.copied state
line_takes P self from (Snap slot rows) once state named = on_snap_takes P slot rows state
line_takes P self from (Lead ballot slot) once state named = ask_takes P from slot state
line_takes P self from (Mention ballot) once state named = tt

hear_takes : (P : ℕ → Type 0) (self : Identity) (from : ℕ) (message : Message) (once : Once) (state : State) → P (ballot_in message) → AllTake P (hear self from message once state)
unfolding hear
hear_takes P self from message once state named = (tt, line_takes P self from message once _ named)

hear_all_takes : (P : ℕ → Type 0) (self : Identity) (from : ℕ) (messages : List Message) (once : Once) (state : State) → AllByRecursion (λ message. P (ballot_in message)) messages → AllTake P (hear_all self from messages once state)
unfolding hear_all
hear_all_takes P self from [] once state named = tt
hear_all_takes P self from (message ∷ messages) once state named =
    let acts = hear self from message once state in
    take_append P acts _ (hear_takes P self from message once state named.0)
    (hear_all_takes P self from messages (once_after message state acts once) (after_acts acts state) named.1)

-- a ballot that a step promises without a vote is named by its event
pub step_takes : (P : ℕ → Type 0) (self : Identity) (event : Event) (state : State) → AllName P event → AllTake P (step self event state)
unfolding step tick answer
step_takes P self Campaign state named = campaign_takes P self state
step_takes P self (Tick now plan) state named = elim (cases_Bool (is_long state)) [
  | inl long ↦ rw long (tt, tt)
  | inr short ↦ rw short (tick_takes P self now plan.intent state state.term)
]
step_takes P self (Hear from messages) state named = hear_all_takes P self from messages not_yet state named
step_takes P self (Answer job at kind rows) state named = answer_takes P self state (End job at kind) (is_open job at rows) state.term
