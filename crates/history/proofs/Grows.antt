-- What a step may raise: a campaign the round by one, a proposal the slots of votes by one, and what is answered stays within what
-- was heard.
use Rattle.std.proofs.Common.{ℕ, ◌+◌, ◌-◌, ◌<◌, ◌≤◌, Bool, Some, None, List, [], ◌∷◌, ◌++◌, drop, true, false, eqb, ltb, leb, ◌&&◌, ℤ, inl, inr, arith}
use Rattle.std.specs.List.{AllByRecursion}
use Rattle.std.proofs.lemmas.Bool.{cases_Bool}
use Rattle.paxos_base.specs.Ballot.{member_of, round_of}
use Rattle.paxos_base.specs.Members.{has_majority, only_member, with_member}
use Rattle.paxos_base.specs.Vote.{vote_at, votes_from}
use Rattle.paxos_base.specs.declared.entry.Entry.{Entry}
use Rattle.paxos_base.specs.declared.entry.Entry.TheVariants.{Noop, Start, End, Table as TableEntry}
use Rattle.paxos_base.specs.declared.entry.Vote.{Vote}
use Rattle.paxos_base.specs.declared.rows.JobRow.{JobRow}
use Rattle.term_core.specs.Term.{is_fourth}
use Rattle.term_core.specs.declared.flight.Flight.{Flight}
use Rattle.term_core.specs.declared.term.Term.{Term}
use Rattle.term_core.specs.declared.term.Term.TheVariants.{Follower, Candidate, Leader}
use Rattle.launch_machine.specs.declared.machine.Intent.{Intent}
use Rattle.launch_machine.specs.declared.machine.Intent.TheVariants as intent
use Rattle.step_spec.specs.Act.{Act, Stand, Pledge, Propose, Send}
use Rattle.step_spec.specs.Folds.{after_acts}
use Rattle.step_spec.specs.Hear.{Once, ask_below, hear, hear_all, is_vote_of, known_from, line, not_yet, on_prepare, on_promise, on_accept, on_accepted, on_known, on_ask, on_lead, on_snap, once_after, send_all, snapshot}
use Rattle.step_spec.specs.Message.{Message, Prepare, Promise, Accept, Accepted, Nack, Known, AskFrom, Snap, Lead, Mention, ballot_in, slot_in}
use Rattle.step_spec.specs.Propose.{answer, answer_of, campaign, choose_if, end_if, follow_intent, lead_if, lead_on, propose, proposal, tick, tick_of, wait, is_long, is_open}
use Rattle.step_spec.specs.State.{State, Identity, prefix_of, promised_in}
use Rattle.step_spec.specs.Step.{Event, Campaign, Tick, Hear, Answer, step}

-- what a message answers to another: the slot that a promise is for, and whose ballot is refused
abbrev pub AnswersWithin : (most members : ℕ) → Message → Type 0
AnswersWithin most members (Promise ballot slot votes) = slot ≤ most
AnswersWithin most members (Nack ballot promised) = (round_of ballot ≤ most) × (member_of ballot < members)
AnswersWithin most members message = Unit {0}

-- what an act brings up that its guard doesn't bound
abbrev pub Grows : (most members : ℕ) → Act → Type 0
Grows most members (Stand me ballot) = round_of ballot ≤ most
Grows most members (Pledge ballot) = member_of ballot < members
Grows most members (Propose me vote) = vote.slot < most
Grows most members (Send whom message) = AnswersWithin most members message
Grows most members act = Unit {0}

abbrev pub AllGrow : (most members : ℕ) → List Act → Type 0
AllGrow most members acts = AllByRecursion (Grows most members) acts

-- what is heard of
pub record IsHeardWithin (most members : ℕ) (message : Message) : Type 0 where
  pub round : round_of (ballot_in message) ≤ most
  pub slot : slot_in message ≤ most
  pub member : member_of (ballot_in message) < members

abbrev pub HearsWithin : (most members : ℕ) → Event → Type 0
HearsWithin most members Campaign = Unit {0}
HearsWithin most members (Tick now plan) = Unit {0}
HearsWithin most members (Hear from messages) = AllByRecursion (IsHeardWithin most members) messages
HearsWithin most members (Answer job at kind rows) = Unit {0}

grow_append : (most members : ℕ) (xs ys : List Act) → AllGrow most members xs → AllGrow most members ys → AllGrow most members (xs ++ ys)
grow_append most members [] ys front back = back
grow_append most members (x ∷ xs) ys front back = (front.0, grow_append most members xs ys front.1 back)

lead_grows : (most members n heard : ℕ) → AllGrow most members (lead_if n heard)
lead_grows most members n heard = elim (cases_Bool (has_majority n heard)) [ inl enough ↦ rw enough (tt, tt) | inr few ↦ rw few tt ]

choose_grows : (most members n accepted slot : ℕ) (entry : Entry) → AllGrow most members (choose_if n accepted slot entry)
choose_grows most members n accepted slot entry =
    elim (cases_Bool (has_majority n accepted)) [ inl enough ↦ rw enough (tt, (tt, tt)) | inr few ↦ rw few tt ]

ask_grows : (most members from slot : ℕ) (state : State) → AllGrow most members (ask_below from slot state)
ask_grows most members from slot state = elim (cases_Bool (ltb (prefix_of state) slot)) [ inl missing ↦ rw missing (tt, tt) | inr all ↦ rw all tt ]

known_grows : (most members from slot : ℕ) (entries : List Entry) → AllGrow most members (send_all from (known_from slot entries))
known_grows most members from slot [] = tt
known_grows most members from slot (entry ∷ entries) = (tt, known_grows most members from (slot + 1) entries)

campaign_grows : (most members : ℕ) (self : Identity) (state : State) → self.me < 8 → state.kept.tried < most → round_of state.seen < most → AllGrow most members (campaign self state)
unfolding campaign
campaign_grows most members self state few tried seen = (omega (arith, few, tried, seen), (tt, lead_grows most members self.members (only_member self.me)))

propose_grows : (most members : ℕ) (self : Identity) (vote : Vote) → vote.slot < most → AllGrow most members (propose self vote)
unfolding propose
propose_grows most members self vote low = (low, (tt, choose_grows most members self.members (only_member self.me) vote.slot vote.entry))

wait_grows : (most members ballot : ℕ) (flight : Flight) → AllGrow most members (wait ballot flight)
wait_grows most members ballot flight = elim (cases_Bool (is_fourth flight)) [ inl again ↦ rw again (tt, (tt, tt)) | inr not_yet ↦ rw not_yet (tt, tt) ]

follow_grows : (most members : ℕ) (self : Identity) (now : ℤ) (wanted : Intent) (ballot : ℕ) (best : List Vote) (state : State) → prefix_of state < most → AllGrow most members (follow_intent self now wanted ballot best state)
follow_grows most members self now (intent.Call job at kind) ballot best state low = (tt, tt)
follow_grows most members self now (intent.Start job at) ballot best state low =
    propose_grows most members self (proposal ballot best (prefix_of state) (Start job at now)) low
follow_grows most members self now (intent.Adopt version) ballot best state low =
    propose_grows most members self (proposal ballot best (prefix_of state) (TableEntry version now)) low
follow_grows most members self now intent.Rest ballot best state low = (tt, tt)

tick_grows : (most members : ℕ) (self : Identity) (now : ℤ) (wanted : Intent) (state : State) (term : Term) → prefix_of state < most → AllGrow most members (tick_of self now wanted state term)
tick_grows most members self now wanted state (Follower ended) low = tt
tick_grows most members self now wanted state (Candidate ballot first heard best) low = tt
tick_grows most members self now wanted state (Leader ballot best (Some flight)) low = wait_grows most members ballot flight
tick_grows most members self now wanted state (Leader ballot best None) low = go (votes_from (prefix_of state) best)
  where
    go : (bound : List Vote) → AllGrow most members (lead_on self now wanted ballot best state bound)
    go [] = follow_grows most members self now wanted ballot best state low
    go (bound ∷ others) = propose_grows most members self (proposal ballot best (prefix_of state) Noop) low

answer_grows : (most members : ℕ) (self : Identity) (state : State) (entry : Entry) (open_now : Bool) (term : Term) → prefix_of state < most → AllGrow most members (answer_of self state entry open_now term)
answer_grows most members self state entry open_now (Follower ended) low = tt
answer_grows most members self state entry open_now (Candidate ballot first heard best) low = tt
answer_grows most members self state entry open_now (Leader ballot best (Some flight)) low = tt
answer_grows most members self state entry open_now (Leader ballot best None) low = go (votes_from (prefix_of state) best) open_now
  where
    go : (bound : List Vote) (now : Bool) → AllGrow most members (end_if self ballot best state entry now bound)
    go [] true = propose_grows most members self (proposal ballot best (prefix_of state) entry) low
    go [] false = tt
    go (bound ∷ others) now = tt

snapshot_grows : (most members from : ℕ) (copied : Bool) (state : State) → AllGrow most members (snapshot from copied state)
snapshot_grows most members from true state = tt
snapshot_grows most members from false state = (tt, known_grows most members from state.kept.base state.learned)

on_prepare_grows : (most members from ballot slot : ℕ) (copied : Bool) (state : State) → IsHeardWithin most members (Prepare ballot slot) → AllGrow most members (on_prepare from ballot slot copied state)
unfolding on_prepare
on_prepare_grows most members from ballot slot copied state within =
    elim (cases_Bool (leb ballot (promised_in state.kept))) [
      | inl refused ↦ rw refused ((within.round, within.member), tt)
      | inr above ↦ rw above (elim (cases_Bool (ltb slot state.kept.base)) [
        | inl behind ↦ rw behind (snapshot_grows most members from copied state)
        | inr kept ↦ rw kept (within.member, (within.slot, tt))
      ])
    ]

on_accept_grows : (most members from : ℕ) (vote : Vote) (copied : Bool) (state : State) → IsHeardWithin most members (Accept vote) → AllGrow most members (on_accept from vote copied state)
unfolding on_accept
on_accept_grows most members from vote copied state within =
    let asks = ask_grows most members from vote.slot state in
    elim (cases_Bool (ltb vote.ballot (promised_in state.kept))) [
      | inl refused ↦ rw refused ((within.round, within.member), tt)
      | inr least ↦ rw least (elim (cases_Bool (ltb vote.slot state.kept.base)) [
        | inl behind ↦ rw behind (snapshot_grows most members from copied state)
        | inr kept ↦ rw kept (elim (cases_Bool (is_vote_of vote.ballot (vote_at vote.slot state.kept.votes))) [
          | inl again ↦ rw again (tt, asks)
          | inr new ↦ rw new (tt, (tt, asks))
        ])
      ])
    ]

on_promise_grows : (most members n from ballot slot : ℕ) (votes : List Vote) (term : Term) → AllGrow most members (on_promise n from ballot slot votes term)
unfolding on_promise
on_promise_grows most members n from ballot slot votes (Follower ended) = tt
on_promise_grows most members n from ballot slot votes (Leader own best flight) = tt
on_promise_grows most members n from ballot slot votes (Candidate own first heard best) =
    elim (cases_Bool (eqb own ballot && eqb first slot)) [ inl asked ↦ rw asked (tt, lead_grows most members n (with_member from heard)) | inr other ↦ rw other tt ]

on_accepted_grows : (most members n from ballot slot : ℕ) (term : Term) → AllGrow most members (on_accepted n from ballot slot term)
unfolding on_accepted
on_accepted_grows most members n from ballot slot (Follower ended) = tt
on_accepted_grows most members n from ballot slot (Candidate own first heard best) = tt
on_accepted_grows most members n from ballot slot (Leader own best None) = tt
on_accepted_grows most members n from ballot slot (Leader own best (Some flight)) =
    elim (cases_Bool (eqb own ballot && eqb flight.slot slot)) [
      | inl counts ↦ rw counts (tt, choose_grows most members n (with_member from flight.accepted) flight.slot flight.entry)
      | inr other ↦ rw other tt
    ]

on_known_grows : (most members from slot : ℕ) (entry : Entry) (asked : Bool) (state : State) → AllGrow most members (on_known from slot entry asked state)
unfolding on_known
on_known_grows most members from slot entry asked state =
    elim (cases_Bool (eqb slot (prefix_of state))) [
      | inl next ↦ rw next (tt, tt)
      | inr other ↦ rw other (elim (cases_Bool asked) [ inl once ↦ rw once tt | inr first ↦ rw first (ask_grows most members from slot state) ])
    ]

on_ask_grows : (most members from slot : ℕ) (copied : Bool) (state : State) → AllGrow most members (on_ask from slot copied state)
unfolding on_ask
on_ask_grows most members from slot copied state =
    elim (cases_Bool (ltb slot state.kept.base)) [
      | inl behind ↦ rw behind (snapshot_grows most members from copied state)
      | inr kept ↦ rw kept (known_grows most members from slot (drop (slot - state.kept.base) state.learned))
    ]

on_snap_grows : (most members slot : ℕ) (rows : List JobRow) (state : State) → AllGrow most members (on_snap slot rows state)
unfolding on_snap
on_snap_grows most members slot rows state =
    elim (cases_Bool (ltb (prefix_of state) slot)) [ inl behind ↦ rw behind (tt, tt) | inr old ↦ rw old tt ]

line_grows : (most members : ℕ) (self : Identity) (from : ℕ) (message : Message) (once : Once) (state : State) → IsHeardWithin most members message → AllGrow most members (line self from message once state)
unfolding line on_lead
line_grows most members self from (Prepare ballot slot) once state within = on_prepare_grows most members from ballot slot once.copied state within
line_grows most members self from (Promise ballot slot votes) once state within = on_promise_grows most members self.members from ballot slot votes state.term
line_grows most members self from (Accept vote) once state within = on_accept_grows most members from vote once.copied state within
line_grows most members self from (Accepted ballot slot) once state within = on_accepted_grows most members self.members from ballot slot state.term
line_grows most members self from (Nack ballot promised) once state within = tt
line_grows most members self from (Known slot entry) once state within = on_known_grows most members from slot entry once.asked state
line_grows most members self from (AskFrom slot) once state within = on_ask_grows most members from slot once.copied state
line_grows most members self from (Snap slot rows) once state within = on_snap_grows most members slot rows state
line_grows most members self from (Lead ballot slot) once state within = ask_grows most members from slot state
line_grows most members self from (Mention ballot) once state within = tt

hear_grows : (most members : ℕ) (self : Identity) (from : ℕ) (message : Message) (once : Once) (state : State) → IsHeardWithin most members message → AllGrow most members (hear self from message once state)
unfolding hear
hear_grows most members self from message once state within = (tt, line_grows most members self from message once _ within)

hear_all_grows : (most members : ℕ) (self : Identity) (from : ℕ) (messages : List Message) (once : Once) (state : State) → AllByRecursion (IsHeardWithin most members) messages → AllGrow most members (hear_all self from messages once state)
unfolding hear_all
hear_all_grows most members self from [] once state within = tt
hear_all_grows most members self from (message ∷ messages) once state within =
    let acts = hear self from message once state in
    grow_append most members acts _ (hear_grows most members self from message once state within.0)
    (hear_all_grows most members self from messages (once_after message state acts once) (after_acts acts state) within.1)

-- where all is below a number, a step takes it to that number at most
pub step_grows : (most members : ℕ) (self : Identity) (event : Event) (state : State) → self.me < 8 → state.kept.tried < most → round_of state.seen < most → prefix_of state < most → HearsWithin most members event → AllGrow most members (step self event state)
unfolding step tick answer
step_grows most members self Campaign state few tried seen low within = campaign_grows most members self state few tried seen
step_grows most members self (Tick now plan) state few tried seen low within = elim (cases_Bool (is_long state)) [
  | inl long ↦ rw long (tt, tt)
  | inr short ↦ rw short (tick_grows most members self now plan.intent state state.term low)
]
step_grows most members self (Hear from messages) state few tried seen low within = hear_all_grows most members self from messages not_yet state within
step_grows most members self (Answer job at kind rows) state few tried seen low within = answer_grows most members self state (End job at kind) (is_open job at rows) state.term low
