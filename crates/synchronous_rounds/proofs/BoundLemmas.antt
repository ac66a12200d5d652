-- In the two rounds after a campaign no replica learns more than the candidate, and none promises more than was promised or named.
use Rattle.std.proofs.Common.{ℕ, suc, zero, ◌+◌, ◌-◌, ◌<◌, ◌≤◌, Bool, true, false, List, [], ◌∷◌, ◌++◌, length, drop, replicate, eqb, ltb, leb, ◌&&◌, Option, None, Some, ℤ, inl, inr, arith, length-append}
use Rattle.std.specs.Prelude.{⊤}
use Rattle.std.specs.List.{AllByRecursion, flat_map}
use Rattle.std.proofs.lemmas.Bool.{cases_Bool, eqb-true, ltb-true}
use Rattle.paxos_base.specs.Durable.{after_delta}
use Rattle.paxos_base.specs.Members.{has_majority, only_member, with_member}
use Rattle.paxos_base.specs.Vote.{vote_at, votes_from}
use Rattle.paxos_base.specs.declared.entry.Entry.{Entry}
use Rattle.paxos_base.specs.declared.entry.Entry.TheVariants.{End, Noop, Start, Table as TableEntry}
use Rattle.paxos_base.specs.declared.entry.Vote.{Vote}
use Rattle.paxos_base.specs.declared.rows.JobRow.{JobRow}
use Rattle.cluster_sched.specs.declared.row.SchedRow.{SchedRow}
use Rattle.launch_machine.specs.declared.machine.Intent.{Intent}
use Rattle.launch_machine.specs.declared.machine.Intent.TheVariants as intent
use Rattle.term_core.specs.Term.{is_fourth}
use Rattle.term_core.specs.declared.term.Term.{Term}
use Rattle.term_core.specs.declared.term.Term.TheVariants.{Follower, Candidate, Leader}
use Rattle.step_spec.specs.Act.{Act, Send, after_act}
use Rattle.step_spec.specs.Folds.{after_acts, sent_by, sent_to}
use Rattle.step_spec.specs.Heard.{heard_as}
use Rattle.step_spec.specs.Hear.{Once, hear, hear_all, is_vote_of, known_from, line, not_yet, on_accept, on_ask, on_known, on_lead, on_prepare, on_promise, on_snap, once_after, send_all, snapshot}
use Rattle.step_spec.specs.Message.{Message, Prepare, Promise, Accept, Accepted, Nack, Known, AskFrom, Snap, Lead, Mention, ballot_in, goes_to}
use Rattle.step_spec.specs.Propose.{answer, answer_of, end_if, follow_intent, is_long, is_open, lead_on, propose, proposal, tick, tick_of}
use Rattle.step_spec.specs.State.{Identity, State, prefix_of, promised_in}
use Rattle.step_spec.specs.Step.{Answer, Event, Hear, Plan, Tick, step}
use Rattle.synchronous_rounds.specs.Cluster.{HeardLetter, after_events, answer_events, hear_events, letter_from, letters_to}
use Rattle.synchronous_rounds.specs.LedAlone.{AreWithin, StaysWithin}
use Rattle.synchronous_rounds.proofs.ActLemmas.{observed, rebased_prefix, silent_ask, silent_sends, silent_snapshot}
use Rattle.synchronous_rounds.proofs.Lists.{all_join}
use Rattle.step_spec.proofs.Lists.{after_acts-append}

-- ---- what the first round sends

-- the message is no acceptance
abbrev pub IsNoAcceptance : Message → Type 0
IsNoAcceptance (Accepted ballot slot) = ⊥
IsNoAcceptance message = ⊤

abbrev pub SendsNone : Act → Type 0
SendsNone (Send whom message) = IsNoAcceptance message
SendsNone act = ⊤

abbrev pub SendNone : List Act → Type 0
SendNone acts = AllByRecursion SendsNone acts

known_none : (from slot : ℕ) (entries : List Entry) → SendNone (send_all from (known_from slot entries))
known_none from slot [] = tt
known_none from slot (entry ∷ entries) = (tt, known_none from (slot + 1) entries)

snapshot_none : (from : ℕ) (copied : Bool) (state : State) → SendNone (snapshot from copied state)
snapshot_none from true state = tt
snapshot_none from false state = (tt, known_none from state.kept.base state.learned)

propose_none : (self : Identity) (vote : Vote) → SendNone (propose self vote)
unfolding propose
propose_none self vote = elim (cases_Bool (has_majority self.members (only_member self.me))) [
  | inl enough ↦ rw enough (tt, (tt, (tt, (tt, tt))))
  | inr few ↦ rw few (tt, (tt, tt))
]

term_tick_none : (self : Identity) (now : ℤ) (wanted : Intent) (state : State) (term : Term) → SendNone (tick_of self now wanted state term)
term_tick_none self now wanted state (Follower ended) = tt
term_tick_none self now wanted state (Candidate ballot first heard best) = tt
term_tick_none self now wanted state (Leader ballot best (Some flight)) = elim (cases_Bool (is_fourth flight)) [ inl again ↦ rw again (tt, (tt, tt)) | inr not_now ↦ rw not_now (tt, tt) ]
term_tick_none self now wanted state (Leader ballot best None) = go (votes_from (prefix_of state) best)
  where
    follow : (wanted : Intent) → SendNone (follow_intent self now wanted ballot best state)
    follow (intent.Call job at kind) = (tt, tt)
    follow (intent.Start job at) = propose_none self (proposal ballot best (prefix_of state) (Start job at now))
    follow (intent.Adopt version) = propose_none self (proposal ballot best (prefix_of state) (TableEntry version now))
    follow intent.Rest = (tt, tt)

    go : (bound : List Vote) → SendNone (lead_on self now wanted ballot best state bound)
    go [] = follow wanted
    go (first ∷ others) = propose_none self (proposal ballot best (prefix_of state) Noop)

tick_none : (self : Identity) (now : ℤ) (plan : Plan) (state : State) → SendNone (step self (Tick now plan) state)
unfolding step tick
tick_none self now plan state = elim (cases_Bool (is_long state)) [
  | inl long ↦ rw long (tt, tt)
  | inr short ↦ rw short (term_tick_none self now plan.intent state state.term)
]

term_answer_none : (self : Identity) (state : State) (entry : Entry) (open_now : Bool) (term : Term) → SendNone (answer_of self state entry open_now term)
term_answer_none self state entry open_now (Follower ended) = tt
term_answer_none self state entry open_now (Candidate ballot first heard best) = tt
term_answer_none self state entry open_now (Leader ballot best (Some flight)) = tt
term_answer_none self state entry open_now (Leader ballot best None) = go (votes_from (prefix_of state) best) open_now
  where
    go : (bound : List Vote) (now : Bool) → SendNone (end_if self ballot best state entry now bound)
    go [] true = propose_none self (proposal ballot best (prefix_of state) entry)
    go [] false = tt
    go (first ∷ others) now = tt

answer_none : (self : Identity) (row : SchedRow) (rows : List JobRow) (state : State) → SendNone (step self (Answer row.name.job row.name.at row.kind rows) state)
unfolding step answer
answer_none self row rows state = term_answer_none self state (End row.name.job row.name.at row.kind) (is_open row.name.job row.name.at rows) state.term

campaign_none : (self : Identity) (from ballot slot : ℕ) (state : State) → SendNone (step self (Hear from (Prepare ballot slot ∷ [])) state)
unfolding step hear_all hear line on_prepare
campaign_none self from ballot slot state =
    elim (cases_Bool (leb ballot (promised_in (observed ballot state).kept))) [
      | inl refused ↦ rw refused (tt, (tt, tt))
      | inr above ↦ rw above (elim (cases_Bool (ltb slot (observed ballot state).kept.base)) [
        | inl below ↦ rw below (tt, all_join SendsNone (snapshot from false (observed ballot state)) [] (snapshot_none from false (observed ballot state)) tt)
        | inr kept ↦ rw kept (tt, (tt, (tt, tt)))
      ])
    ]

-- ---- the letters of the first round

abbrev pub AreNoAcceptances : List HeardLetter → Type 0
AreNoAcceptances mail = AllByRecursion (λ letter. AllByRecursion IsNoAcceptance letter.messages) mail

mentions_none : (ballot n : ℕ) → AllByRecursion IsNoAcceptance (replicate n (Mention ballot))
mentions_none ballot zero = tt
mentions_none ballot (suc n) = (tt, mentions_none ballot n)

heard_none : (message : Message) → IsNoAcceptance message → AllByRecursion IsNoAcceptance (heard_as message)
heard_none (Promise ballot slot votes) none = (tt, mentions_none ballot (length votes))
heard_none (Prepare ballot slot) none = (tt, tt)
heard_none (Accept vote) none = (tt, tt)
heard_none (Accepted ballot slot) none = absurd none
heard_none (Nack ballot other) none = (tt, tt)
heard_none (Known slot entry) none = (tt, tt)
heard_none (AskFrom slot) none = (tt, tt)
heard_none (Snap slot rows) none = (tt, tt)
heard_none (Lead ballot slot) none = (tt, tt)
heard_none (Mention ballot) none = tt

sent_none : (me q : ℕ) (acts : List Act) → SendNone acts → AllByRecursion IsNoAcceptance (sent_to me q acts)
unfolding sent_by
sent_none me q [] none = tt
sent_none me q (act ∷ acts) none = all_join IsNoAcceptance (sent_by me q act) (sent_to me q acts) (one act none.0) (sent_none me q acts none.1)
  where
    one : (act : Act) → SendsNone act → AllByRecursion IsNoAcceptance (sent_by me q act)
    one (Send whom message) none = elim (cases_Bool (goes_to me whom q)) [ inl goes ↦ rw goes (none, tt) | inr other ↦ rw other tt ]
    one act none = tt

all_heard_none : (messages : List Message) → AllByRecursion IsNoAcceptance messages → AllByRecursion IsNoAcceptance (flat_map heard_as messages)
all_heard_none [] none = tt
all_heard_none (message ∷ messages) none = all_join IsNoAcceptance (heard_as message) (flat_map heard_as messages) (heard_none message none.0) (all_heard_none messages none.1)

letter_none : (me : ℕ) (messages : List Message) → AllByRecursion IsNoAcceptance messages → AreNoAcceptances (letter_from me messages)
letter_none me [] none = tt
letter_none me (message ∷ messages) none = (all_heard_none (message ∷ messages) none, tt)

-- no step of some events sends an acceptance
abbrev pub AllSendNone : Identity → List Event → State → Type 0
AllSendNone self [] state = ⊤
AllSendNone self (event ∷ events) state = SendNone (step self event state) × AllSendNone self events (after_acts (step self event state) state)

pub letters_none : (self : Identity) (q : ℕ) (events : List Event) (state : State) → AllSendNone self events state → AreNoAcceptances (letters_to self q events state)
letters_none self q [] state none = tt
letters_none self q (event ∷ events) state none =
    all_join (λ letter. AllByRecursion IsNoAcceptance letter.messages) (letter_from self.me (sent_to self.me q (step self event state))) (letters_to self q events (after_acts (step self event state) state))
    (letter_none self.me (sent_to self.me q (step self event state)) (sent_none self.me q (step self event state) none.0)) (letters_none self q events (after_acts (step self event state) state) none.1)

pub tick_sends_none : (self : Identity) (now : ℤ) (plan : Plan) (waits : Option SchedRow) (rows : List JobRow) (state : State) → AllSendNone self (answer_events waits rows ++ Tick now plan ∷ []) state
tick_sends_none self now plan None rows state = (tick_none self now plan state, tt)
tick_sends_none self now plan (Some row) rows state = (answer_none self row rows state, (tick_none self now plan _, tt))

pub campaign_sends_none : (self : Identity) (from ballot slot : ℕ) (now : ℤ) (plan : Plan) (waits : Option SchedRow) (rows : List JobRow) (state : State) → AllSendNone self (answer_events waits rows ++ (Hear from (Prepare ballot slot ∷ []) ∷ Tick now plan ∷ [])) state
campaign_sends_none self from ballot slot now plan None rows state = (campaign_none self from ballot slot state, (tick_none self now plan _, tt))
campaign_sends_none self from ballot slot now plan (Some row) rows state = (answer_none self row rows state, (campaign_none self from ballot slot _, (tick_none self now plan _, tt)))

-- ---- the second round

-- it has promised no ballot above one, and has learned entries below a slot alone, whatever its term
pub record IsShort (top p : ℕ) (state : State) : Type 0 where
  pub low : promised_in state.kept ≤ top
  pub short : prefix_of state ≤ p

short_prepare : (top p from ballot slot : ℕ) (copied : Bool) (state : State) → ballot ≤ top → IsShort top p state → IsShort top p (after_acts (on_prepare from ballot slot copied state) state)
unfolding on_prepare after_act after_delta
short_prepare top p from ballot slot copied state low short =
    elim (cases_Bool (leb ballot (promised_in state.kept))) [
      | inl refused ↦ rw refused short
      | inr above ↦ rw above (elim (cases_Bool (ltb slot state.kept.base)) [
        | inl below ↦ rw below (rw (silent_snapshot from copied state state) short)
        | inr kept ↦ rw kept (record { low = low; short = short.short })
      ])
    ]

short_accept : (top p from : ℕ) (vote : Vote) (copied : Bool) (state : State) → vote.ballot ≤ top → IsShort top p state → IsShort top p (after_acts (on_accept from vote copied state) state)
unfolding on_accept after_act after_delta
short_accept top p from vote copied state low short =
    elim (cases_Bool (ltb vote.ballot (promised_in state.kept))) [
      | inl refused ↦ rw refused short
      | inr least ↦ rw least (elim (cases_Bool (ltb vote.slot state.kept.base)) [
        | inl below ↦ rw below (rw (silent_snapshot from copied state state) short)
        | inr kept ↦ rw kept (elim (cases_Bool (is_vote_of vote.ballot (vote_at vote.slot state.kept.votes))) [
          | inl again ↦ rw again (rw (silent_ask from vote.slot state _) short)
          | inr new ↦ rw new (rw (silent_ask from vote.slot state _) (record { low = low; short = short.short }))
        ])
      ])
    ]

short_promise : (top p members from ballot slot : ℕ) (votes : List Vote) (state : State) (term : Term) → IsShort top p state → IsShort top p (after_acts (on_promise members from ballot slot votes term) state)
unfolding on_promise after_act
short_promise top p members from ballot slot votes state (Follower ended) short = short
short_promise top p members from ballot slot votes state (Leader own best flight) short = short
short_promise top p members from ballot slot votes state (Candidate own first heard best) short =
    elim (cases_Bool (eqb own ballot && eqb first slot)) [
      | inl asked ↦ rw asked (elim (cases_Bool (has_majority members (with_member from heard))) [
        | inl enough ↦ rw enough (record { low = short.low; short = short.short })
        | inr few ↦ rw few (record { low = short.low; short = short.short })
      ])
      | inr other ↦ rw other short
    ]

short_known : (top p from slot : ℕ) (entry : Entry) (asked : Bool) (state : State) → slot < p → IsShort top p state → IsShort top p (after_acts (on_known from slot entry asked state) state)
unfolding on_known after_act
short_known top p from slot entry asked state below short =
    elim (cases_Bool (eqb slot (prefix_of state))) [
      | inl next ↦
          let at = eqb-true slot (prefix_of state) next in
          let longer = length-append state.learned (entry ∷ []) in
          rw next (record { low = short.low; short = omega (arith, at, below, longer) })
      | inr other ↦ rw other (elim (cases_Bool asked) [ inl once ↦ rw once short | inr first ↦ rw first (rw (silent_ask from slot state state) short) ])
    ]

short_ask : (top p from slot : ℕ) (copied : Bool) (state : State) → IsShort top p state → IsShort top p (after_acts (on_ask from slot copied state) state)
unfolding on_ask
short_ask top p from slot copied state short =
    elim (cases_Bool (ltb slot state.kept.base)) [
      | inl below ↦ rw below (rw (silent_snapshot from copied state state) short)
      | inr kept ↦ rw kept (rw (silent_sends from (known_from slot (drop (slot - state.kept.base) state.learned)) state) short)
    ]

short_snap : (top p slot : ℕ) (rows : List JobRow) (state : State) → slot ≤ p → IsShort top p state → IsShort top p (after_acts (on_snap slot rows state) state)
unfolding on_snap after_act after_delta
short_snap top p slot rows state below short =
    elim (cases_Bool (ltb (prefix_of state) slot)) [
      | inl lacks ↦
          let high = ltb-true (prefix_of state) slot lacks in
          let at = rebased_prefix slot rows state (omega (arith, high)) in
          rw lacks (record { low = short.low; short = omega (arith, at, below) })
      | inr has ↦ rw has short
    ]

pub short_line : (self : Identity) (top p from : ℕ) (message : Message) (once : Once) (state : State) → StaysWithin top p message → IsNoAcceptance message → IsShort top p state → IsShort top p (after_acts (line self from message once state) state)
unfolding line on_lead
short_line self top p from (Prepare ballot slot) once state within none short = short_prepare top p from ballot slot once.copied state within.low short
short_line self top p from (Promise ballot slot votes) once state within none short = short_promise top p self.members from ballot slot votes state state.term short
short_line self top p from (Accept vote) once state within none short = short_accept top p from vote once.copied state within.low short
short_line self top p from (Accepted ballot slot) once state within none short = absurd none
short_line self top p from (Nack ballot promised) once state within none short = short
short_line self top p from (Known slot entry) once state within none short = short_known top p from slot entry once.asked state within.below short
short_line self top p from (AskFrom slot) once state within none short = short_ask top p from slot once.copied state short
short_line self top p from (Snap slot rows) once state within none short = short_snap top p slot rows state within.below short
short_line self top p from (Lead ballot slot) once state within none short = rw (silent_ask from slot state state) short
short_line self top p from (Mention ballot) once state within none short = short

short_observed : (top p ballot : ℕ) (state : State) → IsShort top p state → IsShort top p (observed ballot state)
unfolding after_act
short_observed top p ballot state short = record { low = short.low; short = short.short }

short_all : (self : Identity) (top p from : ℕ) (messages : List Message) (once : Once) (state : State) → AllByRecursion (StaysWithin top p) messages → AllByRecursion IsNoAcceptance messages → IsShort top p state → IsShort top p (after_acts (hear_all self from messages once state) state)
unfolding hear_all hear
short_all self top p from [] once state within none short = short
short_all self top p from (message ∷ messages) once state within none short =
    let acts = hear self from message once state in
    let now = after_acts acts state in
    let later = once_after message state acts once in
    rw (after_acts-append acts (hear_all self from messages later now) state)
    (short_all self top p from messages later now within.1 none.1
    (short_line self top p from message once (observed (ballot_in message) state) within.0 none.0 (short_observed top p (ballot_in message) state short)))

pub short_mail : (self : Identity) (top p : ℕ) (mail : List HeardLetter) (state : State) → AreWithin top p mail → AreNoAcceptances mail → IsShort top p state → IsShort top p (after_events self (hear_events mail) state)
unfolding step
short_mail self top p [] state within none short = short
short_mail self top p (letter ∷ mail) state within none short =
    short_mail self top p mail _ within.1 none.1 (short_all self top p letter.from letter.messages not_yet state within.0 none.0 short)
