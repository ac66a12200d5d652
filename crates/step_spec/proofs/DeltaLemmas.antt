-- A step changes what is kept once at most.
use Rattle.std.proofs.Common.{◌≡◌, ℕ, ◌+◌, ◌-◌, ◌≤◌, Bool, Some, None, List, [], ◌∷◌, ◌++◌, length, drop, true, false, eqb, ltb, leb, ◌&&◌, ℤ, refl, ap, ◌∙◌, inl, inr, arith, if◌then◌else◌, length-append}
use Rattle.std.specs.List.{count_by}
use Rattle.std.proofs.lemmas.List.Concat.{flat_map-append}
use Rattle.std.proofs.lemmas.Bool.{cases_Bool}
use Rattle.std.proofs.lemmas.List.Sums.{sum_by-cons}
use Rattle.paxos_base.specs.Members.{has_majority, only_member, with_member}
use Rattle.paxos_base.specs.Vote.{vote_at, votes_from}
use Rattle.paxos_base.specs.declared.entry.Entry.{Entry}
use Rattle.paxos_base.specs.declared.entry.Entry.TheVariants.{Noop, Start, End, Table as TableEntry}
use Rattle.paxos_base.specs.declared.entry.Vote.{Vote}
use Rattle.paxos_base.specs.declared.rows.JobRow.{JobRow}
use Rattle.term_core.specs.Term.{is_fourth}
use Rattle.term_core.specs.declared.flight.Flight.{Flight}
use Rattle.term_core.specs.declared.term.Term.{Term}
use Rattle.term_core.specs.declared.term.Term.TheVariants.{Follower, Candidate, Leader}
use Rattle.launch_machine.specs.declared.machine.Intent.{Intent}
use Rattle.launch_machine.specs.declared.machine.Intent.TheVariants as intent
use Rattle.step_spec.specs.Act.{Act, Rebase}
use Rattle.step_spec.specs.Folds.{after_acts, deltas_by, deltas_of}
use Rattle.step_spec.specs.Hear.{Once, ask_below, hear, hear_all, is_vote_of, known_from, line, not_yet, on_prepare, on_promise, on_accept, on_accepted, on_known, on_ask, on_lead, on_snap, once_after, send_all, snapshot}
use Rattle.step_spec.specs.Message.{Message, Prepare, Promise, Accept, Accepted, Nack, Known, AskFrom, Snap, Lead, Mention}
use Rattle.step_spec.specs.Propose.{answer, answer_of, campaign, choose_if, end_if, follow_intent, lead_if, lead_on, propose, proposal, tick, tick_of, wait, is_long, is_open}
use Rattle.step_spec.specs.State.{State, Identity, prefix_of, promised_in}
use Rattle.step_spec.specs.Step.{Event, Campaign, Tick, Hear, Answer, AsksOnce, asks_change, step}

-- how many changes of what is kept some acts bring
abbrev pub changes : List Act → ℕ
changes acts = length (deltas_of acts)

changes-append : (xs ys : List Act) → changes (xs ++ ys) ≡ changes xs + changes ys
changes-append xs ys = ap length (flat_map-append deltas_by xs ys) ∙ length-append (deltas_of xs) (deltas_of ys)

lead_changes : (members heard : ℕ) → changes (lead_if members heard) ≡ 0
unfolding deltas_by
lead_changes members heard = elim (cases_Bool (has_majority members heard)) [ inl enough ↦ rw enough refl | inr few ↦ rw few refl ]

choose_changes : (members accepted slot : ℕ) (entry : Entry) → changes (choose_if members accepted slot entry) ≡ 0
unfolding deltas_by
choose_changes members accepted slot entry =
    elim (cases_Bool (has_majority members accepted)) [ inl enough ↦ rw enough refl | inr few ↦ rw few refl ]

ask_changes : (from slot : ℕ) (state : State) → changes (ask_below from slot state) ≡ 0
unfolding deltas_by
ask_changes from slot state = elim (cases_Bool (ltb (prefix_of state) slot)) [ inl missing ↦ rw missing refl | inr all ↦ rw all refl ]

send_changes : (from : ℕ) (messages : List Message) → changes (send_all from messages) ≡ 0
unfolding deltas_by
send_changes from [] = refl
send_changes from (message ∷ messages) = send_changes from messages

campaign_changes : (self : Identity) (state : State) → changes (campaign self state) ≡ 1
unfolding campaign deltas_by
campaign_changes self state = let none = lead_changes self.members (only_member self.me) in omega (arith, none)

propose_changes : (self : Identity) (vote : Vote) → changes (propose self vote) ≡ 1
unfolding propose deltas_by
propose_changes self vote = let none = choose_changes self.members (only_member self.me) vote.slot vote.entry in omega (arith, none)

wait_changes : (ballot : ℕ) (flight : Flight) → changes (wait ballot flight) ≡ 0
unfolding deltas_by
wait_changes ballot flight = elim (cases_Bool (is_fourth flight)) [ inl again ↦ rw again refl | inr not_yet ↦ rw not_yet refl ]

follow_changes : (self : Identity) (now : ℤ) (wanted : Intent) (ballot : ℕ) (best : List Vote) (state : State) → changes (follow_intent self now wanted ballot best state) ≤ 1
unfolding deltas_by
follow_changes self now (intent.Call job at kind) ballot best state = omega arith
follow_changes self now (intent.Start job at) ballot best state =
    omega (arith, propose_changes self (proposal ballot best (prefix_of state) (Start job at now)))
follow_changes self now (intent.Adopt version) ballot best state =
    omega (arith, propose_changes self (proposal ballot best (prefix_of state) (TableEntry version now)))
follow_changes self now intent.Rest ballot best state = omega arith

tick_changes : (self : Identity) (now : ℤ) (wanted : Intent) (state : State) (term : Term) → changes (tick_of self now wanted state term) ≤ 1
tick_changes self now wanted state (Follower ended) = omega arith
tick_changes self now wanted state (Candidate ballot first heard best) = omega arith
tick_changes self now wanted state (Leader ballot best (Some flight)) = omega (arith, wait_changes ballot flight)
tick_changes self now wanted state (Leader ballot best None) = go (votes_from (prefix_of state) best)
  where
    go : (bound : List Vote) → changes (lead_on self now wanted ballot best state bound) ≤ 1
    go [] = follow_changes self now wanted ballot best state
    go (bound ∷ others) = omega (arith, propose_changes self (proposal ballot best (prefix_of state) Noop))

answer_changes : (self : Identity) (state : State) (entry : Entry) (open_now : Bool) (term : Term) → changes (answer_of self state entry open_now term) ≤ 1
answer_changes self state entry open_now (Follower ended) = omega arith
answer_changes self state entry open_now (Candidate ballot first heard best) = omega arith
answer_changes self state entry open_now (Leader ballot best (Some flight)) = omega arith
answer_changes self state entry open_now (Leader ballot best None) = go (votes_from (prefix_of state) best) open_now
  where
    go : (bound : List Vote) (now : Bool) → changes (end_if self ballot best state entry now bound) ≤ 1
    go [] true = omega (arith, propose_changes self (proposal ballot best (prefix_of state) entry))
    go [] false = omega arith
    go (bound ∷ others) now = omega arith

snapshot_changes : (from : ℕ) (copied : Bool) (state : State) → changes (snapshot from copied state) ≡ 0
unfolding deltas_by
snapshot_changes from true state = refl
snapshot_changes from false state = send_changes from (known_from state.kept.base state.learned)

on_prepare_changes : (from ballot slot : ℕ) (copied : Bool) (state : State) → changes (on_prepare from ballot slot copied state) ≤ 1
unfolding on_prepare deltas_by
on_prepare_changes from ballot slot copied state =
    elim (cases_Bool (leb ballot (promised_in state.kept))) [
      | inl refused ↦ rw refused (omega arith)
      | inr above ↦ rw above (elim (cases_Bool (ltb slot state.kept.base)) [
        | inl behind ↦ rw behind (omega (arith, snapshot_changes from copied state))
        | inr kept ↦ rw kept (omega arith)
      ])
    ]

on_accept_changes : (from : ℕ) (vote : Vote) (copied : Bool) (state : State) → changes (on_accept from vote copied state) ≤ 1
unfolding on_accept deltas_by
on_accept_changes from vote copied state =
    let none = ask_changes from vote.slot state in
    elim (cases_Bool (ltb vote.ballot (promised_in state.kept))) [
      | inl refused ↦ rw refused (omega arith)
      | inr least ↦ rw least (elim (cases_Bool (ltb vote.slot state.kept.base)) [
        | inl behind ↦ rw behind (omega (arith, snapshot_changes from copied state))
        | inr kept ↦ rw kept (elim (cases_Bool (is_vote_of vote.ballot (vote_at vote.slot state.kept.votes))) [
          | inl again ↦ rw again (omega (arith, none))
          | inr new ↦ rw new (omega (arith, none))
        ])
      ])
    ]

on_promise_changes : (members from ballot slot : ℕ) (votes : List Vote) (term : Term) → changes (on_promise members from ballot slot votes term) ≡ 0
unfolding on_promise deltas_by
on_promise_changes members from ballot slot votes (Follower ended) = refl
on_promise_changes members from ballot slot votes (Leader own best flight) = refl
on_promise_changes members from ballot slot votes (Candidate own first heard best) =
    elim (cases_Bool (eqb own ballot && eqb first slot)) [ inl asked ↦ rw asked (lead_changes members (with_member from heard)) | inr other ↦ rw other refl ]

on_accepted_changes : (members from ballot slot : ℕ) (term : Term) → changes (on_accepted members from ballot slot term) ≡ 0
unfolding on_accepted deltas_by
on_accepted_changes members from ballot slot (Follower ended) = refl
on_accepted_changes members from ballot slot (Candidate own first heard best) = refl
on_accepted_changes members from ballot slot (Leader own best None) = refl
on_accepted_changes members from ballot slot (Leader own best (Some flight)) =
    elim (cases_Bool (eqb own ballot && eqb flight.slot slot)) [
      | inl counts ↦ rw counts (choose_changes members (with_member from flight.accepted) flight.slot flight.entry)
      | inr other ↦ rw other refl
    ]

on_known_changes : (from slot : ℕ) (entry : Entry) (asked : Bool) (state : State) → changes (on_known from slot entry asked state) ≡ 0
unfolding on_known deltas_by
on_known_changes from slot entry asked state =
    elim (cases_Bool (eqb slot (prefix_of state))) [
      | inl next ↦ rw next refl
      | inr other ↦ rw other (elim (cases_Bool asked) [ inl once ↦ rw once refl | inr first ↦ rw first (ask_changes from slot state) ])
    ]

on_ask_changes : (from slot : ℕ) (copied : Bool) (state : State) → changes (on_ask from slot copied state) ≡ 0
unfolding on_ask deltas_by
on_ask_changes from slot copied state =
    elim (cases_Bool (ltb slot state.kept.base)) [
      | inl behind ↦ rw behind (snapshot_changes from copied state)
      | inr kept ↦ rw kept (send_changes from (known_from slot (drop (slot - state.kept.base) state.learned)))
    ]

on_snap_changes : (slot : ℕ) (rows : List JobRow) (state : State) → changes (on_snap slot rows state) ≤ 1
unfolding on_snap deltas_by
on_snap_changes slot rows state =
    elim (cases_Bool (ltb (prefix_of state) slot)) [ inl behind ↦ rw behind (omega arith) | inr old ↦ rw old (omega arith) ]

-- whether a message asks for a change, as a number
abbrev pub ones : Bool → ℕ
ones true = 1
ones false = 0

line_changes : (self : Identity) (from : ℕ) (message : Message) (once : Once) (state : State) → changes (line self from message once state) ≤ ones (asks_change message)
unfolding line on_lead deltas_by
line_changes self from (Prepare ballot slot) once state = on_prepare_changes from ballot slot once.copied state
line_changes self from (Promise ballot slot votes) once state = omega (arith, on_promise_changes self.members from ballot slot votes state.term)
line_changes self from (Accept vote) once state = on_accept_changes from vote once.copied state
line_changes self from (Accepted ballot slot) once state = omega (arith, on_accepted_changes self.members from ballot slot state.term)
line_changes self from (Nack ballot promised) once state = omega arith
line_changes self from (Known slot entry) once state = omega (arith, on_known_changes from slot entry once.asked state)
line_changes self from (AskFrom slot) once state = omega (arith, on_ask_changes from slot once.copied state)
line_changes self from (Snap slot rows) once state = on_snap_changes slot rows state
line_changes self from (Lead ballot slot) once state = omega (arith, ask_changes from slot state)
line_changes self from (Mention ballot) once state = omega arith

hear_changes : (self : Identity) (from : ℕ) (message : Message) (once : Once) (state : State) → changes (hear self from message once state) ≤ ones (asks_change message)
unfolding hear deltas_by
hear_changes self from message once state = line_changes self from message once _

counts : (message : Message) (messages : List Message) → count_by asks_change (message ∷ messages) ≡ ones (asks_change message) + count_by asks_change messages
counts message messages =
    sum_by-cons (λ m. if asks_change m then 1 else 0) message messages
    ∙ elim (cases_Bool (asks_change message)) [ inl asks ↦ rw asks refl | inr other ↦ rw other refl ]

hear_all_changes : (self : Identity) (from : ℕ) (messages : List Message) (once : Once) (state : State) → changes (hear_all self from messages once state) ≤ count_by asks_change messages
unfolding hear_all
hear_all_changes self from [] once state = omega arith
hear_all_changes self from (message ∷ messages) once state =
    let acts = hear self from message once state in
    let onward = once_after message state acts once in
    let first = hear_changes self from message once state in
    let rest = hear_all_changes self from messages onward (after_acts acts state) in
    let both = changes-append acts (hear_all self from messages onward (after_acts acts state)) in
    omega (arith, first, rest, both, counts message messages)

-- a step brings one change at most
pub step_changes : (self : Identity) (event : Event) (state : State) → AsksOnce event → changes (step self event state) ≤ 1
unfolding step tick answer deltas_by
step_changes self Campaign state once = omega (arith, campaign_changes self state)
step_changes self (Tick now plan) state once = elim (cases_Bool (is_long state)) [
  | inl long ↦ rw long (omega arith)
  | inr short ↦ rw short (tick_changes self now plan.intent state state.term)
]
step_changes self (Hear from messages) state once = omega (arith, once, hear_all_changes self from messages not_yet state)
step_changes self (Answer job at kind rows) state once = answer_changes self state (End job at kind) (is_open job at rows) state.term

-- a tick of a replica that keeps too many entries rebases, and does nothing else
pub tick-long : (self : Identity) (now : ℤ) (rows : List JobRow) (wanted : Intent) (state : State) → is_long state ≡ true → tick self now rows wanted state ≡ Rebase (prefix_of state) rows ∷ []
unfolding tick
tick-long self now rows wanted state long = rw long refl
