-- The first change of a step alters what is kept.
use Rattle.std.proofs.Common.{◌≡◌, ℕ, ◌+◌, ◌-◌, ◌<◌, Bool, true, false, eqb, ltb, leb, ◌&&◌, Option, None, Some, List, [], ◌∷◌, ◌++◌, drop, ℤ, max, refl, sym, ap, ◌∙◌, subst, inl, inr, arith, if◌then◌else◌, IsTrue}
use Rattle.std.specs.Prelude.{unwrap_or}
use Rattle.std.proofs.lemmas.Bool.{both_ways, cases_Bool, eq-eqb, le-leb, leb-true, ltb-true}
use Rattle.std.proofs.lemmas.List.Concat.{flat_map-append}
use Rattle.paxos_base.specs.Ballot.{ballot_number, round_of}
use Rattle.paxos_base.specs.Durable.{after_delta}
use Rattle.paxos_base.specs.Members.{has_majority, with_member}
use Rattle.paxos_base.specs.Vote.{put_vote, vote_at, votes_from}
use Rattle.paxos_base.specs.declared.durable.Delta.{Delta}
use Rattle.paxos_base.specs.declared.durable.Delta.TheVariants as delta
use Rattle.paxos_base.specs.declared.durable.Durable.{Durable}
use Rattle.paxos_base.specs.declared.entry.Entry.{Entry}
use Rattle.paxos_base.specs.declared.entry.Entry.TheVariants.{Noop, Start, End, Table as TableEntry}
use Rattle.paxos_base.specs.declared.entry.Vote.{Vote}
use Rattle.paxos_base.specs.declared.rows.JobRow.{JobRow}
use Rattle.paxos_base.proofs.PutLemmas.{at_put}
use Rattle.term_core.specs.Term.{is_fourth}
use Rattle.term_core.specs.declared.flight.Flight.{Flight}
use Rattle.term_core.specs.declared.term.Term.{Term}
use Rattle.term_core.specs.declared.term.Term.TheVariants.{Follower, Candidate, Leader}
use Rattle.launch_machine.specs.declared.machine.Intent.{Intent}
use Rattle.launch_machine.specs.declared.machine.Intent.TheVariants as intent
use Rattle.store_format.specs.Order.{after_deltas}
use Rattle.step_spec.specs.Act.{Act, Observe, Stand, Gather, TakeLead, Pledge, Cast, Propose, Count, Wait, Learn, Rebase, Call, Send, Restart, after_act}
use Rattle.step_spec.specs.Folds.{after_acts, deltas_by, deltas_of}
use Rattle.step_spec.specs.Hear.{Once, ask_below, hear, hear_all, is_vote_of, known_from, line, not_yet, on_prepare, on_promise, on_accept, on_accepted, on_known, on_ask, on_lead, on_snap, once_after, send_all, snapshot}
use Rattle.step_spec.specs.Message.{Message, Prepare, Promise, Accept, Accepted, Nack, Known, AskFrom, Snap, Lead, Mention, ballot_in}
use Rattle.step_spec.specs.Propose.{answer, answer_of, campaign, choose_if, end_if, follow_intent, is_long, is_open, lead_if, lead_on, next_ballot, propose, proposal, tick, tick_of, wait}
use Rattle.step_spec.specs.State.{Identity, State, prefix_of, promised_in}
use Rattle.step_spec.specs.Step.{Event, Campaign, Tick, Hear, Answer, step}
use Rattle.durable_changes.specs.Anew.{HasNoVoteIn, ProposesAnew}

-- ---- what acts leave

-- what acts leave is what their changes do, one after another
pub kept_by_acts : (acts : List Act) (state : State) → (after_acts acts state).kept ≡ after_deltas (deltas_of acts) state.kept
unfolding after_act deltas_by
kept_by_acts [] state = refl
kept_by_acts (Observe ballot ∷ acts) state = kept_by_acts acts (after_act (Observe ballot) state)
kept_by_acts (Stand me ballot ∷ acts) state = kept_by_acts acts (after_act (Stand me ballot) state)
kept_by_acts (Gather from votes ∷ acts) state = kept_by_acts acts (after_act (Gather from votes) state)
kept_by_acts (TakeLead ∷ acts) state = kept_by_acts acts (after_act TakeLead state)
kept_by_acts (Pledge ballot ∷ acts) state = kept_by_acts acts (after_act (Pledge ballot) state)
kept_by_acts (Cast vote ∷ acts) state = kept_by_acts acts (after_act (Cast vote) state)
kept_by_acts (Propose me vote ∷ acts) state = kept_by_acts acts (after_act (Propose me vote) state)
kept_by_acts (Count from ∷ acts) state = kept_by_acts acts (after_act (Count from) state)
kept_by_acts (Wait ∷ acts) state = kept_by_acts acts (after_act Wait state)
kept_by_acts (Learn slot entry ∷ acts) state = kept_by_acts acts (after_act (Learn slot entry) state)
kept_by_acts (Rebase slot rows ∷ acts) state = kept_by_acts acts (after_act (Rebase slot rows) state)
kept_by_acts (Call row ∷ acts) state = kept_by_acts acts (after_act (Call row) state)
kept_by_acts (Send whom message ∷ acts) state = kept_by_acts acts (after_act (Send whom message) state)
kept_by_acts (Restart me ∷ acts) state = kept_by_acts acts (after_act (Restart me) state)

-- ---- one change

-- the change alters what is kept
abbrev pub Alters : Durable → Delta → Type 0
Alters kept change = after_delta change kept ≡ kept → ⊥

-- a round that was tried is another than the highest one so far
tried_alters : (kept : Durable) (ballot : ℕ) → kept.tried < round_of ballot → Alters kept (delta.Tried ballot)
unfolding after_delta
tried_alters kept ballot above is =
    let same : round_of ballot ≡ kept.tried = ap (λ (k : Durable). k.tried) is in
    omega (arith, same, above)

-- a ballot above the promised one is another
promised_alters : (kept : Durable) (ballot : ℕ) → leb ballot (promised_in kept) ≡ false → Alters kept (delta.Promised ballot)
unfolding after_delta
promised_alters kept ballot above is =
    let same : Some ballot ≡ kept.promised = ap (λ (k : Durable). k.promised) is in
    let number : ballot ≡ promised_in kept = ap (λ (p : Option ℕ). unwrap_or p 0) same in
    both_ways (leb ballot (promised_in kept)) above (le-leb ballot (promised_in kept) (omega (arith, number)))

-- where a vote leaves what is kept as it was, it was cast before
vote_stood : (kept : Durable) (vote : Vote) → after_delta (delta.Voted vote) kept ≡ kept → vote_at vote.slot kept.votes ≡ Some vote
unfolding after_delta
vote_stood kept vote is =
    let votes : put_vote vote kept.votes ≡ kept.votes = ap (λ (k : Durable). k.votes) is in
    let here : (if eqb vote.slot vote.slot then Some vote else vote_at vote.slot kept.votes) ≡ Some vote = rw (eq-eqb vote.slot vote.slot refl) refl in
    subst (λ (list : List Vote). vote_at vote.slot list ≡ Some vote) votes (at_put vote.slot vote kept.votes ∙ here)

-- so one that wasn't alters it
voted_alters : (kept : Durable) (vote : Vote) → is_vote_of vote.ballot (vote_at vote.slot kept.votes) ≡ false → Alters kept (delta.Voted vote)
voted_alters kept vote other is =
    let cast : is_vote_of vote.ballot (vote_at vote.slot kept.votes) ≡ true = rw (vote_stood kept vote is) (eq-eqb vote.ballot vote.ballot refl) in
    both_ways (is_vote_of vote.ballot (vote_at vote.slot kept.votes)) other cast

-- a base above the one before it is another
base_alters : (kept : Durable) (slot : ℕ) (rows : List JobRow) → kept.base < slot → Alters kept (delta.Base slot rows)
unfolding after_delta
base_alters kept slot rows above is =
    let same : slot ≡ kept.base = ap (λ (k : Durable). k.base) is in
    omega (arith, same, above)

-- ---- the first of some changes

-- the first of some changes does, where there is one
abbrev pub FirstAlters : Durable → List Delta → Type 0
FirstAlters kept [] = Unit {0}
FirstAlters kept (change ∷ changes) = Alters kept change

none_alters : (kept : Durable) (changes : List Delta) → changes ≡ [] → FirstAlters kept changes
none_alters kept [] none = tt
none_alters kept (change ∷ changes) none = absurd (cc none)

then_alters : (kept : Durable) (front back : List Delta) → FirstAlters kept front → (front ≡ [] → FirstAlters kept back) → FirstAlters kept (front ++ back)
then_alters kept [] back first later = later refl
then_alters kept (change ∷ front) back first later = first

-- ---- acts without a change

lead_changes : (members heard : ℕ) → deltas_of (lead_if members heard) ≡ []
unfolding deltas_by
lead_changes members heard = elim (cases_Bool (has_majority members heard)) [ inl enough ↦ rw enough refl | inr few ↦ rw few refl ]

pub choose_changes : (members accepted slot : ℕ) (entry : Entry) → deltas_of (choose_if members accepted slot entry) ≡ []
unfolding deltas_by
choose_changes members accepted slot entry =
    elim (cases_Bool (has_majority members accepted)) [ inl enough ↦ rw enough refl | inr few ↦ rw few refl ]

ask_changes : (from slot : ℕ) (state : State) → deltas_of (ask_below from slot state) ≡ []
unfolding deltas_by
ask_changes from slot state = elim (cases_Bool (ltb (prefix_of state) slot)) [ inl missing ↦ rw missing refl | inr all ↦ rw all refl ]

send_changes : (from : ℕ) (messages : List Message) → deltas_of (send_all from messages) ≡ []
unfolding deltas_by
send_changes from [] = refl
send_changes from (message ∷ messages) = send_changes from messages

wait_changes : (ballot : ℕ) (flight : Flight) → deltas_of (wait ballot flight) ≡ []
unfolding deltas_by
wait_changes ballot flight = elim (cases_Bool (is_fourth flight)) [ inl again ↦ rw again refl | inr not_yet ↦ rw not_yet refl ]

snapshot_changes : (from : ℕ) (copied : Bool) (state : State) → deltas_of (snapshot from copied state) ≡ []
unfolding deltas_by
snapshot_changes from true state = refl
snapshot_changes from false state = send_changes from (known_from state.kept.base state.learned)

promise_changes : (members from ballot slot : ℕ) (votes : List Vote) (term : Term) → deltas_of (on_promise members from ballot slot votes term) ≡ []
unfolding on_promise deltas_by
promise_changes members from ballot slot votes (Follower ended) = refl
promise_changes members from ballot slot votes (Leader own best flight) = refl
promise_changes members from ballot slot votes (Candidate own first heard best) =
    elim (cases_Bool (eqb own ballot && eqb first slot)) [ inl asked ↦ rw asked (lead_changes members (with_member from heard)) | inr other ↦ rw other refl ]

accepted_changes : (members from ballot slot : ℕ) (term : Term) → deltas_of (on_accepted members from ballot slot term) ≡ []
unfolding on_accepted deltas_by
accepted_changes members from ballot slot (Follower ended) = refl
accepted_changes members from ballot slot (Candidate own first heard best) = refl
accepted_changes members from ballot slot (Leader own best None) = refl
accepted_changes members from ballot slot (Leader own best (Some flight)) =
    elim (cases_Bool (eqb own ballot && eqb flight.slot slot)) [
      | inl counts ↦ rw counts (choose_changes members (with_member from flight.accepted) flight.slot flight.entry)
      | inr other ↦ rw other refl
    ]

known_changes : (from slot : ℕ) (entry : Entry) (asked : Bool) (state : State) → deltas_of (on_known from slot entry asked state) ≡ []
unfolding on_known deltas_by
known_changes from slot entry asked state =
    elim (cases_Bool (eqb slot (prefix_of state))) [
      | inl next ↦ rw next refl
      | inr other ↦ rw other (elim (cases_Bool asked) [ inl once ↦ rw once refl | inr first ↦ rw first (ask_changes from slot state) ])
    ]

told_changes : (from slot : ℕ) (copied : Bool) (state : State) → deltas_of (on_ask from slot copied state) ≡ []
unfolding on_ask deltas_by
told_changes from slot copied state =
    elim (cases_Bool (ltb slot state.kept.base)) [
      | inl behind ↦ rw behind (snapshot_changes from copied state)
      | inr kept ↦ rw kept (send_changes from (known_from slot (drop (slot - state.kept.base) state.learned)))
    ]

-- ---- a letter

prepare_alters : (from ballot slot : ℕ) (copied : Bool) (state : State) → FirstAlters state.kept (deltas_of (on_prepare from ballot slot copied state))
unfolding on_prepare deltas_by
prepare_alters from ballot slot copied state =
    elim (cases_Bool (leb ballot (promised_in state.kept))) [
      | inl refused ↦ rw refused tt
      | inr above ↦ rw above (elim (cases_Bool (ltb slot state.kept.base)) [
        | inl behind ↦ rw behind (none_alters state.kept (deltas_of (snapshot from copied state)) (snapshot_changes from copied state))
        | inr kept ↦ rw kept (promised_alters state.kept ballot above)
      ])
    ]

accept_alters : (from : ℕ) (vote : Vote) (copied : Bool) (state : State) → FirstAlters state.kept (deltas_of (on_accept from vote copied state))
unfolding on_accept deltas_by
accept_alters from vote copied state =
    elim (cases_Bool (ltb vote.ballot (promised_in state.kept))) [
      | inl refused ↦ rw refused tt
      | inr least ↦ rw least (elim (cases_Bool (ltb vote.slot state.kept.base)) [
        | inl behind ↦ rw behind (none_alters state.kept (deltas_of (snapshot from copied state)) (snapshot_changes from copied state))
        | inr kept ↦ rw kept (elim (cases_Bool (is_vote_of vote.ballot (vote_at vote.slot state.kept.votes))) [
          | inl again ↦ rw again (none_alters state.kept (deltas_of (ask_below from vote.slot state)) (ask_changes from vote.slot state))
          | inr new ↦ rw new (voted_alters state.kept vote new)
        ])
      ])
    ]

snap_alters : (slot : ℕ) (rows : List JobRow) (state : State) → FirstAlters state.kept (deltas_of (on_snap slot rows state))
unfolding on_snap deltas_by
snap_alters slot rows state =
    elim (cases_Bool (ltb (prefix_of state) slot)) [
      | inl behind ↦
          let above = ltb-true (prefix_of state) slot behind in
          rw behind (base_alters state.kept slot rows (omega (arith, above)))
      | inr old ↦ rw old tt
    ]

line_alters : (self : Identity) (from : ℕ) (message : Message) (once : Once) (state : State) → FirstAlters state.kept (deltas_of (line self from message once state))
unfolding line on_lead deltas_by
line_alters self from (Prepare ballot slot) once state = prepare_alters from ballot slot once.copied state
line_alters self from (Promise ballot slot votes) once state =
    none_alters state.kept (deltas_of (on_promise self.members from ballot slot votes state.term)) (promise_changes self.members from ballot slot votes state.term)
line_alters self from (Accept vote) once state = accept_alters from vote once.copied state
line_alters self from (Accepted ballot slot) once state =
    none_alters state.kept (deltas_of (on_accepted self.members from ballot slot state.term)) (accepted_changes self.members from ballot slot state.term)
line_alters self from (Nack ballot promised) once state = tt
line_alters self from (Known slot entry) once state =
    none_alters state.kept (deltas_of (on_known from slot entry once.asked state)) (known_changes from slot entry once.asked state)
line_alters self from (AskFrom slot) once state = none_alters state.kept (deltas_of (on_ask from slot once.copied state)) (told_changes from slot once.copied state)
line_alters self from (Snap slot rows) once state = snap_alters slot rows state
line_alters self from (Lead ballot slot) once state = none_alters state.kept (deltas_of (ask_below from slot state)) (ask_changes from slot state)
line_alters self from (Mention ballot) once state = tt

hear_alters : (self : Identity) (from : ℕ) (message : Message) (once : Once) (state : State) → FirstAlters state.kept (deltas_of (hear self from message once state))
unfolding hear deltas_by after_act
hear_alters self from message once state = line_alters self from message once (after_act (Observe (ballot_in message)) state)

-- acts without a change leave what is kept
still_kept : (acts : List Act) (state : State) → deltas_of acts ≡ [] → (after_acts acts state).kept ≡ state.kept
still_kept acts state none = kept_by_acts acts state ∙ ap (λ (changes : List Delta). after_deltas changes state.kept) none

letter_alters : (self : Identity) (from : ℕ) (messages : List Message) (once : Once) (state : State) → FirstAlters state.kept (deltas_of (hear_all self from messages once state))
unfolding hear_all
letter_alters self from [] once state = tt
letter_alters self from (message ∷ messages) once state =
    let acts = hear self from message once state in
    let onward = once_after message state acts once in
    let rest = hear_all self from messages onward (after_acts acts state) in
    subst (FirstAlters state.kept) (sym (flat_map-append deltas_by acts rest))
    (then_alters state.kept (deltas_of acts) (deltas_of rest) (hear_alters self from message once state)
    (λ none. subst (λ (kept : Durable). FirstAlters kept (deltas_of rest)) (still_kept acts state none) (letter_alters self from messages onward (after_acts acts state))))

-- ---- a campaign, a tick and an answer

next_round : (me tried seen : ℕ) → me < 8 → tried < round_of (ballot_number (max tried (round_of seen) + 1) me)
next_round me tried seen few = omega (arith, few)

campaign_alters : (self : Identity) (state : State) → self.me < 8 → FirstAlters state.kept (deltas_of (campaign self state))
unfolding campaign deltas_by
campaign_alters self state few = tried_alters state.kept (next_ballot self.me state) (next_round self.me state.kept.tried state.seen few)

-- a leader proposes at its prefix in its own ballot
propose_alters : (self : Identity) (state : State) (ballot : ℕ) (best : List Vote) (entry : Entry) → (IsTrue (is_vote_of ballot (vote_at (prefix_of state) state.kept.votes)) → ⊥)
    → FirstAlters state.kept (deltas_of (propose self (proposal ballot best (prefix_of state) entry)))
unfolding propose deltas_by
propose_alters self state ballot best entry anew =
    elim (cases_Bool (is_vote_of ballot (vote_at (prefix_of state) state.kept.votes))) [
      | inl again ↦ absurd (anew again)
      | inr new ↦ voted_alters state.kept (proposal ballot best (prefix_of state) entry) new
    ]

follow_alters : (self : Identity) (now : ℤ) (wanted : Intent) (ballot : ℕ) (best : List Vote) (state : State) → (IsTrue (is_vote_of ballot (vote_at (prefix_of state) state.kept.votes)) → ⊥)
    → FirstAlters state.kept (deltas_of (follow_intent self now wanted ballot best state))
unfolding deltas_by
follow_alters self now (intent.Call job at kind) ballot best state anew = tt
follow_alters self now (intent.Start job at) ballot best state anew = propose_alters self state ballot best (Start job at now) anew
follow_alters self now (intent.Adopt version) ballot best state anew = propose_alters self state ballot best (TableEntry version now) anew
follow_alters self now intent.Rest ballot best state anew = tt

tick_alters : (self : Identity) (now : ℤ) (wanted : Intent) (state : State) (term : Term) → HasNoVoteIn state.kept (prefix_of state) term → FirstAlters state.kept (deltas_of (tick_of self now wanted state term))
tick_alters self now wanted state (Follower ended) anew = tt
tick_alters self now wanted state (Candidate ballot first heard best) anew = tt
tick_alters self now wanted state (Leader ballot best (Some flight)) anew = none_alters state.kept (deltas_of (wait ballot flight)) (wait_changes ballot flight)
tick_alters self now wanted state (Leader ballot best None) anew = go (votes_from (prefix_of state) best)
  where
    go : (bound : List Vote) → FirstAlters state.kept (deltas_of (lead_on self now wanted ballot best state bound))
    go [] = follow_alters self now wanted ballot best state anew
    go (bound ∷ others) = propose_alters self state ballot best Noop anew

answer_alters : (self : Identity) (state : State) (entry : Entry) (open_now : Bool) (term : Term) → HasNoVoteIn state.kept (prefix_of state) term → FirstAlters state.kept (deltas_of (answer_of self state entry open_now term))
answer_alters self state entry open_now (Follower ended) anew = tt
answer_alters self state entry open_now (Candidate ballot first heard best) anew = tt
answer_alters self state entry open_now (Leader ballot best (Some flight)) anew = tt
answer_alters self state entry open_now (Leader ballot best None) anew = go (votes_from (prefix_of state) best) open_now
  where
    go : (bound : List Vote) (now : Bool) → FirstAlters state.kept (deltas_of (end_if self ballot best state entry now bound))
    go [] true = propose_alters self state ballot best entry anew
    go [] false = tt
    go (bound ∷ others) now = tt

long_base : (state : State) (base : ℕ) → leb (base + 64) (prefix_of state) ≡ true → base < prefix_of state
long_base state base long = let up = leb-true (base + 64) (prefix_of state) long in omega (arith, up)

-- the first change of a step does
pub step_alters : (self : Identity) (event : Event) (state : State) → self.me < 8 → ProposesAnew state → FirstAlters state.kept (deltas_of (step self event state))
unfolding step tick answer deltas_by
step_alters self Campaign state few anew = campaign_alters self state few
step_alters self (Tick now plan) state few anew = elim (cases_Bool (is_long state)) [
  | inl long ↦ rw long (base_alters state.kept (prefix_of state) plan.rows (long_base state state.kept.base long))
  | inr short ↦ rw short (tick_alters self now plan.intent state state.term anew)
]
step_alters self (Hear from messages) state few anew = letter_alters self from messages not_yet state
step_alters self (Answer job at kind rows) state few anew = answer_alters self state (End job at kind) (is_open job at rows) state.term anew

-- so does the one that it has
pub change_alters : (self : Identity) (event : Event) (state : State) (change : Delta) → self.me < 8 → ProposesAnew state → deltas_of (step self event state) ≡ change ∷ [] → Alters state.kept change
change_alters self event state change few anew is = subst (FirstAlters state.kept) is (step_alters self event state few anew)
