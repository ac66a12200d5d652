-- A step sends its launch table once at most.
use Rattle.std.proofs.Common.{◌≡◌, ℕ, ◌+◌, ◌-◌, ◌≤◌, Bool, Some, None, List, [], ◌∷◌, ◌++◌, length, drop, true, false, eqb, ltb, leb, ◌&&◌, ◌||◌, ℤ, refl, ap, ◌∙◌, inl, inr, arith, length-append}
use Rattle.std.proofs.lemmas.List.Concat.{flat_map-append}
use Rattle.std.proofs.lemmas.Bool.{cases_Bool, ltb-false}
use Rattle.paxos_base.specs.Members.{has_majority, only_member, with_member}
use Rattle.paxos_base.specs.Vote.{vote_at, votes_from}
use Rattle.paxos_base.specs.declared.entry.Entry.{Entry}
use Rattle.paxos_base.specs.declared.entry.Entry.TheVariants.{Noop, Start, End, Table as TableEntry}
use Rattle.paxos_base.specs.declared.entry.Vote.{Vote}
use Rattle.paxos_base.specs.declared.rows.JobRow.{JobRow}
use Rattle.term_core.specs.Term.{is_fourth}
use Rattle.term_core.specs.declared.flight.Flight.{Flight}
use Rattle.term_core.specs.declared.term.Term.{Term}
use Rattle.term_core.specs.declared.term.Term.TheVariants.{Follower, Candidate, Leader}
use Rattle.launch_machine.specs.declared.machine.Intent.{Intent}
use Rattle.launch_machine.specs.declared.machine.Intent.TheVariants as intent
use Rattle.step_spec.specs.Act.{Act}
use Rattle.step_spec.specs.Folds.{after_acts, copies_by, copies_of}
use Rattle.step_spec.specs.Hear.{Once, ask_below, hear, hear_all, is_vote_of, known_from, line, not_yet, on_prepare, on_promise, on_accept, on_accepted, on_known, on_ask, on_lead, on_snap, once_after, send_all, sends_copy, snapshot}
use Rattle.step_spec.specs.Message.{Message, Prepare, Promise, Accept, Accepted, Nack, Known, AskFrom, Snap, Lead, Mention}
use Rattle.step_spec.specs.Propose.{answer, answer_of, campaign, choose_if, end_if, follow_intent, lead_if, lead_on, propose, proposal, tick, tick_of, wait, is_long, is_open}
use Rattle.step_spec.specs.State.{State, Identity, prefix_of, promised_in}
use Rattle.step_spec.specs.Step.{Event, Campaign, Tick, Hear, Answer, step}
use Rattle.step_spec.proofs.DeltaLemmas.{ones}

-- how many launch tables some acts send
abbrev pub copies : List Act → ℕ
copies acts = length (copies_of acts)

copies-append : (xs ys : List Act) → copies (xs ++ ys) ≡ copies xs + copies ys
copies-append xs ys = ap length (flat_map-append copies_by xs ys) ∙ length-append (copies_of xs) (copies_of ys)

one_most : (test : Bool) → ones test ≤ 1
one_most true = omega arith
one_most false = omega arith

or_sent : (copied : Bool) → ones (copied || true) ≡ 1
or_sent true = refl
or_sent false = refl

or_quiet : (copied : Bool) → ones (copied || false) ≡ ones copied
or_quiet true = refl
or_quiet false = refl

lead_copies : (members heard : ℕ) → copies (lead_if members heard) ≡ 0
unfolding copies_by
lead_copies members heard = elim (cases_Bool (has_majority members heard)) [ inl enough ↦ rw enough refl | inr few ↦ rw few refl ]

choose_copies : (members accepted slot : ℕ) (entry : Entry) → copies (choose_if members accepted slot entry) ≡ 0
unfolding copies_by
choose_copies members accepted slot entry =
    elim (cases_Bool (has_majority members accepted)) [ inl enough ↦ rw enough refl | inr few ↦ rw few refl ]

ask_copies : (from slot : ℕ) (state : State) → copies (ask_below from slot state) ≡ 0
unfolding copies_by
ask_copies from slot state = elim (cases_Bool (ltb (prefix_of state) slot)) [ inl missing ↦ rw missing refl | inr all ↦ rw all refl ]

known_copies : (from slot : ℕ) (entries : List Entry) → copies (send_all from (known_from slot entries)) ≡ 0
unfolding copies_by
known_copies from slot [] = refl
known_copies from slot (entry ∷ entries) = known_copies from (slot + 1) entries

-- where a snapshot was sent, no other is
snapshot_copies : (from : ℕ) (copied : Bool) (state : State) → copies (snapshot from copied state) + ones copied ≤ 1
unfolding copies_by
snapshot_copies from true state = omega arith
snapshot_copies from false state = omega (arith, known_copies from state.kept.base state.learned)

campaign_copies : (self : Identity) (state : State) → copies (campaign self state) ≡ 0
unfolding campaign copies_by
campaign_copies self state = lead_copies self.members (only_member self.me)

propose_copies : (self : Identity) (vote : Vote) → copies (propose self vote) ≡ 0
unfolding propose copies_by
propose_copies self vote = choose_copies self.members (only_member self.me) vote.slot vote.entry

wait_copies : (ballot : ℕ) (flight : Flight) → copies (wait ballot flight) ≡ 0
unfolding copies_by
wait_copies ballot flight = elim (cases_Bool (is_fourth flight)) [ inl again ↦ rw again refl | inr not_yet ↦ rw not_yet refl ]

follow_copies : (self : Identity) (now : ℤ) (wanted : Intent) (ballot : ℕ) (best : List Vote) (state : State) → copies (follow_intent self now wanted ballot best state) ≡ 0
unfolding copies_by
follow_copies self now (intent.Call job at kind) ballot best state = refl
follow_copies self now (intent.Start job at) ballot best state = propose_copies self (proposal ballot best (prefix_of state) (Start job at now))
follow_copies self now (intent.Adopt version) ballot best state = propose_copies self (proposal ballot best (prefix_of state) (TableEntry version now))
follow_copies self now intent.Rest ballot best state = refl

tick_copies : (self : Identity) (now : ℤ) (wanted : Intent) (state : State) (term : Term) → copies (tick_of self now wanted state term) ≡ 0
tick_copies self now wanted state (Follower ended) = refl
tick_copies self now wanted state (Candidate ballot first heard best) = refl
tick_copies self now wanted state (Leader ballot best (Some flight)) = wait_copies ballot flight
tick_copies self now wanted state (Leader ballot best None) = go (votes_from (prefix_of state) best)
  where
    go : (bound : List Vote) → copies (lead_on self now wanted ballot best state bound) ≡ 0
    go [] = follow_copies self now wanted ballot best state
    go (bound ∷ others) = propose_copies self (proposal ballot best (prefix_of state) Noop)

answer_copies : (self : Identity) (state : State) (entry : Entry) (open_now : Bool) (term : Term) → copies (answer_of self state entry open_now term) ≡ 0
answer_copies self state entry open_now (Follower ended) = refl
answer_copies self state entry open_now (Candidate ballot first heard best) = refl
answer_copies self state entry open_now (Leader ballot best (Some flight)) = refl
answer_copies self state entry open_now (Leader ballot best None) = go (votes_from (prefix_of state) best) open_now
  where
    go : (bound : List Vote) (now : Bool) → copies (end_if self ballot best state entry now bound) ≡ 0
    go [] true = propose_copies self (proposal ballot best (prefix_of state) entry)
    go [] false = refl
    go (bound ∷ others) now = refl

on_prepare_copies : (from ballot slot : ℕ) (copied : Bool) (state : State) → copies (on_prepare from ballot slot copied state) + ones copied ≤ 1
unfolding on_prepare copies_by
on_prepare_copies from ballot slot copied state =
    elim (cases_Bool (leb ballot (promised_in state.kept))) [
      | inl refused ↦ rw refused (omega (arith, one_most copied))
      | inr above ↦ rw above (elim (cases_Bool (ltb slot state.kept.base)) [
        | inl behind ↦ rw behind (snapshot_copies from copied state)
        | inr kept ↦ rw kept (omega (arith, one_most copied))
      ])
    ]

on_accept_copies : (from : ℕ) (vote : Vote) (copied : Bool) (state : State) → copies (on_accept from vote copied state) + ones copied ≤ 1
unfolding on_accept copies_by
on_accept_copies from vote copied state =
    let none = ask_copies from vote.slot state in
    let most = one_most copied in
    elim (cases_Bool (ltb vote.ballot (promised_in state.kept))) [
      | inl refused ↦ rw refused (omega (arith, one_most copied))
      | inr least ↦ rw least (elim (cases_Bool (ltb vote.slot state.kept.base)) [
        | inl behind ↦ rw behind (snapshot_copies from copied state)
        | inr kept ↦ rw kept (elim (cases_Bool (is_vote_of vote.ballot (vote_at vote.slot state.kept.votes))) [
          | inl again ↦ rw again (omega (arith, none, most))
          | inr new ↦ rw new (omega (arith, none, most))
        ])
      ])
    ]

on_promise_copies : (members from ballot slot : ℕ) (votes : List Vote) (term : Term) → copies (on_promise members from ballot slot votes term) ≡ 0
unfolding on_promise copies_by
on_promise_copies members from ballot slot votes (Follower ended) = refl
on_promise_copies members from ballot slot votes (Leader own best flight) = refl
on_promise_copies members from ballot slot votes (Candidate own first heard best) =
    elim (cases_Bool (eqb own ballot && eqb first slot)) [ inl asked ↦ rw asked (lead_copies members (with_member from heard)) | inr other ↦ rw other refl ]

on_accepted_copies : (members from ballot slot : ℕ) (term : Term) → copies (on_accepted members from ballot slot term) ≡ 0
unfolding on_accepted copies_by
on_accepted_copies members from ballot slot (Follower ended) = refl
on_accepted_copies members from ballot slot (Candidate own first heard best) = refl
on_accepted_copies members from ballot slot (Leader own best None) = refl
on_accepted_copies members from ballot slot (Leader own best (Some flight)) =
    elim (cases_Bool (eqb own ballot && eqb flight.slot slot)) [
      | inl counts ↦ rw counts (choose_copies members (with_member from flight.accepted) flight.slot flight.entry)
      | inr other ↦ rw other refl
    ]

on_known_copies : (from slot : ℕ) (entry : Entry) (asked : Bool) (state : State) → copies (on_known from slot entry asked state) ≡ 0
unfolding on_known copies_by
on_known_copies from slot entry asked state =
    elim (cases_Bool (eqb slot (prefix_of state))) [
      | inl next ↦ rw next refl
      | inr other ↦ rw other (elim (cases_Bool asked) [ inl once ↦ rw once refl | inr first ↦ rw first (ask_copies from slot state) ])
    ]

on_ask_copies : (from slot : ℕ) (copied : Bool) (state : State) → copies (on_ask from slot copied state) + ones copied ≤ 1
unfolding on_ask
on_ask_copies from slot copied state =
    let none = known_copies from slot (drop (slot - state.kept.base) state.learned) in
    let most = one_most copied in
    elim (cases_Bool (ltb slot state.kept.base)) [
      | inl behind ↦ rw behind (snapshot_copies from copied state)
      | inr kept ↦ rw kept (omega (arith, none, most))
    ]

on_snap_copies : (slot : ℕ) (rows : List JobRow) (state : State) → copies (on_snap slot rows state) ≡ 0
unfolding on_snap copies_by
on_snap_copies slot rows state = elim (cases_Bool (ltb (prefix_of state) slot)) [ inl behind ↦ rw behind refl | inr old ↦ rw old refl ]

line_copies : (self : Identity) (from : ℕ) (message : Message) (once : Once) (state : State) → copies (line self from message once state) + ones once.copied ≤ 1
unfolding line on_lead copies_by
line_copies self from (Prepare ballot slot) once state = on_prepare_copies from ballot slot once.copied state
line_copies self from (Promise ballot slot votes) once state = omega (arith, one_most once.copied, on_promise_copies self.members from ballot slot votes state.term)
line_copies self from (Accept vote) once state = on_accept_copies from vote once.copied state
line_copies self from (Accepted ballot slot) once state = omega (arith, one_most once.copied, on_accepted_copies self.members from ballot slot state.term)
line_copies self from (Nack ballot promised) once state = omega (arith, one_most once.copied)
line_copies self from (Known slot entry) once state = omega (arith, one_most once.copied, on_known_copies from slot entry once.asked state)
line_copies self from (AskFrom slot) once state = on_ask_copies from slot once.copied state
line_copies self from (Snap slot rows) once state = omega (arith, one_most once.copied, on_snap_copies slot rows state)
line_copies self from (Lead ballot slot) once state = omega (arith, one_most once.copied, ask_copies from slot state)
line_copies self from (Mention ballot) once state = omega (arith, one_most once.copied)

hear_copies : (self : Identity) (from : ℕ) (message : Message) (once : Once) (state : State) → copies (hear self from message once state) + ones once.copied ≤ 1
unfolding hear copies_by
hear_copies self from message once state = line_copies self from message once _

hear_all_copies : (self : Identity) (from : ℕ) (messages : List Message) (once : Once) (state : State) → copies (hear_all self from messages once state) + ones once.copied ≤ 1
unfolding hear_all
hear_all_copies self from [] once state = omega (arith, one_most once.copied)
hear_all_copies self from (message ∷ messages) once state =
    let acts = hear self from message once state in
    let onward = once_after message state acts once in
    let first = hear_copies self from message once state in
    let rest = hear_all_copies self from messages onward (after_acts acts state) in
    let both = copies-append acts (hear_all self from messages onward (after_acts acts state)) in
    elim (cases_Bool (sends_copy acts)) [
      | inl sends ↦
          let now : ones onward.copied ≡ 1 = ap ones (ap (λ sent. once.copied || sent) sends) ∙ or_sent once.copied in
          omega (arith, first, rest, both, now)
      | inr quiet ↦
          let few : copies acts ≤ 0 = ltb-false 0 (copies acts) quiet in
          let same : ones onward.copied ≡ ones once.copied = ap ones (ap (λ sent. once.copied || sent) quiet) ∙ or_quiet once.copied in
          omega (arith, few, rest, both, same)
    ]

-- a step sends one launch table at most
pub step_copies : (self : Identity) (event : Event) (state : State) → copies (step self event state) ≤ 1
unfolding step tick answer copies_by
step_copies self Campaign state = omega (arith, campaign_copies self state)
step_copies self (Tick now plan) state = elim (cases_Bool (is_long state)) [
  | inl long ↦ rw long (omega arith)
  | inr short ↦ rw short (omega (arith, tick_copies self now plan.intent state state.term))
]
step_copies self (Hear from messages) state = omega (arith, hear_all_copies self from messages not_yet state)
step_copies self (Answer job at kind rows) state = omega (arith, answer_copies self state (End job at kind) (is_open job at rows) state.term)
