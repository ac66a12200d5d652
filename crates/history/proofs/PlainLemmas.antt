-- What a step votes for and calls: by its first act, or for what it was asked in a letter.
use Rattle.std.proofs.Common.{◌≡◌, ℕ, ◌-◌, Bool, Some, None, List, [], ◌∷◌, ◌++◌, drop, true, false, eqb, ltb, leb, ◌&&◌, ℤ, refl, ap, ◌∙◌, inl, inr, subst}
use Rattle.std.specs.List.{AllByRecursion, Contains, flat_map}
use Rattle.std.proofs.lemmas.Bool.{cases_Bool}
use Rattle.std.proofs.lemmas.List.Concat.{flat_map-append}
use Rattle.std.proofs.lemmas.List.Elements.{Contains-append_cases}
use Rattle.paxos_base.specs.Members.{has_majority, only_member, with_member}
use Rattle.paxos_base.specs.Vote.{vote_at, votes_from}
use Rattle.paxos_base.specs.declared.entry.Entry.{Entry}
use Rattle.paxos_base.specs.declared.entry.Entry.TheVariants.{Noop, Start, End, Table as TableEntry}
use Rattle.paxos_base.specs.declared.entry.Vote.{Vote}
use Rattle.paxos_base.specs.declared.rows.JobRow.{JobRow}
use Rattle.cluster_sched.specs.declared.row.SchedRow.{SchedRow}
use Rattle.term_core.specs.Term.{is_fourth}
use Rattle.term_core.specs.declared.flight.Flight.{Flight}
use Rattle.term_core.specs.declared.term.Term.{Term}
use Rattle.term_core.specs.declared.term.Term.TheVariants.{Follower, Candidate, Leader}
use Rattle.launch_machine.specs.declared.machine.Intent.{Intent}
use Rattle.launch_machine.specs.declared.machine.Intent.TheVariants as intent
use Rattle.step_spec.specs.Act.{Act, Observe, Stand, Gather, TakeLead, Pledge, Cast, Propose, Count, Wait, Learn, Rebase, Call, Send, Restart}
use Rattle.step_spec.specs.Folds.{after_acts, calls_by, calls_of, deltas_by, deltas_of}
use Rattle.step_spec.specs.Hear.{Once, ask_below, hear, hear_all, is_vote_of, known_from, line, not_yet, on_prepare, on_promise, on_accept, on_accepted, on_known, on_ask, on_lead, on_snap, once_after, send_all, snapshot}
use Rattle.step_spec.specs.May.{AllMay, HasSaid, May, MayCallFor, Setting, TellsWhatWasSaid, WasSaid}
use Rattle.step_spec.specs.Message.{Message, Prepare, Promise, Accept, Accepted, Nack, Known, AskFrom, Snap, Lead, Mention}
use Rattle.step_spec.specs.Propose.{answer, answer_of, campaign, choose_if, end_if, follow_intent, lead_if, lead_on, propose, proposal, tick, tick_of, wait, is_long, is_open}
use Rattle.step_spec.specs.State.{State, Identity, prefix_of, promised_in}
use Rattle.step_spec.specs.Step.{Event, Campaign, Tick, Hear, Answer, step}
use Rattle.step_spec.proofs.Lists.{nothing_in}
use Rattle.agreement.proofs.Growing.{Casts}
use Rattle.agreement.proofs.Kept.{Origin, asked_by, casts_origin}
use Rattle.history.specs.Book.{vote_of_delta, votes_by, votes_of}
use Rattle.due_set.proofs.Rising.{Contains-head as in_first, Contains-tail as in_rest, Contains-cases as cons_cases}

-- the act proposes nothing and calls for nothing, and a vote that it casts was asked for
abbrev pub IsPlain : (Vote → Type 0) → Act → Type 0
IsPlain asks (Cast vote) = asks vote
IsPlain asks (Propose me vote) = ⊥
IsPlain asks (Call row) = ⊥
IsPlain asks act = Unit {0}

abbrev pub AllPlain : (Vote → Type 0) → List Act → Type 0
AllPlain asks [] = Unit {0}
AllPlain asks (act ∷ acts) = IsPlain asks act × AllPlain asks acts

-- the acts behind the first are plain
abbrev pub RestPlain : (Vote → Type 0) → List Act → Type 0
RestPlain asks [] = Unit {0}
RestPlain asks (act ∷ acts) = AllPlain asks acts

plain_append : (asks : Vote → Type 0) (xs ys : List Act) → AllPlain asks xs → AllPlain asks ys → AllPlain asks (xs ++ ys)
plain_append asks [] ys first second = second
plain_append asks (x ∷ xs) ys first second = (first.0, plain_append asks xs ys first.1 second)

is_plain_more : (asks more : Vote → Type 0) (act : Act) → ((vote : Vote) → asks vote → more vote) → IsPlain asks act → IsPlain more act
is_plain_more asks more (Observe ballot) goes plain = tt
is_plain_more asks more (Stand me ballot) goes plain = tt
is_plain_more asks more (Gather from votes) goes plain = tt
is_plain_more asks more TakeLead goes plain = tt
is_plain_more asks more (Pledge ballot) goes plain = tt
is_plain_more asks more (Cast vote) goes plain = goes vote plain
is_plain_more asks more (Propose me vote) goes plain = absurd plain
is_plain_more asks more (Count from) goes plain = tt
is_plain_more asks more Wait goes plain = tt
is_plain_more asks more (Learn slot entry) goes plain = tt
is_plain_more asks more (Rebase slot rows) goes plain = tt
is_plain_more asks more (Call row) goes plain = absurd plain
is_plain_more asks more (Send whom message) goes plain = tt
is_plain_more asks more (Restart me) goes plain = tt

plain_more : (asks more : Vote → Type 0) (acts : List Act) → ((vote : Vote) → asks vote → more vote) → AllPlain asks acts → AllPlain more acts
plain_more asks more [] goes plain = tt
plain_more asks more (act ∷ acts) goes plain = (is_plain_more asks more act goes plain.0, plain_more asks more acts goes plain.1)

plain_rest : (asks : Vote → Type 0) (acts : List Act) → AllPlain asks acts → RestPlain asks acts
plain_rest asks [] plain = tt
plain_rest asks (act ∷ acts) plain = plain.1

-- ---- what is proposed

module _ (asks : Vote → Type 0) where
  lead_plain : (members heard : ℕ) → AllPlain asks (lead_if members heard)
  lead_plain members heard = elim (cases_Bool (has_majority members heard)) [ inl enough ↦ rw enough (tt, tt) | inr few ↦ rw few tt ]

  choose_plain : (members accepted slot : ℕ) (entry : Entry) → AllPlain asks (choose_if members accepted slot entry)
  choose_plain members accepted slot entry =
      elim (cases_Bool (has_majority members accepted)) [ inl enough ↦ rw enough (tt, (tt, tt)) | inr few ↦ rw few tt ]

  ask_plain : (from slot : ℕ) (state : State) → AllPlain asks (ask_below from slot state)
  ask_plain from slot state = elim (cases_Bool (ltb (prefix_of state) slot)) [ inl missing ↦ rw missing (tt, tt) | inr all ↦ rw all tt ]

  send_plain : (from : ℕ) (messages : List Message) → AllPlain asks (send_all from messages)
  send_plain from [] = tt
  send_plain from (message ∷ messages) = (tt, send_plain from messages)

  propose_plain : (self : Identity) (vote : Vote) → RestPlain asks (propose self vote)
  unfolding propose
  propose_plain self vote = (tt, choose_plain self.members (only_member self.me) vote.slot vote.entry)

  wait_plain : (ballot : ℕ) (flight : Flight) → RestPlain asks (wait ballot flight)
  wait_plain ballot flight = elim (cases_Bool (is_fourth flight)) [ inl again ↦ rw again (tt, tt) | inr not_yet ↦ rw not_yet tt ]

  follow_plain : (self : Identity) (now : ℤ) (wanted : Intent) (ballot : ℕ) (best : List Vote) (state : State) → RestPlain asks (follow_intent self now wanted ballot best state)
  follow_plain self now (intent.Call job at kind) ballot best state = tt
  follow_plain self now (intent.Start job at) ballot best state = propose_plain self (proposal ballot best (prefix_of state) (Start job at now))
  follow_plain self now (intent.Adopt version) ballot best state = propose_plain self (proposal ballot best (prefix_of state) (TableEntry version now))
  follow_plain self now intent.Rest ballot best state = tt

  tick_plain : (self : Identity) (now : ℤ) (wanted : Intent) (state : State) (term : Term) → RestPlain asks (tick_of self now wanted state term)
  tick_plain self now wanted state (Follower ended) = tt
  tick_plain self now wanted state (Candidate ballot first heard best) = tt
  tick_plain self now wanted state (Leader ballot best (Some flight)) = wait_plain ballot flight
  tick_plain self now wanted state (Leader ballot best None) = go (votes_from (prefix_of state) best)
    where
      go : (bound : List Vote) → RestPlain asks (lead_on self now wanted ballot best state bound)
      go [] = follow_plain self now wanted ballot best state
      go (bound ∷ others) = propose_plain self (proposal ballot best (prefix_of state) Noop)

  answer_plain : (self : Identity) (state : State) (entry : Entry) (open_now : Bool) (term : Term) → RestPlain asks (answer_of self state entry open_now term)
  answer_plain self state entry open_now (Follower ended) = tt
  answer_plain self state entry open_now (Candidate ballot first heard best) = tt
  answer_plain self state entry open_now (Leader ballot best (Some flight)) = tt
  answer_plain self state entry open_now (Leader ballot best None) = go (votes_from (prefix_of state) best) open_now
    where
      go : (bound : List Vote) (now : Bool) → RestPlain asks (end_if self ballot best state entry now bound)
      go [] true = propose_plain self (proposal ballot best (prefix_of state) entry)
      go [] false = tt
      go (bound ∷ others) now = tt

  -- ---- what is heard

  snapshot_plain : (from : ℕ) (copied : Bool) (state : State) → AllPlain asks (snapshot from copied state)
  snapshot_plain from true state = tt
  snapshot_plain from false state = (tt, send_plain from (known_from state.kept.base state.learned))

  on_prepare_plain : (from ballot slot : ℕ) (copied : Bool) (state : State) → AllPlain asks (on_prepare from ballot slot copied state)
  unfolding on_prepare
  on_prepare_plain from ballot slot copied state =
      elim (cases_Bool (leb ballot (promised_in state.kept))) [
        | inl refused ↦ rw refused (tt, tt)
        | inr above ↦ rw above (elim (cases_Bool (ltb slot state.kept.base)) [
          | inl behind ↦ rw behind (snapshot_plain from copied state)
          | inr kept ↦ rw kept (tt, (tt, tt))
        ])
      ]

  on_accept_plain : (from : ℕ) (vote : Vote) (copied : Bool) (state : State) → asks vote → AllPlain asks (on_accept from vote copied state)
  unfolding on_accept
  on_accept_plain from vote copied state asked =
      elim (cases_Bool (ltb vote.ballot (promised_in state.kept))) [
        | inl refused ↦ rw refused (tt, tt)
        | inr least ↦ rw least (elim (cases_Bool (ltb vote.slot state.kept.base)) [
          | inl behind ↦ rw behind (snapshot_plain from copied state)
          | inr kept ↦ rw kept (elim (cases_Bool (is_vote_of vote.ballot (vote_at vote.slot state.kept.votes))) [
            | inl again ↦ rw again (tt, ask_plain from vote.slot state)
            | inr new ↦ rw new (asked, (tt, ask_plain from vote.slot state))
          ])
        ])
      ]

  on_promise_plain : (members from ballot slot : ℕ) (votes : List Vote) (term : Term) → AllPlain asks (on_promise members from ballot slot votes term)
  unfolding on_promise
  on_promise_plain members from ballot slot votes (Follower ended) = tt
  on_promise_plain members from ballot slot votes (Leader own best flight) = tt
  on_promise_plain members from ballot slot votes (Candidate own first heard best) =
      elim (cases_Bool (eqb own ballot && eqb first slot)) [ inl asked ↦ rw asked (tt, lead_plain members (with_member from heard)) | inr other ↦ rw other tt ]

  on_accepted_plain : (members from ballot slot : ℕ) (term : Term) → AllPlain asks (on_accepted members from ballot slot term)
  unfolding on_accepted
  on_accepted_plain members from ballot slot (Follower ended) = tt
  on_accepted_plain members from ballot slot (Candidate own first heard best) = tt
  on_accepted_plain members from ballot slot (Leader own best None) = tt
  on_accepted_plain members from ballot slot (Leader own best (Some flight)) =
      elim (cases_Bool (eqb own ballot && eqb flight.slot slot)) [
        | inl counts ↦ rw counts (tt, choose_plain members (with_member from flight.accepted) flight.slot flight.entry)
        | inr other ↦ rw other tt
      ]

  on_known_plain : (from slot : ℕ) (entry : Entry) (asked : Bool) (state : State) → AllPlain asks (on_known from slot entry asked state)
  unfolding on_known
  on_known_plain from slot entry asked state =
      elim (cases_Bool (eqb slot (prefix_of state))) [
        | inl next ↦ rw next (tt, tt)
        | inr other ↦ rw other (elim (cases_Bool asked) [ inl once ↦ rw once tt | inr first ↦ rw first (ask_plain from slot state) ])
      ]

  on_ask_plain : (from slot : ℕ) (copied : Bool) (state : State) → AllPlain asks (on_ask from slot copied state)
  unfolding on_ask
  on_ask_plain from slot copied state =
      elim (cases_Bool (ltb slot state.kept.base)) [
        | inl behind ↦ rw behind (snapshot_plain from copied state)
        | inr kept ↦ rw kept (send_plain from (known_from slot (drop (slot - state.kept.base) state.learned)))
      ]

  on_snap_plain : (slot : ℕ) (rows : List JobRow) (state : State) → AllPlain asks (on_snap slot rows state)
  unfolding on_snap
  on_snap_plain slot rows state =
      elim (cases_Bool (ltb (prefix_of state) slot)) [ inl behind ↦ rw behind (tt, tt) | inr old ↦ rw old tt ]

  line_plain : (self : Identity) (from : ℕ) (message : Message) (once : Once) (state : State) → ((vote : Vote) → message ≡ Accept vote → asks vote) → AllPlain asks (line self from message once state)
  unfolding line on_lead
  line_plain self from (Prepare ballot slot) once state asked = on_prepare_plain from ballot slot once.copied state
  line_plain self from (Promise ballot slot votes) once state asked = on_promise_plain self.members from ballot slot votes state.term
  line_plain self from (Accept vote) once state asked = on_accept_plain from vote once.copied state (asked vote refl)
  line_plain self from (Accepted ballot slot) once state asked = on_accepted_plain self.members from ballot slot state.term
  line_plain self from (Nack ballot promised) once state asked = tt
  line_plain self from (Known slot entry) once state asked = on_known_plain from slot entry once.asked state
  line_plain self from (AskFrom slot) once state asked = on_ask_plain from slot once.copied state
  line_plain self from (Snap slot rows) once state asked = on_snap_plain slot rows state
  line_plain self from (Lead ballot slot) once state asked = ask_plain from slot state
  line_plain self from (Mention ballot) once state asked = tt

  hear_all_plain : (self : Identity) (from : ℕ) (messages : List Message) (once : Once) (state : State) → ((vote : Vote) → Contains messages (Accept vote) → asks vote) → AllPlain asks (hear_all self from messages once state)
  unfolding hear_all hear
  hear_all_plain self from [] once state asked = tt
  hear_all_plain self from (message ∷ messages) once state asked =
      let acts = hear self from message once state in
      plain_append asks acts (hear_all self from messages (once_after message state acts once) (after_acts acts state))
      (tt, line_plain self from message once _ (λ vote is. asked vote (rw is (in_first (Accept vote) messages))))
      (hear_all_plain self from messages (once_after message state acts once) (after_acts acts state) (λ vote has. asked vote (in_rest message messages (Accept vote) has)))

-- what the messages of an event ask votes for
abbrev pub AsksFor : Event → Vote → Type 0
AsksFor (Hear from messages) vote = Contains messages (Accept vote)
AsksFor event vote = ⊥

-- the acts of a step behind its first propose nothing and call for nothing, and cast votes that were asked for
pub step_plain : (self : Identity) (event : Event) (state : State) → RestPlain (AsksFor event) (step self event state)
unfolding step campaign tick answer
step_plain self Campaign state = (tt, lead_plain (AsksFor Campaign) self.members (only_member self.me))
step_plain self (Tick now plan) state = elim (cases_Bool (is_long state)) [
  | inl long ↦ rw long tt
  | inr short ↦ rw short (tick_plain (AsksFor (Tick now plan)) self now plan.intent state state.term)
]
step_plain self (Hear from messages) state =
    plain_rest (AsksFor (Hear from messages)) (hear_all self from messages not_yet state)
    (hear_all_plain (AsksFor (Hear from messages)) self from messages not_yet state (λ vote has. has))
step_plain self (Answer job at kind rows) state = answer_plain (AsksFor (Answer job at kind rows)) self state (End job at kind) (is_open job at rows) state.term

-- ---- whence votes and calls come

-- a vote of an act is one that it casts
pub vote_of_act : (act : Act) (vote : Vote) → Contains (votes_by act) vote → Casts act vote
vote_of_act (Cast mine) vote has = elim (cons_cases mine [] vote has) [ inl same ↦ same | inr none ↦ nothing_in none ]
vote_of_act (Propose me mine) vote has = elim (cons_cases mine [] vote has) [ inl same ↦ same | inr none ↦ nothing_in none ]
vote_of_act act vote has = nothing_in has

pub plain_vote : (asks : Vote → Type 0) (act : Act) (vote : Vote) → IsPlain asks act → Casts act vote → asks vote
plain_vote asks (Cast mine) vote plain casts = subst asks casts plain
plain_vote asks (Propose me mine) vote plain casts = absurd plain
plain_vote asks act vote plain casts = absurd casts

pub plain_votes : (asks : Vote → Type 0) (acts : List Act) (vote : Vote) → AllPlain asks acts → Contains (votes_of acts) vote → asks vote
plain_votes asks [] vote plain has = nothing_in has
plain_votes asks (act ∷ acts) vote plain has = elim (Contains-append_cases (votes_by act) (votes_of acts) vote has) [
  | inl here ↦ plain_vote asks act vote plain.0 (vote_of_act act vote here)
  | inr later ↦ plain_votes asks acts vote plain.1 later
]

origin_in : (setting : Setting) (state : State) (asks : Vote → Type 0) (acts : List Act) (vote : Vote)
    → ((vote : Vote) → asks vote → (from : ℕ) × HasSaid setting.said from (Accept vote))
    → RestPlain asks acts → AllMay setting state acts → Contains (votes_of acts) vote → Origin setting state vote
origin_in setting state asks [] vote told plain may has = nothing_in has
origin_in setting state asks (act ∷ acts) vote told plain may has = elim (Contains-append_cases (votes_by act) (votes_of acts) vote has) [
  | inl here ↦ casts_origin setting state act vote (vote_of_act act vote here) may.0
  | inr later ↦ let said = told vote (plain_votes asks acts vote plain later) in asked_by said.0 said.1
]

heard_accept : (setting : Setting) (from : ℕ) (messages : List Message) (vote : Vote) → AllByRecursion (WasSaid setting.said from) messages
    → Contains messages (Accept vote) → HasSaid setting.said from (Accept vote)
heard_accept setting from [] vote all has = nothing_in has
heard_accept setting from (message ∷ messages) vote all has = elim (cons_cases message messages (Accept vote) has) [
  | inl same ↦ let said : WasSaid setting.said from (Accept vote) = subst (λ m. WasSaid setting.said from m) same all.0 in said
  | inr later ↦ heard_accept setting from messages vote all.1 later
]

asked_said : (setting : Setting) (event : Event) → TellsWhatWasSaid setting event → (vote : Vote) → AsksFor event vote
    → (from : ℕ) × HasSaid setting.said from (Accept vote)
asked_said setting Campaign told vote asked = absurd asked
asked_said setting (Tick now plan) told vote asked = absurd asked
asked_said setting (Hear from messages) told vote asked = (from, heard_accept setting from messages vote told asked)
asked_said setting (Answer job at kind rows) told vote asked = absurd asked

-- a vote of a step was asked for, or is a proposal that the replica may make as it stands
pub step_origin : (setting : Setting) (event : Event) (state : State) (vote : Vote) → AllMay setting state (step setting.self event state)
    → TellsWhatWasSaid setting event → Contains (votes_of (step setting.self event state)) vote → Origin setting state vote
step_origin setting event state vote may told has =
    origin_in setting state (AsksFor event) (step setting.self event state) vote (asked_said setting event told)
    (step_plain setting.self event state) may has

pub plain_call : (asks : Vote → Type 0) (act : Act) (row : SchedRow) → IsPlain asks act → Contains (calls_by act) row → ⊥
unfolding calls_by
plain_call asks (Call mine) row plain has = plain
plain_call asks act row plain has = nothing_in has

pub plain_calls : (asks : Vote → Type 0) (acts : List Act) (row : SchedRow) → AllPlain asks acts → Contains (calls_of acts) row → ⊥
plain_calls asks [] row plain has = nothing_in has
plain_calls asks (act ∷ acts) row plain has = elim (Contains-append_cases (calls_by act) (calls_of acts) row has) [
  | inl here ↦ plain_call asks act row plain.0 here
  | inr later ↦ plain_calls asks acts row plain.1 later
]

act_calls : (setting : Setting) (state : State) (act : Act) (row : SchedRow) → May setting state act → Contains (calls_by act) row → MayCallFor setting state row
unfolding May calls_by
act_calls setting state (Call mine) row may has = elim (cons_cases mine [] row has) [
  | inl same ↦ subst (MayCallFor setting state) same may
  | inr none ↦ nothing_in none
]
act_calls setting state act row may has = nothing_in has

calls_in : (setting : Setting) (state : State) (asks : Vote → Type 0) (acts : List Act) (row : SchedRow) → RestPlain asks acts → AllMay setting state acts
    → Contains (calls_of acts) row → MayCallFor setting state row
calls_in setting state asks [] row plain may has = nothing_in has
calls_in setting state asks (act ∷ acts) row plain may has = elim (Contains-append_cases (calls_by act) (calls_of acts) row has) [
  | inl here ↦ act_calls setting state act row may.0 here
  | inr later ↦ absurd (plain_calls asks acts row plain later)
]

-- a call of a step is one that the replica may make as it stands
pub step_calls : (setting : Setting) (event : Event) (state : State) (row : SchedRow) → AllMay setting state (step setting.self event state)
    → Contains (calls_of (step setting.self event state)) row → MayCallFor setting state row
step_calls setting event state row may has =
    calls_in setting state (AsksFor event) (step setting.self event state) row (step_plain setting.self event state) may has

-- ---- votes that are kept

votes_of_act : (act : Act) → flat_map vote_of_delta (deltas_by act) ≡ votes_by act
unfolding deltas_by
votes_of_act (Stand me ballot) = refl
votes_of_act (Pledge ballot) = refl
votes_of_act (Cast vote) = refl
votes_of_act (Propose me vote) = refl
votes_of_act (Rebase slot rows) = refl
votes_of_act act = refl

-- the votes of some acts are those of their changes of what is kept
pub votes_of_deltas : (acts : List Act) → flat_map vote_of_delta (deltas_of acts) ≡ votes_of acts
votes_of_deltas [] = refl
votes_of_deltas (act ∷ acts) =
    flat_map-append vote_of_delta (deltas_by act) (deltas_of acts)
    ∙ ap (λ first. first ++ flat_map vote_of_delta (deltas_of acts)) (votes_of_act act)
    ∙ ap (λ rest. votes_by act ++ rest) (votes_of_deltas acts)
