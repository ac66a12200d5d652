-- Of what a step sends, one message at most asks for a change, none is a mention, and the rows of a launch table can be sent.
use Rattle.std.proofs.Common.{◌≡◌, ℕ, ◌+◌, ◌-◌, Bool, Some, None, List, [], ◌∷◌, ◌++◌, drop, length, arith, true, false, eqb, ltb, leb, ◌&&◌, ◌||◌, ℤ, refl, sym, ap, subst, ◌∙◌, inl, inr}
use Rattle.std.specs.Prelude.{⊤, ◌⊎◌}
use Rattle.std.specs.List.{AllByRecursion}
use Rattle.std.proofs.lemmas.Bool.{cases_Bool, lt-ltb}
use Rattle.std.proofs.Math.Bool.{or-false}
use Rattle.paxos_base.specs.Durable.{after_delta}
use Rattle.paxos_base.specs.Members.{has_majority, only_member, with_member}
use Rattle.paxos_base.specs.Vote.{vote_at, votes_from}
use Rattle.paxos_base.specs.declared.entry.Entry.{Entry}
use Rattle.paxos_base.specs.declared.entry.Entry.TheVariants.{Noop, Start, End, Table as TableEntry}
use Rattle.paxos_base.specs.declared.entry.Vote.{Vote}
use Rattle.paxos_base.specs.declared.rows.JobRow.{JobRow}
use Rattle.term_core.specs.Term.{is_fourth}
use Rattle.term_core.specs.declared.flight.Flight.{Flight}
use Rattle.term_core.specs.declared.term.Term.{Term}
use Rattle.term_core.specs.declared.term.Term.TheVariants.{Follower, Candidate, Leader}
use Rattle.launch_machine.specs.declared.machine.Intent.{Intent}
use Rattle.launch_machine.specs.declared.machine.Intent.TheVariants as intent
use Rattle.step_spec.specs.Act.{Act, Observe, Stand, Gather, TakeLead, Pledge, Cast, Propose, Count, Wait, Learn, Rebase, Call, Send, Restart, after_act}
use Rattle.step_spec.specs.Folds.{after_acts, copies_by, copies_of}
use Rattle.step_spec.specs.Hear.{Once, ask_below, hear, hear_all, is_vote_of, known_from, line, not_yet, on_prepare, on_promise, on_accept, on_accepted, on_known, on_ask, on_lead, on_snap, once_after, send_all, sends_copy, snapshot}
use Rattle.step_spec.specs.Message.{Message, Whom, Only, ballot_in, Prepare, Promise, Accept, Accepted, Nack, Known, AskFrom, Snap, Lead, Mention}
use Rattle.step_spec.specs.Propose.{answer, answer_of, campaign, choose_if, end_if, follow_intent, lead_if, lead_on, propose, proposal, tick, tick_of, wait, is_long, is_open}
use Rattle.step_spec.specs.State.{State, Identity, prefix_of, promised_in}
use Rattle.step_spec.specs.Step.{Event, Campaign, Tick, Hear, Answer, step}
use Rattle.replica_draft.specs.Letters.{BringsCopyable, IsCopyable, IsCopyableIn}

-- a message of which a letter may have any number: it asks for no change
abbrev pub IsFree : Message → Type 0
IsFree (Prepare ballot slot) = ⊥
IsFree (Promise ballot slot votes) = ⊤
IsFree (Accept vote) = ⊥
IsFree (Accepted ballot slot) = ⊤
IsFree (Nack ballot promised) = ⊤
IsFree (Known slot entry) = ⊤
IsFree (AskFrom slot) = ⊤
IsFree (Snap slot rows) = ⊥
IsFree (Lead ballot slot) = ⊤
IsFree (Mention ballot) = ⊥

-- a message that asks for a promise or a vote, or brings a launch table
abbrev pub IsAsk : Message → Type 0
IsAsk (Prepare ballot slot) = ⊤
IsAsk (Promise ballot slot votes) = ⊥
IsAsk (Accept vote) = ⊤
IsAsk (Accepted ballot slot) = ⊥
IsAsk (Nack ballot promised) = ⊥
IsAsk (Known slot entry) = ⊥
IsAsk (AskFrom slot) = ⊥
IsAsk (Snap slot rows) = IsCopyable rows
IsAsk (Lead ballot slot) = ⊥
IsAsk (Mention ballot) = ⊥

-- what an act sends, if anything, is such a message; rows that it takes can be sent
abbrev pub SendsFree : Act → Type 0
SendsFree (Send whom message) = IsFree message
SendsFree (Rebase slot rows) = IsCopyable rows
SendsFree act = ⊤

abbrev pub SendsAsk : Act → Type 0
SendsAsk (Send whom message) = IsAsk message
SendsAsk act = ⊥

abbrev pub AreFree : List Act → Type 0
AreFree acts = AllByRecursion SendsFree acts

-- one of some acts at most asks for a change
abbrev pub AskOnce : List Act → Type 0
AskOnce [] = ⊤
AskOnce (act ∷ acts) = (SendsFree act × AskOnce acts) ⊎ (SendsAsk act × AreFree acts)

free-append : (xs ys : List Act) → AreFree xs → AreFree ys → AreFree (xs ++ ys)
free-append [] ys first rest = rest
free-append (x ∷ xs) ys first rest = (first.0, free-append xs ys first.1 rest)

free-once : (acts : List Act) → AreFree acts → AskOnce acts
free-once [] free = tt
free-once (act ∷ acts) free = inl (free.0, free-once acts free.1)

free-once_append : (xs ys : List Act) → AreFree xs → AskOnce ys → AskOnce (xs ++ ys)
free-once_append [] ys first rest = rest
free-once_append (x ∷ xs) ys first rest = inl (first.0, free-once_append xs ys first.1 rest)

once-append : (xs ys : List Act) → AskOnce xs → AreFree ys → AskOnce (xs ++ ys)
once-append [] ys first rest = free-once ys rest
once-append (x ∷ xs) ys (inl first) rest = inl (first.0, once-append xs ys first.1 rest)
once-append (x ∷ xs) ys (inr first) rest = inr (first.0, free-append xs ys first.1 rest)

-- ---- the rows at the base

-- an act leaves rows at the base that can be sent
copyable-act : (act : Act) (state : State) → SendsFree act ⊎ SendsAsk act → IsCopyable state.kept.rows → IsCopyable (after_act act state).kept.rows
unfolding after_act after_delta
copyable-act (Rebase slot rows) state (inl free) here = free
copyable-act (Rebase slot rows) state (inr asks) here = absurd asks
copyable-act (Observe ballot) state sends here = here
copyable-act (Stand me ballot) state sends here = here
copyable-act (Gather from votes) state sends here = here
copyable-act TakeLead state sends here = here
copyable-act (Pledge ballot) state sends here = here
copyable-act (Cast vote) state sends here = here
copyable-act (Propose me vote) state sends here = here
copyable-act (Count from) state sends here = here
copyable-act Wait state sends here = here
copyable-act (Learn slot entry) state sends here = here
copyable-act (Call row) state sends here = here
copyable-act (Send whom message) state sends here = here
copyable-act (Restart me) state sends here = here

copyable-free : (acts : List Act) (state : State) → AreFree acts → IsCopyable state.kept.rows → IsCopyable (after_acts acts state).kept.rows
copyable-free [] state free here = here
copyable-free (act ∷ acts) state free here = copyable-free acts (after_act act state) free.1 (copyable-act act state (inl free.0) here)

copyable-once : (acts : List Act) (state : State) → AskOnce acts → IsCopyable state.kept.rows → IsCopyable (after_acts acts state).kept.rows
copyable-once [] state once here = here
copyable-once (act ∷ acts) state (inl free) here = copyable-once acts (after_act act state) free.1 (copyable-act act state (inl free.0) here)
copyable-once (act ∷ acts) state (inr asks) here = copyable-free acts (after_act act state) asks.1 (copyable-act act state (inr asks.0) here)

-- ---- the lines of a letter

lead_free : (members heard : ℕ) → AreFree (lead_if members heard)
lead_free members heard = elim (cases_Bool (has_majority members heard)) [ inl enough ↦ rw enough (tt, tt) | inr few ↦ rw few tt ]

choose_free : (members accepted slot : ℕ) (entry : Entry) → AreFree (choose_if members accepted slot entry)
choose_free members accepted slot entry =
    elim (cases_Bool (has_majority members accepted)) [ inl enough ↦ rw enough (tt, (tt, tt)) | inr few ↦ rw few tt ]

ask_free : (from slot : ℕ) (state : State) → AreFree (ask_below from slot state)
ask_free from slot state = elim (cases_Bool (ltb (prefix_of state) slot)) [ inl missing ↦ rw missing (tt, tt) | inr all ↦ rw all tt ]

knowns_free : (from slot : ℕ) (entries : List Entry) → AreFree (send_all from (known_from slot entries))
knowns_free from slot [] = tt
knowns_free from slot (entry ∷ entries) = (tt, knowns_free from (slot + 1) entries)

-- What a line does: nothing that asks for a change, or one snapshot, where none was sent.
abbrev pub Copies : Bool → List Act → Type 0
Copies copied acts = (AreFree acts × (sends_copy acts ≡ false)) ⊎ ((copied ≡ false) × AskOnce acts × (sends_copy acts ≡ true))

-- what sends nothing but such messages sends no snapshot
free_sends : (whom : Whom) (message : Message) → IsFree message → copies_by (Send whom message) ≡ []
unfolding copies_by
free_sends whom (Prepare ballot slot) free = absurd free
free_sends whom (Promise ballot slot votes) free = refl
free_sends whom (Accept vote) free = absurd free
free_sends whom (Accepted ballot slot) free = refl
free_sends whom (Nack ballot promised) free = refl
free_sends whom (Known slot entry) free = refl
free_sends whom (AskFrom slot) free = refl
free_sends whom (Snap slot rows) free = absurd free
free_sends whom (Lead ballot slot) free = refl
free_sends whom (Mention ballot) free = absurd free

free_copies : (acts : List Act) → AreFree acts → copies_of acts ≡ []
unfolding copies_by
free_copies [] free = refl
free_copies (Send whom message ∷ acts) free = rw (free_sends whom message free.0, free_copies acts free.1) refl
free_copies (act ∷ acts) free = free_copies acts free.1

quiet : {copied : Bool} (acts : List Act) → AreFree acts → Copies copied acts
quiet acts free = inl (free, rw (free_copies acts free) refl)

snapshot_once : (from : ℕ) (copied : Bool) (state : State) → IsCopyable state.kept.rows → Copies copied (snapshot from copied state)
unfolding copies_by
snapshot_once from true state rows = inl (tt, refl)
snapshot_once from false state rows = inr (
  refl,
  inr (rows, knowns_free from state.kept.base state.learned),
  lt-ltb 0 (length (copies_of (snapshot from false state))) (omega arith),
)

on_prepare_once : (from ballot slot : ℕ) (copied : Bool) (state : State) → IsCopyable state.kept.rows → Copies copied (on_prepare from ballot slot copied state)
unfolding on_prepare
on_prepare_once from ballot slot copied state rows =
    elim (cases_Bool (leb ballot (promised_in state.kept))) [
      | inl refused ↦ rw refused (quiet (Send (Only from) (Nack ballot (promised_in state.kept)) ∷ []) (tt, tt))
      | inr above ↦ rw above (elim (cases_Bool (ltb slot state.kept.base)) [
        | inl behind ↦ rw behind (snapshot_once from copied state rows)
        | inr kept ↦ rw kept (quiet (Pledge ballot ∷ Send (Only from) (Promise ballot slot (votes_from slot state.kept.votes)) ∷ []) (tt, (tt, tt)))
      ])
    ]

on_accept_once : (from : ℕ) (vote : Vote) (copied : Bool) (state : State) → IsCopyable state.kept.rows → Copies copied (on_accept from vote copied state)
unfolding on_accept
on_accept_once from vote copied state rows =
    let asks = ask_free from vote.slot state in
    elim (cases_Bool (ltb vote.ballot (promised_in state.kept))) [
      | inl refused ↦ rw refused (quiet (Send (Only from) (Nack vote.ballot (promised_in state.kept)) ∷ []) (tt, tt))
      | inr least ↦ rw least (elim (cases_Bool (ltb vote.slot state.kept.base)) [
        | inl behind ↦ rw behind (snapshot_once from copied state rows)
        | inr kept ↦ rw kept (elim (cases_Bool (is_vote_of vote.ballot (vote_at vote.slot state.kept.votes))) [
          | inl again ↦ rw again (quiet (Send (Only from) (Accepted vote.ballot vote.slot) ∷ ask_below from vote.slot state) (tt, asks))
          | inr new ↦ rw new (quiet (Cast vote ∷ Send (Only from) (Accepted vote.ballot vote.slot) ∷ ask_below from vote.slot state) (tt, (tt, asks)))
        ])
      ])
    ]

on_promise_free : (members from ballot slot : ℕ) (votes : List Vote) (term : Term) → AreFree (on_promise members from ballot slot votes term)
unfolding on_promise
on_promise_free members from ballot slot votes (Follower ended) = tt
on_promise_free members from ballot slot votes (Leader own best flight) = tt
on_promise_free members from ballot slot votes (Candidate own first heard best) =
    elim (cases_Bool (eqb own ballot && eqb first slot)) [ inl asked ↦ rw asked (tt, lead_free members (with_member from heard)) | inr other ↦ rw other tt ]

on_accepted_free : (members from ballot slot : ℕ) (term : Term) → AreFree (on_accepted members from ballot slot term)
unfolding on_accepted
on_accepted_free members from ballot slot (Follower ended) = tt
on_accepted_free members from ballot slot (Candidate own first heard best) = tt
on_accepted_free members from ballot slot (Leader own best None) = tt
on_accepted_free members from ballot slot (Leader own best (Some flight)) =
    elim (cases_Bool (eqb own ballot && eqb flight.slot slot)) [
      | inl counts ↦ rw counts (tt, choose_free members (with_member from flight.accepted) flight.slot flight.entry)
      | inr other ↦ rw other tt
    ]

on_known_free : (from slot : ℕ) (entry : Entry) (asked : Bool) (state : State) → AreFree (on_known from slot entry asked state)
unfolding on_known
on_known_free from slot entry asked state =
    elim (cases_Bool (eqb slot (prefix_of state))) [
      | inl next ↦ rw next (tt, tt)
      | inr other ↦ rw other (elim (cases_Bool asked) [ inl once ↦ rw once tt | inr first ↦ rw first (ask_free from slot state) ])
    ]

on_ask_once : (from slot : ℕ) (copied : Bool) (state : State) → IsCopyable state.kept.rows → Copies copied (on_ask from slot copied state)
unfolding on_ask
on_ask_once from slot copied state rows =
    elim (cases_Bool (ltb slot state.kept.base)) [
      | inl behind ↦ rw behind (snapshot_once from copied state rows)
      | inr kept ↦ rw kept (quiet _ (knowns_free from slot (drop (slot - state.kept.base) state.learned)))
    ]

on_snap_free : (slot : ℕ) (rows : List JobRow) (state : State) → IsCopyable rows → AreFree (on_snap slot rows state)
unfolding on_snap
on_snap_free slot rows state copyable =
    elim (cases_Bool (ltb (prefix_of state) slot)) [ inl behind ↦ rw behind (copyable, tt) | inr old ↦ rw old tt ]

line_once : (self : Identity) (from : ℕ) (message : Message) (once : Once) (state : State) → IsCopyable state.kept.rows → IsCopyableIn message → Copies once.copied (line self from message once state)
unfolding line on_lead
line_once self from (Prepare ballot slot) once state rows brings = on_prepare_once from ballot slot once.copied state rows
line_once self from (Promise ballot slot votes) once state rows brings = quiet _ (on_promise_free self.members from ballot slot votes state.term)
line_once self from (Accept vote) once state rows brings = on_accept_once from vote once.copied state rows
line_once self from (Accepted ballot slot) once state rows brings = quiet _ (on_accepted_free self.members from ballot slot state.term)
line_once self from (Nack ballot promised) once state rows brings = quiet [] tt
line_once self from (Known slot entry) once state rows brings = quiet _ (on_known_free from slot entry once.asked state)
line_once self from (AskFrom slot) once state rows brings = on_ask_once from slot once.copied state rows
line_once self from (Snap slot copy) once state rows brings = quiet _ (on_snap_free slot copy state brings)
line_once self from (Lead ballot slot) once state rows brings = quiet _ (ask_free from slot state)
line_once self from (Mention ballot) once state rows brings = quiet [] tt

hear_once : (self : Identity) (from : ℕ) (message : Message) (once : Once) (state : State) → IsCopyable state.kept.rows → IsCopyableIn message → Copies once.copied (hear self from message once state)
unfolding hear copies_by after_act
hear_once self from message once state rows brings = elim (line_once self from message once (after_act (Observe (ballot_in message)) state) rows brings) [
  | inl free ↦ inl ((tt, free.0), free.1)
  | inr copies ↦ inr (copies.0, inl (tt, copies.1), copies.2)
]

-- of a letter's acts one at most asks for a change, and none does where a snapshot was sent before
record HearsOnce (copied : Bool) (acts : List Act) : Type 0 where
  pub once : copied ≡ false → AskOnce acts
  pub free : copied ≡ true → AreFree acts

hear_all_once : (self : Identity) (from : ℕ) (messages : List Message) (once : Once) (state : State) → IsCopyable state.kept.rows → AllByRecursion IsCopyableIn messages → HearsOnce once.copied (hear_all self from messages once state)
unfolding hear_all
hear_all_once self from [] once state rows brings = record { once = λ is. tt; free = λ is. tt }
hear_all_once self from (message ∷ messages) once state rows brings =
    let acts = hear self from message once state in
    let then = once_after message state acts once in
    let others = hear_all self from messages then (after_acts acts state) in
    elim (hear_once self from message once state rows brings.0) [
      | inl free ↦
          let rest = hear_all_once self from messages then (after_acts acts state) (copyable-free acts state free.0 rows) brings.1 in
          let same = subst (λ copied. HearsOnce copied others) (ap (λ sent. once.copied || sent) free.1 ∙ or-false once.copied) rest in
          record {
            once = λ is. free-once_append acts others free.0 (same.once is);
            free = λ is. free-append acts others free.0 (same.free is);
          }
      | inr copies ↦
          let rest = hear_all_once self from messages then (after_acts acts state) (copyable-once acts state copies.1 rows) brings.1 in
          record {
            once = λ is. once-append acts others copies.1 (rest.free (ap (λ before. before || sends_copy acts) copies.0 ∙ copies.2));
            free = λ is. let wrong : true ≡ false = sym is ∙ copies.0 in absurd cc;
          }
    ]

-- ---- the other lines

campaign_once : (self : Identity) (state : State) → AskOnce (campaign self state)
unfolding campaign
campaign_once self state = inl (tt, inr (tt, lead_free self.members (only_member self.me)))

propose_once : (self : Identity) (vote : Vote) → AskOnce (propose self vote)
unfolding propose
propose_once self vote = inl (tt, inr (tt, choose_free self.members (only_member self.me) vote.slot vote.entry))

wait_once : (ballot : ℕ) (flight : Flight) → AskOnce (wait ballot flight)
wait_once ballot flight =
    inl (tt, elim (cases_Bool (is_fourth flight)) [ inl again ↦ rw again (inr (tt, tt)) | inr not_yet ↦ rw not_yet tt ])

follow_once : (self : Identity) (now : ℤ) (wanted : Intent) (ballot : ℕ) (best : List Vote) (state : State) → AskOnce (follow_intent self now wanted ballot best state)
follow_once self now (intent.Call job at kind) ballot best state = inl (tt, tt)
follow_once self now (intent.Start job at) ballot best state = propose_once self (proposal ballot best (prefix_of state) (Start job at now))
follow_once self now (intent.Adopt version) ballot best state = propose_once self (proposal ballot best (prefix_of state) (TableEntry version now))
follow_once self now intent.Rest ballot best state = inl (tt, tt)

tick_once : (self : Identity) (now : ℤ) (wanted : Intent) (state : State) (term : Term) → AskOnce (tick_of self now wanted state term)
tick_once self now wanted state (Follower ended) = tt
tick_once self now wanted state (Candidate ballot first heard best) = tt
tick_once self now wanted state (Leader ballot best (Some flight)) = wait_once ballot flight
tick_once self now wanted state (Leader ballot best None) = go (votes_from (prefix_of state) best)
  where
    go : (bound : List Vote) → AskOnce (lead_on self now wanted ballot best state bound)
    go [] = follow_once self now wanted ballot best state
    go (bound ∷ others) = propose_once self (proposal ballot best (prefix_of state) Noop)

answer_once : (self : Identity) (state : State) (entry : Entry) (open_now : Bool) (term : Term) → AskOnce (answer_of self state entry open_now term)
answer_once self state entry open_now (Follower ended) = tt
answer_once self state entry open_now (Candidate ballot first heard best) = tt
answer_once self state entry open_now (Leader ballot best (Some flight)) = tt
answer_once self state entry open_now (Leader ballot best None) = go (votes_from (prefix_of state) best) open_now
  where
    go : (bound : List Vote) (now : Bool) → AskOnce (end_if self ballot best state entry now bound)
    go [] true = propose_once self (proposal ballot best (prefix_of state) entry)
    go [] false = tt
    go (bound ∷ others) now = tt

-- one act of a step at most asks for a change
pub step-once : (self : Identity) (event : Event) (state : State) → IsCopyable state.kept.rows → BringsCopyable event → AskOnce (step self event state)
unfolding step tick answer
step-once self Campaign state rows brings = campaign_once self state
step-once self (Tick now plan) state rows brings = elim (cases_Bool (is_long state)) [
  | inl long ↦ rw long (inl (brings, tt))
  | inr short ↦ rw short (tick_once self now plan.intent state state.term)
]
step-once self (Hear from messages) state rows brings = (hear_all_once self from messages not_yet state rows brings).once refl
step-once self (Answer job at kind table) state rows brings = answer_once self state (End job at kind) (is_open job at table) state.term
