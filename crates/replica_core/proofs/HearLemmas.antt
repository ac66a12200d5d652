-- What it comes to that a letter's packets are heard one after another.
use Rattle.std.proofs.Common.{◌≡◌, ℕ, ◌+◌, ◌≤◌, Bool, true, false, Result, Ok, Err, OnOk, List, [], ◌∷◌, ◌++◌, refl, sym, ap, subst, ◌∙◌, arith, length, max, ◌||◌, inl, inr, take, if◌then◌else◌, map}
use Rattle.std.specs.Prelude.{None}
use Rattle.std.specs.List.{AllByRecursion, count_by, flat_map, list_any}
use Rattle.std.proofs.lemmas.Bool.{le-ltb, lt-ltb, cases_Bool, and_parts}
use Rattle.std.proofs.lemmas.List.Sums.{sum_by-cons}
use Rattle.std.proofs.Math.Bool.{or-false}
use Rattle.std.proofs.lemmas.List.{append-nil}
use Rattle.launch_machine.specs.Clerk.{table_size}
use Rattle.paxos_base.specs.declared.rows.TableSize.{TableSize}
use Rattle.paxos_base.specs.declared.entry.Vote.{Vote}
use Rattle.due_set.specs.Table.{Table}
use Rattle.paxos_letter.specs.declared.packet.Packet.{Packet}
use Rattle.paxos_letter.specs.declared.packet.Packet.TheVariants as packet
use Rattle.term_core.specs.Term.{is_ended_by}
use Rattle.term_core.specs.declared.term.Term.{Term}
use Rattle.term_core.specs.declared.term.Term.TheVariants.{Follower, Candidate, Leader}
use Rattle.step_spec.specs.Act.{Act, Observe, Stand, Gather, TakeLead, Pledge, Cast, Propose, Count, Wait, Learn, Rebase, Call, Send, Restart, after_act}
use Rattle.step_spec.specs.Folds.{after_acts, calls_by, copies_by, copies_of, deltas_by, learnt_by}
use Rattle.step_spec.specs.Hear.{Once, hear, hear_all, line, not_yet, sends_copy}
use Rattle.step_spec.specs.Heard.{messages_of, old_vote, packets_of, row_in, vote_in}
use Rattle.step_spec.specs.Letters.{are_small, is_small}
use Rattle.step_spec.specs.Message.{Message, Whom, ballot_in, Prepare, Promise, Accept, Accepted, Nack, Known, AskFrom, Snap, Lead, Mention}
use Rattle.step_spec.specs.State.{Identity, State, prefix_of}
use Rattle.step_spec.specs.Step.{asks_change}
use Rattle.replica_draft.specs.Draft.{Desk, Goes, begins_copy, done, drafted, has_copied, said_by, said_in, said_of}
use Rattle.replica_draft.specs.declared.draft.Sent.{Sent}
use Rattle.replica_core.specs.Lines.{GoesOnByActs, IsFixed}
use Rattle.replica_core.specs.Heard.{BringsRows, BringsRowsIn, HearsBy, ballot_named, changes_asked, hear_in, line_in, message_in, once_in, shows_gap_in}
use Rattle.replica_core.specs.Replica.{DoesAsTerm, IsDraftSteady, Makes, changes_of_draft, idle_desk, own_identity, fixed_of, next_slot, state_of}
use Rattle.replica_draft.specs.declared.draft.Draft.{Draft}
use Rattle.replica_core.specs.declared.parts.Core.{Core}
use Rattle.replica_draft.proofs.DraftLemmas.{done-append, done-nil}
use Rattle.replica_core.proofs.LineLemmas.{drafted-prefix}

-- a replica keeps what its parts keep
pub core-kept : (core : Core) → core.learner.base ≡ core.acceptor.base → IsFixed core (fixed_of core)
core-kept core base = record { acceptor = record { promised = refl; votes = refl; base = refl }; learned = refl; base = base; rows = refl }

-- what a line of the table does, it does for the replica
pub of_state : {X E : Type 0} (result : Result X E) (core : Core) (old new : Draft) (acts : State → List Act) → core.learner.base ≡ core.acceptor.base
    → OnOk result (GoesOnByActs core old new acts) → OnOk result (HearsBy core old new acts)
of_state (Ok value) core old new acts base does = does (fixed_of core) (core-kept core base)
of_state (Err fault) core old new acts base does = tt

pub of_term : {X E : Type 0} (result : Result X E) (core : Core) (old new : Draft) (acts : Term → List Act) → core.learner.base ≡ core.acceptor.base
    → OnOk result (DoesAsTerm core old new acts) → OnOk result (HearsBy core old new (λ state. acts state.term))
of_term (Ok value) core old new acts base does = does (fixed_of core) (core-kept core base) refl
of_term (Err fault) core old new acts base does = tt

-- ---- A ballot is observed

-- no ballot is below 0
not_ended : (term : Term) → is_ended_by 0 term ≡ false
not_ended (Follower ended) = refl
not_ended (Candidate ballot first heard best) = le-ltb ballot 0 (omega arith)
not_ended (Leader ballot best flight) = le-ltb ballot 0 (omega arith)

-- where no ballot is named, nothing is observed
pub observe-none : (desk : Desk) → desk ≡ done (Observe 0 ∷ []) desk
unfolding after_act deltas_by learnt_by said_by calls_by
observe-none desk =
    let seen : max desk.state.seen 0 ≡ desk.state.seen = omega arith in
    rw (seen, not_ended desk.state.term, append-nil desk.deltas, append-nil desk.learnt, append-nil desk.said, append-nil desk.calls) refl

-- ---- A packet is heard

-- a message is heard: its ballot is observed, and then comes its line
heard-message : (core : Core) (old middle new : Draft) (self : Identity) (from : ℕ) (message : Message) (once : Once) → Goes old middle (Observe (ballot_in message) ∷ [])
    → HearsBy core middle new (line self from message once) → HearsBy core old new (hear self from message once)
unfolding hear
heard-message core old middle new self from message once observed answered =
    answered
    ∙ ap (λ (desk : Desk). done (line self from message once desk.state) desk) (observed (fixed_of core))
    ∙ sym (done-append (Observe (ballot_in message) ∷ []) (line self from message once (after_act (Observe (ballot_in message)) (drafted (fixed_of core) old).state)) (drafted (fixed_of core) old))

-- a packet is heard as its message; one that names no ballot and is no message changes nothing
heard-packet : (core : Core) (old middle new : Draft) (self : Identity) (from : ℕ) (packet : Packet) (rest : List Packet) (once : Once) → Goes old middle (Observe (ballot_named packet) ∷ [])
    → HearsBy core middle new (line_in self from (message_in packet rest) once) → HearsBy core old new (hear_in self from (message_in packet rest) once)
heard-packet core old middle new self from (packet.Prepare ballot slot) rest once observed answered = heard-message core old middle new self from (Prepare ballot slot) once observed answered
heard-packet core old middle new self from (packet.Promise ballot slot count) rest once observed answered = heard-message core old middle new self from (Promise ballot slot (flat_map vote_in (take count rest))) once observed answered
heard-packet core old middle new self from (packet.OldVote ballot slot cast entry) rest once observed answered = heard-message core old middle new self from (Mention ballot) once observed answered
heard-packet core old middle new self from (packet.Accept ballot slot entry) rest once observed answered = heard-message core old middle new self from (Accept (record { slot = slot; ballot = ballot; entry = entry })) once observed answered
heard-packet core old middle new self from (packet.Accepted ballot slot) rest once observed answered = heard-message core old middle new self from (Accepted ballot slot) once observed answered
heard-packet core old middle new self from (packet.Nack ballot promised) rest once observed answered = heard-message core old middle new self from (Nack ballot promised) once observed answered
heard-packet core old middle new self from (packet.Known slot entry) rest once observed answered = heard-message core old middle new self from (Known slot entry) once observed answered
heard-packet core old middle new self from (packet.AskFrom slot) rest once observed answered = heard-message core old middle new self from (AskFrom slot) once observed answered
heard-packet core old middle new self from (packet.Snap slot count) rest once observed answered = heard-message core old middle new self from (Snap slot (flat_map row_in (take count rest))) once observed answered
heard-packet core old middle new self from (packet.SnapRow slot row) rest once observed answered =
    answered ∙ ap (done []) (observed (fixed_of core) ∙ sym (observe-none (drafted (fixed_of core) old)))
heard-packet core old middle new self from (packet.Lead ballot slot) rest once observed answered = heard-message core old middle new self from (Lead ballot slot) once observed answered

-- the same, where its line was carried out
pub heard-on_ok : {X E : Type 0} (result : Result X E) (core : Core) (old middle new : Draft) (self : Identity) (from : ℕ) (packet : Packet) (rest : List Packet) (once : Once)
    → Goes old middle (Observe (ballot_named packet) ∷ []) → OnOk result (HearsBy core middle new (line_in self from (message_in packet rest) once))
    → OnOk result (HearsBy core old new (hear_in self from (message_in packet rest) once))
heard-on_ok (Ok value) core old middle new self from packet rest once observed answered = heard-packet core old middle new self from packet rest once observed answered
heard-on_ok (Err fault) core old middle new self from packet rest once observed answered = tt

-- what was done once, with a packet that was heard so
abbrev pub once_next : Packet → State → List Act → Once → Once
once_next packet state acts once = record { asked = once.asked || shows_gap_in packet state; copied = once.copied || sends_copy acts }

-- a packet is heard, and then those behind it
pub first-heard : (self : Identity) (from : ℕ) (packet : Packet) (rest : List Packet) (once : Once) (state : State)
    → hear_all self from (messages_of (packet ∷ rest)) once state
    ≡ hear_in self from (message_in packet rest) once state
    ++ hear_all self from (messages_of rest) (once_next packet state (hear_in self from (message_in packet rest) once state) once) (after_acts (hear_in self from (message_in packet rest) once state) state)
unfolding hear_all messages_of
first-heard self from (packet.Prepare ballot slot) rest once state = refl
first-heard self from (packet.Promise ballot slot count) rest once state = refl
first-heard self from (packet.OldVote ballot slot cast entry) rest once state = refl
first-heard self from (packet.Accept ballot slot entry) rest once state = refl
first-heard self from (packet.Accepted ballot slot) rest once state = refl
first-heard self from (packet.Nack ballot promised) rest once state = refl
first-heard self from (packet.Known slot entry) rest once state = refl
first-heard self from (packet.AskFrom slot) rest once state = refl
first-heard self from (packet.Snap slot count) rest once state = refl
first-heard self from (packet.SnapRow slot row) rest once state = rw (or-false once.asked, or-false once.copied) refl
first-heard self from (packet.Lead ballot slot) rest once state = refl

-- a message asks for a change or not, and so do those behind it
asks-cons : (message : Message) (messages : List Message) → count_by asks_change (message ∷ messages) ≡ (if asks_change message then 1 else 0) + count_by asks_change messages
asks-cons message messages =
    sum_by-cons (λ (message : Message). if asks_change message then 1 else 0) message messages
    ∙ elim (cases_Bool (asks_change message)) [ inl asks ↦ rw asks refl | inr other ↦ rw other refl ]

-- how many changes the packets ask for is by the first of them and by the others
pub first-asks : (packet : Packet) (rest : List Packet) → count_by asks_change (messages_of (packet ∷ rest)) ≡ changes_asked packet + count_by asks_change (messages_of rest)
unfolding messages_of
first-asks (packet.Prepare ballot slot) rest = asks-cons (Prepare ballot slot) (messages_of rest)
first-asks (packet.Promise ballot slot count) rest = asks-cons (Promise ballot slot (flat_map vote_in (take count rest))) (messages_of rest)
first-asks (packet.OldVote ballot slot cast entry) rest = asks-cons (Mention ballot) (messages_of rest)
first-asks (packet.Accept ballot slot entry) rest = asks-cons (Accept (record { slot = slot; ballot = ballot; entry = entry })) (messages_of rest)
first-asks (packet.Accepted ballot slot) rest = asks-cons (Accepted ballot slot) (messages_of rest)
first-asks (packet.Nack ballot promised) rest = asks-cons (Nack ballot promised) (messages_of rest)
first-asks (packet.Known slot entry) rest = asks-cons (Known slot entry) (messages_of rest)
first-asks (packet.AskFrom slot) rest = asks-cons (AskFrom slot) (messages_of rest)
first-asks (packet.Snap slot count) rest = asks-cons (Snap slot (flat_map row_in (take count rest))) (messages_of rest)
first-asks (packet.SnapRow slot row) rest = omega arith
first-asks (packet.Lead ballot slot) rest = asks-cons (Lead ballot slot) (messages_of rest)

-- ---- What is done once

-- some of what is said begins a snapshot
abbrev any_copy : List (Whom × Packet) → Bool
any_copy said = list_any (λ (one : Whom × Packet). begins_copy one.1) said

any-said : (sends : List Sent) → list_any (λ (sent : Sent). begins_copy sent.packet) sends ≡ any_copy (map said_in sends)
any-said [] = refl
any-said (sent ∷ sends) = ap (λ rest. begins_copy sent.packet || rest) (any-said sends)

any-append : (xs ys : List (Whom × Packet)) → any_copy (xs ++ ys) ≡ any_copy xs || any_copy ys
any-append [] ys = refl
any-append (x ∷ xs) ys = elim (cases_Bool (begins_copy x.1)) [
  | inl begins ↦ rw begins refl
  | inr other ↦ rw other (any-append xs ys)
]

any-votes : (whom : Whom) (ballot : ℕ) (votes : List Vote) (rest : List (Whom × Packet)) → any_copy (map (λ (packet : Packet). (whom, packet)) (map (old_vote ballot) votes) ++ rest) ≡ any_copy rest
any-votes whom ballot [] rest = refl
any-votes whom ballot (vote ∷ votes) rest = any-votes whom ballot votes rest

-- acts that send a snapshot are those whose packets begin one
any-acts : (acts : List Act) → any_copy (said_of acts) ≡ sends_copy acts
unfolding said_by packets_of copies_by
any-acts [] = refl
any-acts (Send whom (Prepare ballot slot) ∷ acts) = any-acts acts
any-acts (Send whom (Promise ballot slot votes) ∷ acts) = any-votes whom ballot votes (said_of acts) ∙ any-acts acts
any-acts (Send whom (Accept vote) ∷ acts) = any-acts acts
any-acts (Send whom (Accepted ballot slot) ∷ acts) = any-acts acts
any-acts (Send whom (Nack ballot promised) ∷ acts) = any-acts acts
any-acts (Send whom (Known slot entry) ∷ acts) = any-acts acts
any-acts (Send whom (AskFrom slot) ∷ acts) = any-acts acts
any-acts (Send whom (Snap slot rows) ∷ acts) = sym (lt-ltb 0 (length (copies_of (Send whom (Snap slot rows) ∷ acts))) (omega arith))
any-acts (Send whom (Lead ballot slot) ∷ acts) = any-acts acts
any-acts (Send whom (Mention ballot) ∷ acts) = any-acts acts
any-acts (Observe ballot ∷ acts) = any-acts acts
any-acts (Stand me ballot ∷ acts) = any-acts acts
any-acts (Gather from votes ∷ acts) = any-acts acts
any-acts (TakeLead ∷ acts) = any-acts acts
any-acts (Pledge ballot ∷ acts) = any-acts acts
any-acts (Cast vote ∷ acts) = any-acts acts
any-acts (Propose me vote ∷ acts) = any-acts acts
any-acts (Count from ∷ acts) = any-acts acts
any-acts (Wait ∷ acts) = any-acts acts
any-acts (Learn slot entry ∷ acts) = any-acts acts
any-acts (Rebase slot rows ∷ acts) = any-acts acts
any-acts (Call row ∷ acts) = any-acts acts
any-acts (Restart me ∷ acts) = any-acts acts

-- once acts were done, a snapshot was sent where one was sent before or they send one
copied-after : (core : Core) (old new : Draft) (acts : List Act) → drafted (fixed_of core) new ≡ done acts (drafted (fixed_of core) old) → has_copied new ≡ has_copied old || sends_copy acts
copied-after core old new acts is =
    let said : map said_in new.sends.items ≡ map said_in old.sends.items ++ said_of acts = ap (λ (desk : Desk). desk.said) is in
    any-said new.sends.items ∙ ap any_copy said ∙ any-append (map said_in old.sends.items) (said_of acts) ∙ rw (sym (any-said old.sends.items), any-acts acts) refl

-- the same, where what is sent is the same
copied-same : (old new : Draft) → new.sends ≡ old.sends → has_copied new ≡ has_copied old
copied-same old new same = rw same refl

-- a packet is heard once its ballot was observed, which sends nothing
pub heard-observed : {X E : Type 0} (result : Result X E) (core : Core) (old middle new : Draft) (self : Identity) (from : ℕ) (packet : Packet) (rest : List Packet) (asked : Bool)
    → Goes old middle (Observe (ballot_named packet) ∷ []) → middle.sends ≡ old.sends → OnOk result (HearsBy core middle new (line_in self from (message_in packet rest) (once_in asked middle)))
    → OnOk result (HearsBy core old new (hear_in self from (message_in packet rest) (once_in asked old)))
heard-observed result core old middle new self from packet rest asked observed same answered =
    heard-on_ok result core old middle new self from packet rest (once_in asked old) observed
    (subst (λ (copied : Bool). OnOk result (HearsBy core middle new (line_in self from (message_in packet rest) (record { asked = asked; copied = copied })))) (copied-same old middle same) answered)

-- where nothing was done, no snapshot was sent
copied-none : (core : Core) (draft : Draft) → drafted (fixed_of core) draft ≡ idle_desk core → has_copied draft ≡ false
copied-none core draft idle =
    let said : map said_in draft.sends.items ≡ [] = ap (λ (desk : Desk). desk.said) idle in
    any-said draft.sends.items ∙ ap any_copy said

-- ---- The letter

-- what holds while some packets of a letter are left to hear: what they ask for leads to what the whole letter does, with few changes
-- and entries, and they bring rows of the table
pub record Hearing (table : Table) (core : Core) (from : ℕ) (packets left : List Packet) (asked : Bool) (draft : Draft) : Type 0 where
  pub acts : done (hear_all (own_identity core) from (messages_of left) (once_in asked draft) (drafted (fixed_of core) draft).state) (drafted (fixed_of core) draft) ≡ done (hear_all (own_identity core) from (messages_of packets) not_yet (state_of core)) (idle_desk core)
  pub steady : IsDraftSteady table core draft
  pub once : changes_of_draft draft.change + count_by asks_change (messages_of left) ≤ 1
  pub few : length draft.learnt.items + length left ≤ length packets
  pub rows : AllByRecursion (BringsRows (table_size table)) (messages_of left)
  pub small : are_small (table_size table) left ≡ true

-- before the first packet
pub hearing-none : (table : Table) (core : Core) (from : ℕ) (packets : List Packet) (draft : Draft) → drafted (fixed_of core) draft ≡ idle_desk core → IsDraftSteady table core draft → draft.change ≡ None
    → draft.learnt.items ≡ [] → count_by asks_change (messages_of packets) ≤ 1 → AllByRecursion (BringsRows (table_size table)) (messages_of packets) → are_small (table_size table) packets ≡ true
    → Hearing table core from packets packets false draft
hearing-none table core from packets draft idle steady none nothing once rows small =
    let quiet = copied-none core draft idle in
    record {
      acts = ap (λ (desk : Desk). done (hear_all (own_identity core) from (messages_of packets) (once_in false draft) desk.state) desk) idle
          ∙ ap (λ (copied : Bool). done (hear_all (own_identity core) from (messages_of packets) (record { asked = false; copied = copied }) (state_of core)) (idle_desk core)) quiet;
      steady = steady;
      once = rw none (omega (arith, once));
      few = rw nothing (omega arith);
      rows = rows;
      small = small;
    }

-- of a change that the next packet asks for, nothing is stored yet
pub once-now : (packet : Packet) (rest : List Packet) (changes : ℕ) → changes + count_by asks_change (messages_of (packet ∷ rest)) ≤ 1 → changes + changes_asked packet ≤ 1
once-now packet rest changes once = let first = first-asks packet rest in omega (arith, first, once)

-- the rows that a packet brings, and those behind it, are of the table
pub first-rows : (size : TableSize) (packet : Packet) (rest : List Packet) → AllByRecursion (BringsRows size) (messages_of (packet ∷ rest)) → BringsRowsIn size (message_in packet rest) × AllByRecursion (BringsRows size) (messages_of rest)
unfolding messages_of
first-rows size (packet.Prepare ballot slot) rest rows = rows
first-rows size (packet.Promise ballot slot count) rest rows = rows
first-rows size (packet.OldVote ballot slot cast entry) rest rows = rows
first-rows size (packet.Accept ballot slot entry) rest rows = rows
first-rows size (packet.Accepted ballot slot) rest rows = rows
first-rows size (packet.Nack ballot promised) rest rows = rows
first-rows size (packet.Known slot entry) rest rows = rows
first-rows size (packet.AskFrom slot) rest rows = rows
first-rows size (packet.Snap slot count) rest rows = rows
first-rows size (packet.SnapRow slot row) rest rows = (tt, rows)
first-rows size (packet.Lead ballot slot) rest rows = rows

-- one packet more was heard
pub hearing-next : (table : Table) (core : Core) (from : ℕ) (packets rest : List Packet) (packet : Packet) (asked now_asked : Bool) (old new : Draft) → Hearing table core from packets (packet ∷ rest) asked old
    → now_asked ≡ (asked || shows_gap_in packet (drafted (fixed_of core) old).state) → HearsBy core old new (hear_in (own_identity core) from (message_in packet rest) (once_in asked old)) → IsDraftSteady table core new
    → changes_of_draft new.change ≤ changes_of_draft old.change + changes_asked packet → length new.learnt.items ≤ length old.learnt.items + 1
    → Hearing table core from packets rest now_asked new
hearing-next table core from packets rest packet asked now_asked old new hearing shows heard steady once few =
    let self = own_identity core in
    let desk = drafted (fixed_of core) old in
    let now = hear_in self from (message_in packet rest) (once_in asked old) desk.state in
    let after = once_next packet desk.state now (once_in asked old) in
    let later = hear_all self from (messages_of rest) after (after_acts now desk.state) in
    let first = first-asks packet rest in
    let same : once_in now_asked new ≡ after = rw shows (ap (once_with (asked || shows_gap_in packet desk.state)) (copied-after core old new now heard)) in
    record {
      acts =
          ap (λ (once : Once). done (hear_all self from (messages_of rest) once (drafted (fixed_of core) new).state) (drafted (fixed_of core) new)) same
          ∙ ap (λ (desk : Desk). done (hear_all self from (messages_of rest) after desk.state) desk) heard
          ∙ sym (done-append now later desk)
          ∙ ap (λ (acts : List Act). done acts desk) (sym (first-heard self from packet rest (once_in asked old) desk.state))
          ∙ hearing.acts;
      steady = steady;
      once = let before = hearing.once in omega (arith, first, before, once);
      few = let before = hearing.few in omega (arith, few, before);
      rows = (first-rows (table_size table) packet rest hearing.rows).1;
      small = (and_parts (is_small (table_size table) packet) (are_small (table_size table) rest) hearing.small).1;
    }
  where
    once_with : Bool → Bool → Once
    once_with asked copied = record { asked = asked; copied = copied }

-- once all packets were heard, the draft makes just what the letter asks for
pub hearing-all : (table : Table) (core : Core) (from : ℕ) (packets : List Packet) (asked : Bool) (draft : Draft) → Hearing table core from packets [] asked draft
    → Makes core (hear_all (own_identity core) from (messages_of packets) not_yet (state_of core)) draft
unfolding hear_all messages_of
hearing-all table core from packets asked draft hearing = sym (done-nil (drafted (fixed_of core) draft)) ∙ hearing.acts

-- the first slot that isn't learned, in the words of the protocol
pub next-drafted : (core : Core) (draft : Draft) → core.learner.base ≡ core.acceptor.base → next_slot core.learner draft ≡ prefix_of (drafted (fixed_of core) draft).state
next-drafted core draft base = sym (drafted-prefix core draft (fixed_of core) (core-kept core base))
