-- From what a step sends to its letters.
use Rattle.std.proofs.Common.{◌≡◌, ℕ, List, [], ◌∷◌, ◌++◌, map, refl, sym, ◌∙◌, ap, inl, inr, subst, if◌then◌else◌}
use Rattle.std.proofs.lemmas.Bool.{cases_Bool}
use Rattle.std.proofs.lemmas.List.Elements.{All-head, All-tail}
use Rattle.paxos_base.specs.Rows.{OpenHasCursor, OpenHaveCursors}
use Rattle.paxos_base.specs.declared.entry.Vote.{Vote}
use Rattle.paxos_base.specs.declared.rows.JobRow.{JobRow}
use Rattle.paxos_letter.specs.Groups.{keep_groups, no_group}
use Rattle.paxos_letter.specs.Spelling.{fields_of}
use Rattle.paxos_letter.specs.declared.packet.Packet.{Packet}
use Rattle.paxos_letter.specs.declared.packet.Packet.TheVariants as packet
use Rattle.step_spec.specs.Act.{Act, Send}
use Rattle.step_spec.specs.Folds.{sent_by}
use Rattle.step_spec.specs.Heard.{packets_of, old_vote}
use Rattle.step_spec.specs.Message.{Message, Prepare, Promise, Accept, Accepted, Nack, Known, AskFrom, Snap, Lead, Mention, Whom, goes_to}
use Rattle.step_spec.specs.State.{State, Identity}
use Rattle.step_spec.specs.Step.{Event, step}
use Rattle.replica_draft.specs.Draft.{said_by, said_of}
use Rattle.replica_draft.specs.Letters.{packets_to, BringsCopyable, IsCopyable, KeepGroups, HaveCursors, IsInPackets, IsSpoken, AreSpoken}
use Rattle.replica_draft.proofs.AskLemmas.{IsFree, IsAsk, SendsFree, SendsAsk, AreFree, AskOnce, step-once}
use Rattle.replica_draft.proofs.GroupLemmas.{told_to, acts_once}

-- ---- the packets to one replica

-- packets that go the same way, behind which others are sent
to_packets : (me member : ℕ) (whom : Whom) (packets : List Packet) (rest : List (Whom × Packet))
    → packets_to me member (map (λ (packet : Packet). (whom, packet)) packets ++ rest) ≡ (if goes_to me whom member then packets else []) ++ packets_to me member rest
to_packets me member whom [] rest = elim (cases_Bool (goes_to me whom member)) [ inl goes ↦ rw goes refl | inr other ↦ rw other refl ]
to_packets me member whom (packet ∷ packets) rest =
    elim (cases_Bool (goes_to me whom member)) [
      | inl goes ↦
          let behind = rw goes at (to_packets me member whom packets rest) in
          rw goes (ap (λ (others : List Packet). packet ∷ others) behind)
      | inr other ↦
          let behind = rw other at (to_packets me member whom packets rest) in
          rw other behind
    ]

-- the packets to a replica are those of the messages to it
pub packets_to-said_of : (me member : ℕ) (acts : List Act) → packets_to me member (said_of acts) ≡ told_to me member acts
unfolding said_by sent_by
packets_to-said_of me member [] = refl
packets_to-said_of me member (Send whom message ∷ acts) =
    let rest = packets_to-said_of me member acts in
    to_packets me member whom (packets_of message) (said_of acts)
    ∙ elim (cases_Bool (goes_to me whom member)) [
      | inl goes ↦ rw goes (ap (λ (others : List Packet). packets_of message ++ others) rest)
      | inr other ↦ rw other rest
    ]
packets_to-said_of me member (act ∷ acts) = packets_to-said_of me member acts

-- ---- every step

free_told : (message : Message) → IsFree message → IsInPackets message
free_told (Mention ballot) free = absurd free
free_told message free = tt

ask_told : (message : Message) → IsAsk message → IsInPackets message
ask_told (Mention ballot) asks = absurd asks
ask_told message asks = tt

free_spoken : (act : Act) → SendsFree act → IsSpoken act
free_spoken (Send whom message) free = free_told message free
free_spoken act free = tt

ask_spoken : (act : Act) → SendsAsk act → IsSpoken act
ask_spoken (Send whom message) asks = ask_told message asks
ask_spoken act asks = tt

all_spoken : (acts : List Act) → AreFree acts → AreSpoken acts
all_spoken [] free = tt
all_spoken (act ∷ acts) free = (free_spoken act free.0, all_spoken acts free.1)

once_spoken : (acts : List Act) → AskOnce acts → AreSpoken acts
once_spoken [] once = tt
once_spoken (act ∷ acts) (inl free) = (free_spoken act free.0, once_spoken acts free.1)
once_spoken (act ∷ acts) (inr asks) = (ask_spoken act asks.0, all_spoken acts asks.1)

-- a step sends no mention
pub step-spoken : (self : Identity) (event : Event) (state : State) → IsCopyable state.kept.rows → BringsCopyable event → AreSpoken (step self event state)
step-spoken self event state rows brings = once_spoken (step self event state) (step-once self event state rows brings)

-- what a step sends to a replica keeps the rules of groups
pub step-groups : (self : Identity) (event : Event) (state : State) → IsCopyable state.kept.rows → BringsCopyable event → KeepGroups self.me (said_of (step self event state))
step-groups self event state rows brings member =
    let acts : List Act = step self event state in
    ap (λ (packets : List Packet). keep_groups no_group (map (fields_of self.me) packets)) (packets_to-said_of self.me member acts)
    ∙ acts_once self.me member acts (step-once self event state rows brings)

cursors-append : (xs ys : List (Whom × Packet)) → HaveCursors xs → HaveCursors ys → HaveCursors (xs ++ ys)
cursors-append [] ys first rest = rest
cursors-append (x ∷ xs) ys first rest = (first.0, cursors-append xs ys first.1 rest)

votes_cursors : (whom : Whom) (ballot : ℕ) (votes : List Vote) → HaveCursors (map (λ (packet : Packet). (whom, packet)) (map (old_vote ballot) votes))
votes_cursors whom ballot [] = tt
votes_cursors whom ballot (vote ∷ votes) = (tt, votes_cursors whom ballot votes)

rows_cursors : (whom : Whom) (slot : ℕ) (rows : List JobRow) → OpenHaveCursors rows → HaveCursors (map (λ (packet : Packet). (whom, packet)) (map (packet.SnapRow slot) rows))
rows_cursors whom slot [] cursors = tt
rows_cursors whom slot (row ∷ rows) cursors = (All-head OpenHasCursor row rows cursors, rows_cursors whom slot rows (All-tail OpenHasCursor row rows cursors))

free_cursors : (whom : Whom) (message : Message) → IsFree message → HaveCursors (said_by (Send whom message))
unfolding said_by packets_of
free_cursors whom (Prepare ballot slot) free = absurd free
free_cursors whom (Promise ballot slot votes) free = (tt, votes_cursors whom ballot votes)
free_cursors whom (Accept vote) free = absurd free
free_cursors whom (Accepted ballot slot) free = (tt, tt)
free_cursors whom (Nack ballot promised) free = (tt, tt)
free_cursors whom (Known slot entry) free = (tt, tt)
free_cursors whom (AskFrom slot) free = (tt, tt)
free_cursors whom (Snap slot rows) free = absurd free
free_cursors whom (Lead ballot slot) free = (tt, tt)
free_cursors whom (Mention ballot) free = absurd free

ask_cursors : (whom : Whom) (message : Message) → IsAsk message → HaveCursors (said_by (Send whom message))
unfolding said_by packets_of
ask_cursors whom (Prepare ballot slot) asks = (tt, tt)
ask_cursors whom (Promise ballot slot votes) asks = absurd asks
ask_cursors whom (Accept vote) asks = (tt, tt)
ask_cursors whom (Accepted ballot slot) asks = absurd asks
ask_cursors whom (Nack ballot promised) asks = absurd asks
ask_cursors whom (Known slot entry) asks = absurd asks
ask_cursors whom (AskFrom slot) asks = absurd asks
ask_cursors whom (Snap slot rows) asks = (tt, rows_cursors whom slot rows asks.cursors)
ask_cursors whom (Lead ballot slot) asks = absurd asks
ask_cursors whom (Mention ballot) asks = absurd asks

all_cursors : (acts : List Act) → AreFree acts → HaveCursors (said_of acts)
unfolding said_by
all_cursors [] free = tt
all_cursors (Send whom message ∷ acts) free =
    cursors-append (said_by (Send whom message)) (said_of acts) (free_cursors whom message free.0) (all_cursors acts free.1)
all_cursors (act ∷ acts) free = all_cursors acts free.1

once_cursors : (acts : List Act) → AskOnce acts → HaveCursors (said_of acts)
unfolding said_by
once_cursors [] once = tt
once_cursors (Send whom message ∷ acts) (inl free) =
    cursors-append (said_by (Send whom message)) (said_of acts) (free_cursors whom message free.0) (once_cursors acts free.1)
once_cursors (Send whom message ∷ acts) (inr asks) =
    cursors-append (said_by (Send whom message)) (said_of acts) (ask_cursors whom message asks.0) (all_cursors acts asks.1)
once_cursors (act ∷ acts) (inl free) = once_cursors acts free.1
once_cursors (act ∷ acts) (inr asks) = absurd asks.0

-- a step sends no row whose job is open and which has no cursor
pub step-cursors : (self : Identity) (event : Event) (state : State) → IsCopyable state.kept.rows → BringsCopyable event → HaveCursors (said_of (step self event state))
step-cursors self event state rows brings = once_cursors (step self event state) (step-once self event state rows brings)

-- what the letters of a step need of it
pub record CanBeSent (self : Identity) (acts : List Act) (said : List (Whom × Packet)) : Type 0 where
  pub spoken : AreSpoken acts
  pub groups : KeepGroups self.me said
  pub cursors : HaveCursors said

-- what a step says can be sent
pub step-letters : (self : Identity) (event : Event) (state : State) (said : List (Whom × Packet)) → IsCopyable state.kept.rows → BringsCopyable event → said ≡ said_of (step self event state) → CanBeSent self (step self event state) said
step-letters self event state said rows brings is =
    record {
      spoken = step-spoken self event state rows brings;
      groups = subst (KeepGroups self.me) (sym is) (step-groups self event state rows brings);
      cursors = subst HaveCursors (sym is) (step-cursors self event state rows brings);
    }
