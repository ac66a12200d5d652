-- What is heard of packets is within the bounds.
use Rattle.std.proofs.Common.{◌≡◌, ℕ, ◌<◌, ◌^◌, lit<, true, eqb, ltb, ◌&&◌, List, [], ◌∷◌, length, refl, inl, inr}
use Rattle.std.specs.List.{Contains}
use Rattle.std.proofs.lemmas.Bool.{and_parts, cases_Bool, ltb-true}
use Rattle.paxos_base.specs.Rows.{row_count}
use Rattle.paxos_base.specs.declared.rows.TableSize.{TableSize}
use Rattle.paxos_base.specs.Ballot.{round_of}
use Rattle.paxos_letter.specs.declared.packet.Packet.{Packet}
use Rattle.paxos_letter.specs.declared.packet.Packet.TheVariants as packet
use Rattle.step_spec.specs.Heard.{messages_of}
use Rattle.step_spec.specs.Letters.{are_small, heard_in, is_small, is_small_ballot, is_small_letter, is_small_slot}
use Rattle.step_spec.specs.Message.{Message, ballot_in, slot_in}
use Rattle.step_spec.proofs.Lists.{nothing_in}
use Rattle.due_set.proofs.Rising.{Contains-cases as cons_cases}

-- the ballot and the slot that a message names are within the bounds
abbrev pub IsBounded : Message → Type 0
IsBounded message = (round_of (ballot_in message) < 2 ^ 59) × (slot_in message < 2 ^ 62)

ballot_fits : (ballot : ℕ) → is_small_ballot ballot ≡ true → round_of ballot < 2 ^ 59
ballot_fits ballot is = ltb-true (round_of ballot) (2 ^ 59) is

slot_fits : (slot : ℕ) → is_small_slot slot ≡ true → slot < 2 ^ 62
slot_fits slot is = ltb-true slot (2 ^ 62) is

-- one message more, before others
one_more : (message : Message) (others : List Message) → IsBounded message → ((other : Message) → Contains others other → IsBounded other) → (other : Message) → Contains (message ∷ others) other → IsBounded other
one_more message others first rest other has = elim (cons_cases message others other has) [
  | inl same ↦ rw (← same) first
  | inr later ↦ rest other later
]

both : (ballot slot : ℕ) → is_small_ballot ballot && is_small_slot slot ≡ true → (round_of ballot < 2 ^ 59) × (slot < 2 ^ 62)
both ballot slot is = let parts = and_parts (is_small_ballot ballot) (is_small_slot slot) is in (ballot_fits ballot parts.0, slot_fits slot parts.1)

first_bounded : (size : TableSize) (one : Packet) (rest : List Packet) → is_small size one ≡ true → ((message : Message) → Contains (messages_of rest) message → IsBounded message)
    → (message : Message) → Contains (messages_of (one ∷ rest)) message → IsBounded message
unfolding messages_of
first_bounded size (packet.Prepare ballot slot) rest is behind = one_more _ _ (both ballot slot is) behind
first_bounded size (packet.Promise ballot slot count) rest is behind = one_more _ _ (both ballot slot is) behind
first_bounded size (packet.OldVote ballot slot cast entry) rest is behind =
    one_more _ _ (ballot_fits ballot (and_parts (is_small_ballot ballot) (is_small_slot slot && is_small_ballot cast) is).0, lit< tt) behind
first_bounded size (packet.Accept ballot slot entry) rest is behind = one_more _ _ (both ballot slot is) behind
first_bounded size (packet.Accepted ballot slot) rest is behind = one_more _ _ (both ballot slot is) behind
first_bounded size (packet.Nack ballot promised) rest is behind =
    one_more _ _ (ballot_fits promised (and_parts (is_small_ballot ballot) (is_small_ballot promised) is).1, lit< tt) behind
first_bounded size (packet.Known slot entry) rest is behind = one_more _ _ (lit< tt, slot_fits slot is) behind
first_bounded size (packet.AskFrom slot) rest is behind = one_more _ _ (lit< tt, slot_fits slot is) behind
first_bounded size (packet.Snap slot count) rest is behind = one_more _ _ (lit< tt, slot_fits slot (and_parts (is_small_slot slot) (eqb count (row_count size)) is).0) behind
first_bounded size (packet.SnapRow slot row) rest is behind = behind
first_bounded size (packet.Lead ballot slot) rest is behind = one_more _ _ (both ballot slot is) behind

all_bounded : (size : TableSize) (packets : List Packet) → are_small size packets ≡ true → (message : Message) → Contains (messages_of packets) message → IsBounded message
unfolding messages_of
all_bounded size [] small message has = nothing_in has
all_bounded size (first ∷ rest) small message has =
    let parts = and_parts (is_small size first) (are_small size rest) small in
    first_bounded size first rest parts.0 (all_bounded size rest parts.1) message has

-- what is heard of packets names no ballot and no slot beyond the bounds
pub heard_bounded : (size : TableSize) (packets : List Packet) (message : Message) → Contains (heard_in size packets) message → IsBounded message
heard_bounded size packets message has = elim (cases_Bool (is_small_letter size packets)) [
  | inl small ↦ all_bounded size packets (and_parts (ltb (length packets) (2 ^ 31)) (are_small size packets) small).1 message (rw small at has)
  | inr large ↦ nothing_in (rw large at has)
]

-- and all is heard, where the packets are within the bounds
pub heard_whole : (size : TableSize) (packets : List Packet) → is_small_letter size packets ≡ true → heard_in size packets ≡ messages_of packets
heard_whole size packets small = rw small refl
