-- A letter asks once at most for a change of what is kept.
use Rattle.std.proofs.Common.{◌≡◌, ℕ, ◌+◌, ◌≤◌, Bool, true, false, not, ◌&&◌, ◌||◌, List, [], ◌∷◌, map, take, refl, arith, if◌then◌else◌}
use Rattle.std.specs.List.{count_by, flat_map}
use Rattle.std.proofs.lemmas.Bool.{and_parts}
use Rattle.std.proofs.lemmas.List.Sums.{sum_by-cons}
use Rattle.paxos_letter.specs.Groups.{keep_groups, no_group}
use Rattle.paxos_letter.specs.Letters.{Spells}
use Rattle.paxos_letter.specs.Spelling.{fields_of}
use Rattle.paxos_letter.specs.declared.packet.Packet.{Packet}
use Rattle.paxos_letter.specs.declared.packet.Packet.TheVariants.{Prepare, Promise, OldVote, Accept, Accepted, Nack, Known, AskFrom, Snap, SnapRow, Lead}
use Rattle.step_spec.specs.Heard.{messages_of, row_in, vote_in}
use Rattle.step_spec.specs.Message as told
use Rattle.step_spec.specs.Message.{Message}
use Rattle.step_spec.specs.Step.{asks_change}

counted : (message : Message) (messages : List Message) → count_by asks_change (message ∷ messages) ≡ (if asks_change message then 1 else 0) + count_by asks_change messages
counted message messages = sum_by-cons (λ m. if asks_change m then 1 else 0) message messages

-- one more that asks, or doesn't
asked_once : (asked asks : Bool) (count : ℕ) → not (asked && asks) ≡ true → count ≤ (if asked || asks then 0 else 1) → (if asks then 1 else 0) + count ≤ (if asked then 0 else 1)
asked_once true true count keeps few = absurd cc
asked_once true false count keeps few = omega (arith, few)
asked_once false true count keeps few = omega (arith, few)
asked_once false false count keeps few = omega (arith, few)

-- a packet that may follow, which is neither an old vote nor a row
next : (message : Message) (messages : List Message) (asked filled asks : Bool) → asks_change message ≡ asks
    → (filled && not (asked && asks)) ≡ true → count_by asks_change messages ≤ (if asked || asks then 0 else 1) → count_by asks_change (message ∷ messages) ≤ (if asked then 0 else 1)
next message messages asked filled asks is keeps few =
    rw (counted message messages, is) (asked_once asked asks (count_by asks_change messages) (and_parts _ _ keeps).1 few)

once : (from : ℕ) (packets : List Packet) (votes rows job : ℕ) (asked : Bool) → keep_groups (record no_group { votes = votes; rows = rows; job = job; asked = asked }) (map (fields_of from) packets) ≡ true
    → count_by asks_change (messages_of packets) ≤ (if asked then 0 else 1)
unfolding messages_of
once from [] votes rows job asked keeps = omega arith
once from (Prepare ballot slot ∷ rest) votes rows job asked keeps = let parts = and_parts _ _ keeps in next (told.Prepare ballot slot) (messages_of rest) asked _ true refl parts.0 (once from rest _ _ _ _ parts.1)
once from (Promise ballot slot count ∷ rest) votes rows job asked keeps = let parts = and_parts _ _ keeps in next (told.Promise ballot slot (flat_map vote_in (take count rest))) (messages_of rest) asked _ false refl parts.0 (once from rest _ _ _ _ parts.1)
once from (OldVote ballot slot cast entry ∷ rest) votes rows job asked keeps = let parts = and_parts _ _ keeps in let few = once from rest _ _ _ asked parts.1 in rw (counted _ (messages_of rest)) (omega (arith, few))
once from (Accept ballot slot entry ∷ rest) votes rows job asked keeps = let parts = and_parts _ _ keeps in next (told.Accept (record { slot = slot; ballot = ballot; entry = entry })) (messages_of rest) asked _ true refl parts.0 (once from rest _ _ _ _ parts.1)
once from (Accepted ballot slot ∷ rest) votes rows job asked keeps = let parts = and_parts _ _ keeps in next (told.Accepted ballot slot) (messages_of rest) asked _ false refl parts.0 (once from rest _ _ _ _ parts.1)
once from (Nack ballot promised ∷ rest) votes rows job asked keeps = let parts = and_parts _ _ keeps in next (told.Nack ballot promised) (messages_of rest) asked _ false refl parts.0 (once from rest _ _ _ _ parts.1)
once from (Known slot entry ∷ rest) votes rows job asked keeps = let parts = and_parts _ _ keeps in next (told.Known slot entry) (messages_of rest) asked _ false refl parts.0 (once from rest _ _ _ _ parts.1)
once from (AskFrom slot ∷ rest) votes rows job asked keeps = let parts = and_parts _ _ keeps in next (told.AskFrom slot) (messages_of rest) asked _ false refl parts.0 (once from rest _ _ _ _ parts.1)
once from (Snap slot count ∷ rest) votes rows job asked keeps = let parts = and_parts _ _ keeps in next (told.Snap slot (flat_map row_in (take count rest))) (messages_of rest) asked _ true refl parts.0 (once from rest _ _ _ _ parts.1)
once from (SnapRow slot row ∷ rest) votes rows job asked keeps = let parts = and_parts _ _ keeps in once from rest _ _ _ _ parts.1
once from (Lead ballot slot ∷ rest) votes rows job asked keeps = let parts = and_parts _ _ keeps in next (told.Lead ballot slot) (messages_of rest) asked _ false refl parts.0 (once from rest _ _ _ _ parts.1)

-- a letter that was read asks once at most
pub read-once : (members from : ℕ) (packets : List Packet) (bytes : List ℕ) → Spells members from packets bytes → count_by asks_change (messages_of packets) ≤ 1
read-once members from packets bytes spells = once from packets 0 0 0 false spells.letter.groups
