-- A packet by itself: what is read is spelled so, and what is spelled so is read.
use Rattle.std.proofs.Common.{◌≡◌, ℕ, true, List, [], ◌∷◌, sym, ap, ◌∙◌, subst}
use Rattle.paxos_base.proofs.EntryLemmas.{IsPacket}
use Rattle.paxos_letter.specs.declared.fields.Fields.{Fields}
use Rattle.paxos_letter.specs.declared.packet.Packet.{Packet}
use Rattle.paxos_letter.specs.Fields.{bytes_of, fields_in, FitPacketFields}
use Rattle.paxos_letter.specs.Letters.{SpellsPacket}
use Rattle.paxos_letter.specs.Rules.{keeps_kind, keeps_zeros, keeps_members, KeepsRules}
use Rattle.paxos_letter.specs.Spelling.{fields_of}
use Rattle.paxos_letter.proofs.FieldLemmas.{bytes_of-fields_in, fields_in-bytes_of, fields_in-fit}
use Rattle.paxos_letter.proofs.PacketBack.{same_packets, fields_of-zeros}
use Rattle.paxos_letter.proofs.ReadLemmas.{keeps_members-sender}

-- the packet that was made of the fields is one of the sender
same_sender : (members sender : ℕ) (fields : Fields) (packet : Packet) → keeps_members members sender fields ≡ true → fields_of fields.from packet ≡ fields → fields_of sender packet ≡ fields
same_sender members sender fields packet members_keep is =
    ap (λ (from : ℕ). fields_of from packet) (sym (keeps_members-sender members sender fields members_keep)) ∙ is

pub spells : (members sender : ℕ) (packet : Packet) (bytes : List ℕ) → IsPacket bytes → keeps_kind (fields_in bytes) ≡ true → keeps_members members sender (fields_in bytes) ≡ true → fields_of (fields_in bytes).from packet ≡ fields_in bytes → SpellsPacket members sender packet bytes
spells members sender packet bytes p kind members_keep is =
    let same : fields_of sender packet ≡ fields_in bytes = same_sender members sender (fields_in bytes) packet members_keep is in
    record {
      kind = ap keeps_kind same ∙ kind;
      members_keep = ap (keeps_members members sender) same ∙ members_keep;
      fits = subst FitPacketFields (sym same) (fields_in-fit bytes p);
      spelled = sym (bytes_of-fields_in bytes p) ∙ ap bytes_of (sym same);
    }

-- the fields of the bytes of a packet
pub fields_again : (members sender : ℕ) (packet : Packet) (bytes : List ℕ) → SpellsPacket members sender packet bytes → fields_in bytes ≡ fields_of sender packet
fields_again members sender packet bytes s =
    ap fields_in s.spelled ∙ fields_in-bytes_of (fields_of sender packet) s.fits

pub same_packet : (members sender : ℕ) (packet found : Packet) (bytes : List ℕ) → SpellsPacket members sender packet bytes → fields_of (fields_in bytes).from found ≡ fields_in bytes → found ≡ packet
same_packet members sender packet found bytes s is =
    let same : found ∷ [] ≡ packet ∷ [] =
    same_packets (fields_in bytes).from sender (found ∷ []) (packet ∷ []) (ap (λ (f : Fields). f ∷ []) (is ∙ fields_again members sender packet bytes s)) in
    cc same

-- the bytes of a packet break none of its rules
pub keeps_rules : (members sender : ℕ) (packet : Packet) (bytes : List ℕ) → SpellsPacket members sender packet bytes → KeepsRules members sender (fields_in bytes)
keeps_rules members sender packet bytes s =
    let same = fields_again members sender packet bytes s in
    record {
      kind = ap keeps_kind same ∙ s.kind;
      zeros = ap keeps_zeros same ∙ fields_of-zeros sender packet;
      members_keep = ap (keeps_members members sender) same ∙ s.members_keep;
    }
