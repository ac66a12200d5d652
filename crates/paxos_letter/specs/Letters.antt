-- Letters, and the first rule that bytes break. Source: docs/WIRE.md.
use Rattle.std.specs.Prelude.{◌≡◌, ◌≢◌, ◌↔◌, ℕ, ◌+◌, ◌*◌, ◌%◌, ◌<◌, Bool, not, ◌||◌, ◌==◌, if◌then◌else◌, IsTrue, List, [], ◌∷◌, length, map, slice_index, Option, None, Some}
use Rattle.std.specs.List.{AllByRecursion}
use Rattle.paxos_base.specs.Packet.{offset_of, FromField}
use Rattle.paxos_letter.specs.declared.fault.LetterFault.{LetterFault}
use Rattle.paxos_letter.specs.declared.fault.LetterFault.TheVariants.{BadLength, BadKind, NotZero, BadMember, BadGroup}
use Rattle.paxos_letter.specs.declared.fields.Fields.{Fields}
use Rattle.paxos_letter.specs.declared.group.Group.{Group}
use Rattle.paxos_letter.specs.declared.packet.Packet.{Packet}
use Rattle.paxos_letter.specs.Fields.{FitPacketFields, all_in}
use Rattle.paxos_letter.specs.Spelling.{fields_of, packet_bytes, spelling, AllFit}
use Rattle.paxos_letter.specs.Rules.{keeps_kind, keeps_zeros, keeps_members}
use Rattle.paxos_letter.specs.Groups.{no_group, is_filled, keeps_group, after, keep_groups}

-- The packets are a letter from one of that many replicas: there is at least one, each is of a known kind, the sender
-- and the ballots are of the members, and the groups are whole.
pub record IsLetter (members from : ℕ) (packets : List Packet) : Type 0 where
  pub some : packets ≢ []
  pub kinds : AllByRecursion (λ packet. IsTrue (keeps_kind (fields_of from packet))) packets
  pub members_keep : AllByRecursion (λ packet. IsTrue (keeps_members members from (fields_of from packet))) packets
  pub groups : IsTrue (keep_groups no_group (map (fields_of from) packets))

-- The bytes are those of one packet of the sender, whatever stands round it: it is of a known kind, and the sender and the
-- ballots are of the members.
pub record SpellsPacket (members from : ℕ) (packet : Packet) (bytes : List ℕ) : Type 0 where
  pub kind : IsTrue (keeps_kind (fields_of from packet))
  pub members_keep : IsTrue (keeps_members members from (fields_of from packet))
  pub fits : FitPacketFields (fields_of from packet)
  pub spelled : bytes ≡ packet_bytes from packet

-- the bytes are the spelling of a letter
pub record Spells (members from : ℕ) (packets : List Packet) (bytes : List ℕ) : Type 0 where
  pub letter : IsLetter members from packets
  pub fits : AllFit from packets
  pub spelled : bytes ≡ spelling from packets

-- the first rule that a packet of a number breaks
abbrev pub fault_at : ℕ → ℕ → Group → ℕ → Fields → Option LetterFault
fault_at members sender group number fields =
    if not (keeps_kind fields) then Some (BadKind number)
    else if not (keeps_zeros fields) then Some (NotZero number)
    else if not (keeps_members members sender fields) then Some (BadMember number)
    else if not (keeps_group group fields) then Some (BadGroup number)
    else None

-- the first of two faults, where there is one
abbrev pub or_later : Option LetterFault → Option LetterFault → Option LetterFault
or_later None later = later
or_later (Some fault) later = Some fault

-- the first rule that packets break, from one of a number on
abbrev pub fault_from : ℕ → ℕ → Group → ℕ → List Fields → Option LetterFault
fault_from members sender group number [] = if is_filled group then None else Some (BadGroup number)
fault_from members sender group number (first ∷ rest) =
    or_later (fault_at members sender group number first) (fault_from members sender (after group first) (number + 1) rest)

-- no packet, or a part of one
abbrev pub has_bad_length : List ℕ → Bool
has_bad_length bytes = (length bytes == 0) || not (length bytes % 56 == 0)

-- the sender that the first packet names
abbrev pub sender_of : List ℕ → ℕ
sender_of bytes = slice_index bytes (offset_of FromField)

-- The first rule that bytes break: the length first, and then the packets in their order.
abbrev pub letter_fault_of : ℕ → List ℕ → Option LetterFault
letter_fault_of members bytes =
    if has_bad_length bytes then Some (BadLength 0) else fault_from members (sender_of bytes) no_group 0 (all_in bytes)

-- bytes spell no two letters
abbrev pub LettersDiffer : Type 0
LettersDiffer =
    (members from other : ℕ) (packets others : List Packet) (bytes : List ℕ) → Spells members from packets bytes → Spells members other others bytes
    → (from ≡ other) × (packets ≡ others)

-- the bytes of a letter are one or more packets of 56
abbrev pub LettersHavePackets : Type 0
LettersHavePackets =
    (members from : ℕ) (packets : List Packet) (bytes : List ℕ) → Spells members from packets bytes
    → (0 < length bytes) × (length bytes ≡ 56 * length packets)

-- Packets whose numbers fit are a letter exactly where their spelling breaks no rule.
abbrev pub LettersBreakNoRule : Type 0
LettersBreakNoRule =
    (members from : ℕ) (packets : List Packet) → AllFit from packets
    → IsLetter members from packets ↔ (letter_fault_of members (spelling from packets) ≡ None)
