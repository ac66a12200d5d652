-- Letters and their bytes.
use Rattle.std.proofs.Common.{◌≡◌, ◌≢◌, ℕ, suc, ◌+◌, ◌*◌, ◌/◌, ◌%◌, Bool, true, false, not, eqb, cond, List, [], ◌∷◌, length, map, Option, Some, None, Result, Ok, refl, sym, ap, subst, ◌∙◌, arith}
use Rattle.std.specs.List.{flat_map, AllByRecursion}
use Rattle.std.specs.Prelude.{IsTrue}
use Rattle.std.specs.Simd.{first_chunks}
use Rattle.std.proofs.lemmas.Bool.{and_parts, and_from, or_parts, or_from, eqb-true, eqb-false, ne_eqb, eq-eqb, not-false}
use Rattle.std.proofs.lemmas.List.{length-append}
use Rattle.std.proofs.lemmas.List.Concat.{flat_map-cons}
use Rattle.std.proofs.lemmas.List.Folds.{flat_map-map}
use Rattle.paxos_letter.specs.declared.fault.LetterFault.{LetterFault}
use Rattle.paxos_letter.specs.declared.fault.LetterFault.TheVariants.{BadLength, BadKind, NotZero, BadMember, BadGroup}
use Rattle.paxos_letter.specs.declared.fields.Fields.{Fields}
use Rattle.paxos_letter.specs.declared.group.Group.{Group}
use Rattle.paxos_letter.specs.declared.packet.Packet.{Packet}
use Rattle.paxos_letter.specs.declared.packet.Packet.TheVariants.{Prepare, Promise, OldVote, Accept, Accepted, Nack, Known, AskFrom, Snap, SnapRow, Lead}
use Rattle.paxos_letter.specs.Fields.{bytes_of, fields_in, all_in, FitPacketFields}
use Rattle.paxos_letter.specs.Decoding.{LetterContents, packets_in}
use Rattle.paxos_letter.specs.Spelling.{fields_of, packet_bytes, spelling, AllFit}
use Rattle.paxos_letter.specs.Rules.{keeps_kind, keeps_zeros, keeps_members}
use Rattle.paxos_letter.specs.Groups.{no_group, is_filled, keeps_group, after, keep_groups}
use Rattle.paxos_letter.specs.Letters.{IsLetter, Spells, LettersHavePackets, LettersBreakNoRule, fault_at, or_later, fault_from, has_bad_length, sender_of, letter_fault_of}
use Rattle.paxos_letter.proofs.FieldLemmas.{AreBytes, spelled_so, all_fit, read_again}
use Rattle.paxos_letter.proofs.PacketBack.{same_packets, fields_of-zeros}
use Rattle.paxos_letter.proofs.ReadLemmas.{fault_at-none, later_none, fields_of-packets}

abbrev all_fields_of : ℕ → List Packet → List Fields
all_fields_of from packets = map (fields_of from) packets

-- ---- spelling

spelling-fields : (from : ℕ) (packets : List Packet) → spelling from packets ≡ flat_map bytes_of (all_fields_of from packets)
spelling-fields from packets = sym (flat_map-map bytes_of (fields_of from) packets)

length-bytes : (packets : List Fields) → length (flat_map bytes_of packets) ≡ length packets * 56
length-bytes [] = refl
length-bytes (p ∷ ps) =
    ap length (flat_map-cons bytes_of p ps) ∙ omega (arith, length-append (bytes_of p) (flat_map bytes_of ps), length-bytes ps)

length-map : (from : ℕ) (packets : List Packet) → length (all_fields_of from packets) ≡ length packets
length-map from [] = refl
length-map from (p ∷ ps) = ap suc (length-map from ps)

AllFit-fields : (from : ℕ) (packets : List Packet) → AllFit from packets → AllByRecursion FitPacketFields (all_fields_of from packets)
AllFit-fields from [] fits = tt
AllFit-fields from (p ∷ ps) fits = (fits.0, AllFit-fields from ps fits.1)

fields-AllFit : (from : ℕ) (packets : List Packet) → AllByRecursion FitPacketFields (all_fields_of from packets) → AllFit from packets
fields-AllFit from [] fits = tt
fields-AllFit from (p ∷ ps) fits = (fits.0, fields-AllFit from ps fits.1)

-- ---- faults

filled : (is : Bool) (fault : LetterFault) → cond is None (Some fault) ≡ None → is ≡ true
filled true fault e = refl
filled false fault e = absurd cc

-- the rules of a letter, after packets that keep them
pub record Sound (members from : ℕ) (group : Group) (packets : List Packet) : Type 0 where
  pub kinds : AllByRecursion (λ packet. IsTrue (keeps_kind (fields_of from packet))) packets
  pub members_keep : AllByRecursion (λ packet. IsTrue (keeps_members members from (fields_of from packet))) packets
  pub groups : IsTrue (keep_groups group (all_fields_of from packets))

none-Sound : (members from : ℕ) (group : Group) (number : ℕ) (packets : List Packet) → fault_from members from group number (all_fields_of from packets) ≡ None → Sound members from group packets
none-Sound members from group number [] e = record { kinds = tt; members_keep = tt; groups = filled (is_filled group) (BadGroup number) e }
none-Sound members from group number (p ∷ ps) e =
    let fields : Fields = fields_of from p in
    let both = later_none (fault_at members from group number fields) (fault_from members from (after group fields) (number + 1) (all_fields_of from ps)) e in
    let keeps = fault_at-none members from group number fields both.0 in
    let rest = none-Sound members from (after group fields) (number + 1) ps both.1 in
    record {
      kinds = (keeps.kind, rest.kinds);
      members_keep = (keeps.members_keep, rest.members_keep);
      groups = and_from (keeps_group group fields) _ keeps.group_keeps rest.groups;
    }

no_fault : (kind zeros members group : Bool) (n : ℕ) → kind ≡ true → zeros ≡ true → members ≡ true → group ≡ true
    → cond (not kind) (Some (BadKind n)) (cond (not zeros) (Some (NotZero n)) (cond (not members) (Some (BadMember n)) (cond (not group) (Some (BadGroup n)) None))) ≡ None
no_fault kind zeros members group n p q r s = rw (p, q, r, s) refl

Sound-none : (members from : ℕ) (group : Group) (number : ℕ) (packets : List Packet) → Sound members from group packets → fault_from members from group number (all_fields_of from packets) ≡ None
Sound-none members from group number [] s = ap (λ (is : Bool). cond is None (Some (BadGroup number))) s.groups
Sound-none members from group number (p ∷ ps) s =
    let fields : Fields = fields_of from p in
    let groups = and_parts (keeps_group group fields) (keep_groups (after group fields) (all_fields_of from ps)) s.groups in
    let here : fault_at members from group number fields ≡ None =
    no_fault (keeps_kind fields) (keeps_zeros fields) (keeps_members members from fields) (keeps_group group fields) number s.kinds.0 (fields_of-zeros from p) s.members_keep.0 groups.0 in
    ap (λ (first : Option LetterFault). or_later first (fault_from members from (after group fields) (number + 1) (all_fields_of from ps))) here
    ∙ Sound-none members from (after group fields) (number + 1) ps (record { kinds = s.kinds.1; members_keep = s.members_keep.1; groups = groups.1 })

-- ---- the bytes of a letter

pub record IsWhole (bytes : List ℕ) : Type 0 where
  pub some : length bytes ≢ 0
  pub packets : length bytes ≡ length bytes / 56 * 56

whole : (bytes : List ℕ) → has_bad_length bytes ≡ false → IsWhole bytes
whole bytes e =
    let parts = or_parts (eqb (length bytes) 0) (not (eqb (length bytes % 56) 0)) e in
    let even : length bytes % 56 ≡ 0 = eqb-true _ _ (not-false _ parts.1) in
    record { some = eqb-false _ _ parts.0; packets = omega arith }

spelled_back : (from : ℕ) (bytes : List ℕ) (packets : List Packet) → AreBytes bytes → length bytes ≡ length bytes / 56 * 56 → all_fields_of from packets ≡ all_in bytes → bytes ≡ spelling from packets
spelled_back from bytes packets fits long e =
    sym (spelled_so (length bytes / 56) bytes long fits) ∙ ap (flat_map bytes_of) (sym e) ∙ sym (spelling-fields from packets)

-- packets that were read from bytes without a fault
found : (members from : ℕ) (bytes : List ℕ) (packets : List Packet) → AreBytes bytes → length bytes ≢ 0 → length bytes ≡ length bytes / 56 * 56 → all_fields_of from packets ≡ all_in bytes
    → fault_from members from no_group 0 (all_in bytes) ≡ None → Spells members from packets bytes
found members from bytes packets fits some long e none =
    let sound = none-Sound members from no_group 0 packets (ap (fault_from members from no_group 0) e ∙ none) in
    let spelled = spelled_back from bytes packets fits long e in
    record {
      letter = record {
        some = λ empty. some (ap length (spelled ∙ ap (spelling from) empty));
        kinds = sound.kinds;
        members_keep = sound.members_keep;
        groups = sound.groups;
      };
      fits = fields-AllFit from packets (subst (AllByRecursion FitPacketFields) (sym e) (all_fit (length bytes / 56) bytes long fits));
      spelled = spelled;
    }

abbrev nothing : Option LetterFault
nothing = None

none_some : (fault : LetterFault) → nothing ≡ Some fault → ⊥
none_some fault e = absurd cc

-- what the spelling of packets is read as
pub record Again (members from : ℕ) (packets : List Packet) (bytes : List ℕ) : Type 0 where
  pub sender : sender_of bytes ≡ from
  pub fields : all_in bytes ≡ all_fields_of from packets
  pub fault : letter_fault_of members bytes ≡ fault_from members from no_group 0 (all_fields_of from packets)

pub fields_of-from : (from : ℕ) (packet : Packet) → (fields_of from packet).from ≡ from
fields_of-from from (Prepare ballot slot) = refl
fields_of-from from (Promise ballot slot count) = refl
fields_of-from from (OldVote ballot slot cast entry) = refl
fields_of-from from (Accept ballot slot entry) = refl
fields_of-from from (Accepted ballot slot) = refl
fields_of-from from (Nack ballot promised) = refl
fields_of-from from (Known slot entry) = refl
fields_of-from from (AskFrom slot) = refl
fields_of-from from (Snap slot count) = refl
fields_of-from from (SnapRow slot row) = refl
fields_of-from from (Lead ballot slot) = refl

sender_again : (from : ℕ) (packets : List Packet) → packets ≢ [] → sender_of (spelling from packets) ≡ from
sender_again from [] some = absurd (some refl)
sender_again from (p ∷ ps) some = ap sender_of (flat_map-cons (packet_bytes from) p ps) ∙ fields_of-from from p

fields_again : (packets : List Fields) → AllByRecursion FitPacketFields packets → all_in (flat_map bytes_of packets) ≡ packets
fields_again packets fits =
    let long = length-bytes packets in
    let count : length (flat_map bytes_of packets) / 56 ≡ length packets = omega arith in
    ap (λ (n : ℕ). map fields_in (first_chunks 56 n (flat_map bytes_of packets))) count ∙ read_again packets fits

some_length : (packets : List Packet) → packets ≢ [] → length packets ≢ 0
some_length [] some = absurd (some refl)
some_length (p ∷ ps) some = λ e. omega (arith, e)

good_length : (packets : List Fields) → length packets ≢ 0 → has_bad_length (flat_map bytes_of packets) ≡ false
good_length packets some =
    let long = length-bytes packets in
    let nonzero : length (flat_map bytes_of packets) ≢ 0 = omega arith in
    let even : length (flat_map bytes_of packets) % 56 ≡ 0 = omega arith in
    or_from _ _ (ne_eqb _ _ nonzero) (ap not (eq-eqb _ _ even))

spelled_again : (members from : ℕ) (packets : List Packet) (bytes : List ℕ) → packets ≢ [] → AllFit from packets → bytes ≡ spelling from packets → Again members from packets bytes
spelled_again members from packets bytes some fits is =
    let all : List Fields = all_fields_of from packets in
    let spelled : bytes ≡ flat_map bytes_of all = is ∙ spelling-fields from packets in
    let sender : sender_of bytes ≡ from = ap sender_of is ∙ sender_again from packets some in
    let fields : all_in bytes ≡ all = ap all_in spelled ∙ fields_again all (AllFit-fields from packets fits) in
    let filled : length all ≢ 0 = λ z. some_length packets some (sym (length-map from packets) ∙ z) in
    let good : has_bad_length bytes ≡ false = ap has_bad_length spelled ∙ good_length all filled in
    record {
      sender = sender;
      fields = fields;
      fault = ap (λ (bad : Bool). cond bad (Some (BadLength 0)) (fault_from members (sender_of bytes) no_group 0 (all_in bytes))) good
          ∙ ap (λ (from' : ℕ). fault_from members from' no_group 0 (all_in bytes)) sender
          ∙ ap (fault_from members from no_group 0) fields;
    }

pub letter_again : (members from : ℕ) (packets : List Packet) (bytes : List ℕ) → Spells members from packets bytes → Again members from packets bytes
letter_again members from packets bytes spells =
    spelled_again members from packets bytes spells.letter.some spells.fits spells.spelled

-- a letter has no fault
pub letter_none : (members from : ℕ) (packets : List Packet) (bytes : List ℕ) → Spells members from packets bytes → letter_fault_of members bytes ≡ None
letter_none members from packets bytes spells =
    let letter = spells.letter in
    let sound : Sound members from no_group packets = record { kinds = letter.kinds; members_keep = letter.members_keep; groups = letter.groups } in
    (letter_again members from packets bytes spells).fault ∙ Sound-none members from no_group 0 packets sound

-- a letter isn't read where there is a fault
pub no_fault_of_letter : (members from : ℕ) (packets : List Packet) (bytes : List ℕ) (fault : LetterFault) {X : Type 0} → Spells members from packets bytes
    → letter_fault_of members bytes ≡ Some fault → X
no_fault_of_letter members from packets bytes fault spells is =
    absurd (none_some fault (sym (letter_none members from packets bytes spells) ∙ is))

same_letter : (members from sender : ℕ) (packets items : List Packet) (bytes : List ℕ) → Spells members from packets bytes
    → all_fields_of sender items ≡ all_in bytes → (sender_of bytes ≡ from) × (items ≡ packets)
same_letter members from sender packets items bytes spells found =
    let again = letter_again members from packets bytes spells in
    (again.sender, same_packets sender from items packets (found ∙ again.fields))

-- ---- pieces of 56 bytes

pub record IsCut (bytes : List ℕ) (pieces : List (List ℕ)) : Type 0 where
  pub fits : AreBytes bytes
  pub some : length bytes ≢ 0
  pub long : length bytes ≡ length bytes / 56 * 56
  pub pieces_are : pieces ≡ first_chunks 56 (length bytes / 56) bytes

-- pieces that break no rule have the fields of the packets that they are
pieces_back : (members : ℕ) (bytes : List ℕ) (pieces : List (List ℕ)) → IsCut bytes pieces → fault_from members (sender_of bytes) no_group 0 (map fields_in pieces) ≡ None
    → all_fields_of (sender_of bytes) (packets_in pieces) ≡ all_in bytes
pieces_back members bytes pieces cut none =
    fields_of-packets members (sender_of bytes) no_group 0 (map fields_in pieces) none ∙ ap (map fields_in) cut.pieces_are

-- pieces that break no rule are the packets of a letter
pub pieces_found : (members : ℕ) (bytes : List ℕ) (pieces : List (List ℕ)) → IsCut bytes pieces → fault_from members (sender_of bytes) no_group 0 (map fields_in pieces) ≡ None
    → Spells members (sender_of bytes) (packets_in pieces) bytes
pieces_found members bytes pieces cut none =
    found members (sender_of bytes) bytes (packets_in pieces) cut.fits cut.some cut.long (pieces_back members bytes pieces cut none)
    (ap (λ (ps : List (List ℕ)). fault_from members (sender_of bytes) no_group 0 (map fields_in ps)) (sym cut.pieces_are) ∙ none)

-- and of no other letter
pub pieces_only : (members from : ℕ) (packets : List Packet) (bytes : List ℕ) (pieces : List (List ℕ)) → IsCut bytes pieces → fault_from members (sender_of bytes) no_group 0 (map fields_in pieces) ≡ None
    → Spells members from packets bytes → (sender_of bytes ≡ from) × (packets_in pieces ≡ packets)
pieces_only members from packets bytes pieces cut none spells =
    same_letter members from (sender_of bytes) packets (packets_in pieces) bytes spells (pieces_back members bytes pieces cut none)

abbrev contents : ℕ → List Packet → LetterContents
contents from packets = record { from = from; packets = packets }

abbrev ok : LetterContents → Result LetterContents LetterFault
ok letter = Ok letter

pub same_contents : {from other : ℕ} {packets others : List Packet} → from ≡ other → packets ≡ others → ok (contents from packets) ≡ ok (contents other others)
same_contents a b = cc

-- ---- laws

-- what breaks no rule is some packets, and they are a letter
none_letter : (members from : ℕ) (packets : List Packet) → AllFit from packets → letter_fault_of members (spelling from packets) ≡ None → IsLetter members from packets
none_letter members from packets fits none =
    let some : packets ≢ [] = λ empty. none_some (BadLength 0) (sym none ∙ ap (λ (ps : List Packet). letter_fault_of members (spelling from ps)) empty) in
    let again = spelled_again members from packets (spelling from packets) some fits refl in
    let sound = none-Sound members from no_group 0 packets (sym again.fault ∙ none) in
    record { some = some; kinds = sound.kinds; members_keep = sound.members_keep; groups = sound.groups }

pub letters_break_no_rule : LettersBreakNoRule
letters_break_no_rule members from packets fits = (
  λ letter. letter_none members from packets (spelling from packets) (record { letter = letter; fits = fits; spelled = refl }),
  none_letter members from packets fits,
)

pub letters_have_packets : LettersHavePackets
letters_have_packets members from packets bytes spells =
    let all : List Fields = all_fields_of from packets in
    let long : length bytes ≡ length all * 56 = ap length (spells.spelled ∙ spelling-fields from packets) ∙ length-bytes all in
    let count : length all ≡ length packets = length-map from packets in
    let some : length packets ≢ 0 = some_length packets spells.letter.some in
    (omega arith, omega arith)
