-- A packet and its fields are one: what is read is spelled so, and what is spelled is read again.
use Rattle.std.proofs.Common.{◌≡◌, ℕ, zero, suc, inl, inr, ◌+◌, ◌*◌, ◌<◌, ◌≤◌, ℤ, List, [], ◌∷◌, ◌++◌, length, get_or, map, take, drop, replicate, FitsSigned, refl, sym, ap, ◌∙◌, arith, lit≤}
use Rattle.std.specs.Int.{w32, w64, to_be_bytes, from_be_bytes, cast_signed, cast_unsigned}
use Rattle.std.specs.List.{flat_map, AllByRecursion}
use Rattle.std.specs.Simd.{first_chunks}
use Rattle.std.proofs.lemmas.Int.{to_z-of_z}
use Rattle.std.proofs.lemmas.List.{drop_more, take_at, drop_at, take-append-drop, length-take, length-drop, get_or-take, get_or-drop, get_or_past, nil_from_length}
use Rattle.std.proofs.lemmas.List.Concat.{flat_map-cons}
use Rattle.std.proofs.lemmas.Bool.{cases_lt}
use Rattle.std.proofs.lemmas.Nat.{be_bytes_4, be_bytes_8, from_be_bytes-to_be_bytes_4, from_be_bytes-to_be_bytes_8}
use Rattle.paxos_base.specs.Packet.{Field, KindField, FromField, TagField, ZeroField, JobField, BallotField, SlotField, OldField, AtField, NowField, LastField, all_fields, field_of, bytes_at, with_bytes, minute_bytes}
use Rattle.paxos_base.proofs.PacketLemmas.{flat_map-all_fields}
use Rattle.paxos_base.proofs.EntryLemmas.{IsPacket, bytes_at-bytes, length-bytes_at, below_32, below_64, minute_back, minute_fits, unsigned_fits}
use Rattle.paxos_letter.specs.declared.fields.Fields.{Fields}
use Rattle.paxos_letter.specs.Fields.{field_bytes, bytes_of, fields_in, FitPacketFields}
use Rattle.paxos_letter.proofs.RuleLemmas.{same_fields}

-- ---- reading

byte_field : (packet : List ℕ) (at : ℕ) → at < length packet → get_or packet at 0 ∷ [] ≡ bytes_at packet at 1
byte_field packet at lt = sym (ap (take 1) (drop_more packet at 0 lt))

number_field : (packet : List ℕ) → IsPacket packet → (at : ℕ) → at + 8 ≤ 56 → to_be_bytes w64 (from_be_bytes w64 (bytes_at packet at 8)) ≡ bytes_at packet at 8
number_field packet p at fits =
    be_bytes_8 (bytes_at packet at 8) (from_be_bytes w64 (bytes_at packet at 8)) (length-bytes_at packet p at 8 fits) (bytes_at-bytes packet p at 8) refl

minute_field : (packet : List ℕ) → IsPacket packet → (at : ℕ) → at + 8 ≤ 56 → minute_bytes (cast_signed w64 (from_be_bytes w64 (bytes_at packet at 8))) ≡ bytes_at packet at 8
minute_field packet p at fits =
    minute_back (bytes_at packet at 8) (length-bytes_at packet p at 8 fits) (bytes_at-bytes packet p at 8)

-- each field of a packet is spelled as it stands
field_bytes-fields_in : (packet : List ℕ) → IsPacket packet → (field : Field) → field_bytes (fields_in packet) field ≡ field_of packet field
field_bytes-fields_in packet p field =
    let long : length packet ≡ 56 = p.long in
    elim field as (λ f. field_bytes (fields_in packet) f ≡ field_of packet f) [
      | KindField ↦ byte_field packet 0 (omega arith)
      | FromField ↦ byte_field packet 1 (omega arith)
      | TagField ↦ byte_field packet 2 (omega arith)
      | ZeroField ↦ byte_field packet 3 (omega arith)
      | JobField ↦ be_bytes_4 (bytes_at packet 4 4) (from_be_bytes w32 (bytes_at packet 4 4)) (length-bytes_at packet p 4 4 (lit≤ tt)) (bytes_at-bytes packet p 4 4) refl
      | BallotField ↦ number_field packet p 8 (lit≤ tt)
      | SlotField ↦ number_field packet p 16 (lit≤ tt)
      | OldField ↦ number_field packet p 24 (lit≤ tt)
      | AtField ↦ minute_field packet p 32 (lit≤ tt)
      | NowField ↦ minute_field packet p 40 (lit≤ tt)
      | LastField ↦ minute_field packet p 48 (lit≤ tt)
    ]

flat_map-same : (f g : Field → List ℕ) → ((field : Field) → f field ≡ g field) → (fields : List Field) → flat_map f fields ≡ flat_map g fields
flat_map-same f g same [] = refl
flat_map-same f g same (x ∷ xs) =
    flat_map-cons f x xs ∙ ap (λ (front : List ℕ). front ++ flat_map f xs) (same x) ∙ ap (λ (rest : List ℕ). g x ++ rest) (flat_map-same f g same xs) ∙ sym (flat_map-cons g x xs)

pub bytes_of-fields_in : (packet : List ℕ) → IsPacket packet → bytes_of (fields_in packet) ≡ packet
bytes_of-fields_in packet p =
    flat_map-same (field_bytes (fields_in packet)) (field_of packet) (field_bytes-fields_in packet p) all_fields ∙ sym (flat_map-all_fields packet p.long)

pub fields_in-fit : (packet : List ℕ) → IsPacket packet → FitPacketFields (fields_in packet)
fields_in-fit packet p =
    record {
      kind = p.bytes 0;
      from = p.bytes 1;
      tag = p.bytes 2;
      zero = p.bytes 3;
      job = below_32 (bytes_at packet 4 4) (bytes_at-bytes packet p 4 4);
      ballot = below_64 (bytes_at packet 8 8) (bytes_at-bytes packet p 8 8);
      slot = below_64 (bytes_at packet 16 8) (bytes_at-bytes packet p 16 8);
      old = below_64 (bytes_at packet 24 8) (bytes_at-bytes packet p 24 8);
      at = minute_fits (bytes_at packet 32 8) (bytes_at-bytes packet p 32 8);
      moment = minute_fits (bytes_at packet 40 8) (bytes_at-bytes packet p 40 8);
      last = minute_fits (bytes_at packet 48 8) (bytes_at-bytes packet p 48 8);
    }

-- ---- reading what was written

minute_again : (minute : ℤ) → FitsSigned w64 minute → cast_signed w64 (from_be_bytes w64 (minute_bytes minute)) ≡ minute
minute_again minute fits =
    ap (cast_signed w64) (from_be_bytes-to_be_bytes_8 (cast_unsigned w64 minute) (unsigned_fits minute fits)) ∙ to_z-of_z w64 minute fits

pub fields_in-bytes_of : (fields : Fields) → FitPacketFields fields → fields_in (bytes_of fields) ≡ fields
fields_in-bytes_of fields fits =
    same_fields refl refl refl refl (from_be_bytes-to_be_bytes_4 fields.job fits.job)
    (from_be_bytes-to_be_bytes_8 fields.ballot fits.ballot)
    (from_be_bytes-to_be_bytes_8 fields.slot fits.slot)
    (from_be_bytes-to_be_bytes_8 fields.old fits.old)
    (minute_again fields.at fits.at) (minute_again fields.moment fits.moment) (minute_again fields.last fits.last)

-- ---- writing

-- eight writes lay out a packet
pub laid_out : (fields : Fields) (one two three four five six seven eight : List ℕ)
    → one ≡ with_bytes (replicate 56 0) 0 (fields.kind ∷ fields.from ∷ fields.tag ∷ fields.zero ∷ [])
    → two ≡ with_bytes one 4 (to_be_bytes w32 fields.job)
    → three ≡ with_bytes two 8 (to_be_bytes w64 fields.ballot)
    → four ≡ with_bytes three 16 (to_be_bytes w64 fields.slot)
    → five ≡ with_bytes four 24 (to_be_bytes w64 fields.old)
    → six ≡ with_bytes five 32 (minute_bytes fields.at)
    → seven ≡ with_bytes six 40 (minute_bytes fields.moment)
    → eight ≡ with_bytes seven 48 (minute_bytes fields.last)
    → eight ≡ bytes_of fields
laid_out fields one two three four five six seven eight a b c d e f g h =
    h ∙ ap (λ (p : List ℕ). with_bytes p 48 (minute_bytes fields.last)) (g ∙ ap (λ (p : List ℕ). with_bytes p 40 (minute_bytes fields.moment)) (f ∙ ap (λ (p : List ℕ). with_bytes p 32 (minute_bytes fields.at)) (e ∙ ap (λ (p : List ℕ). with_bytes p 24 (to_be_bytes w64 fields.old)) (d ∙ ap (λ (p : List ℕ). with_bytes p 16 (to_be_bytes w64 fields.slot)) (c ∙ ap (λ (p : List ℕ). with_bytes p 8 (to_be_bytes w64 fields.ballot)) (b ∙ ap (λ (p : List ℕ). with_bytes p 4 (to_be_bytes w32 fields.job)) a))))))

-- ---- packets one after another

abbrev pub AreBytes : List ℕ → Type 0
AreBytes bytes = (i : ℕ) → get_or bytes i 0 < 256

AreBytes-drop : (n : ℕ) (bytes : List ℕ) → AreBytes bytes → AreBytes (drop n bytes)
AreBytes-drop n bytes h i = rw get_or-drop (h (n + i))

AreBytes-take : (n : ℕ) (bytes : List ℕ) → AreBytes bytes → AreBytes (take n bytes)
AreBytes-take n bytes h i =
    elim (cases_lt i n) [
      | inl lt ↦ rw (get_or-take n bytes i 0 lt) (h i)
      | inr le ↦ rw (get_or_past (take n bytes) i 0 (omega (arith, length-take n bytes))) (omega arith)
    ]

first_packet : (count : ℕ) (bytes : List ℕ) → length bytes ≡ suc count * 56 → AreBytes bytes → IsPacket (take 56 bytes)
first_packet count bytes long fits =
    record { long = omega (arith, length-take 56 bytes); bytes = AreBytes-take 56 bytes fits }

pub spelled_so : (count : ℕ) (bytes : List ℕ) → length bytes ≡ count * 56 → AreBytes bytes → flat_map bytes_of (map fields_in (first_chunks 56 count bytes)) ≡ bytes
spelled_so zero bytes long fits = sym (nil_from_length bytes (omega arith))
spelled_so (suc count) bytes long fits =
    let rest : length (drop 56 bytes) ≡ count * 56 = omega (arith, length-drop 56 bytes) in
    flat_map-cons bytes_of (fields_in (take 56 bytes)) (map fields_in (first_chunks 56 count (drop 56 bytes)))
    ∙ ap (λ (front : List ℕ). front ++ flat_map bytes_of (map fields_in (first_chunks 56 count (drop 56 bytes)))) (bytes_of-fields_in (take 56 bytes) (first_packet count bytes long fits))
    ∙ ap (λ (back : List ℕ). take 56 bytes ++ back) (spelled_so count (drop 56 bytes) rest (AreBytes-drop 56 bytes fits))
    ∙ take-append-drop 56 bytes

pub all_fit : (count : ℕ) (bytes : List ℕ) → length bytes ≡ count * 56 → AreBytes bytes → AllByRecursion FitPacketFields (map fields_in (first_chunks 56 count bytes))
all_fit zero bytes long fits = tt
all_fit (suc count) bytes long fits =
    (fields_in-fit (take 56 bytes) (first_packet count bytes long fits), all_fit count (drop 56 bytes) (omega (arith, length-drop 56 bytes)) (AreBytes-drop 56 bytes fits))

pub read_again : (packets : List Fields) → AllByRecursion FitPacketFields packets → map fields_in (first_chunks 56 (length packets) (flat_map bytes_of packets)) ≡ packets
read_again [] fits = refl
read_again (p ∷ ps) fits =
    let whole : flat_map bytes_of (p ∷ ps) ≡ bytes_of p ++ flat_map bytes_of ps = flat_map-cons bytes_of p ps in
    ap (λ (bytes : List ℕ). map fields_in (first_chunks 56 (suc (length ps)) bytes)) whole
    ∙ ap (λ (front : List ℕ). fields_in front ∷ map fields_in (first_chunks 56 (length ps) (drop 56 (bytes_of p ++ flat_map bytes_of ps)))) (take_at (bytes_of p) (flat_map bytes_of ps) 56 refl)
    ∙ ap (λ (back : List ℕ). fields_in (bytes_of p) ∷ map fields_in (first_chunks 56 (length ps) back)) (drop_at (bytes_of p) (flat_map bytes_of ps) 56 refl)
    ∙ ap (λ (rest : List Fields). fields_in (bytes_of p) ∷ rest) (read_again ps fits.1)
    ∙ ap (λ (first : Fields). first ∷ ps) (fields_in-bytes_of p fits.0)
