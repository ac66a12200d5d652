-- An entry's four fields, as they are written and as they are read.
use Rattle.std.proofs.Common.{◌≡◌, ◌≢◌, ℕ, ◌+◌, ◌^◌, ◌<◌, ◌≤◌, ℤ, pos, negsuc, true, List, [], ◌∷◌, length, get_or, take, drop, refl, sym, ap, ◌∙◌, inl, inr, arith, lit≤}
use Rattle.std.specs.Int.{w32, w64, to_be_bytes, from_be_bytes, cast_signed, cast_unsigned}
use Rattle.std.specs.Prelude.{FitsSigned, replicate}
use Rattle.std.proofs.Math.Facts.{sfits_to_z}
use Rattle.std.proofs.lemmas.Int.{to_z-of_z, of_z-to_z}
use Rattle.std.proofs.lemmas.List.{length-take, length-drop, get_or-take, get_or-drop, get_or_past, drop_more}
use Rattle.std.proofs.lemmas.Nat.{be_bytes_4, be_bytes_8, from_be_bytes-to_be_bytes_4, from_be_bytes-to_be_bytes_8}
use Rattle.std.proofs.lemmas.Bool.{cases_lt}
use Rattle.paxos_base.specs.Packet.{Field, KindField, FromField, TagField, ZeroField, JobField, BallotField, SlotField, OldField, AtField, NowField, LastField, size_of, bytes_at, field_of, with_bytes, minute_bytes}
use Rattle.paxos_base.specs.EntryFields.{entry_numbers, EntryNumbers, EntryFields, FitEntryFields, bytes_of_numbers, entry_fields, IsEntryField, HasStrayBytes, HasStrayNumbers, LeavesUnused, tag_of}
use Rattle.paxos_base.proofs.PacketLemmas.{apart, length-with_bytes, bytes_at-with_bytes_same, bytes_at-with_bytes_apart}

abbrev pub fields_of : List ℕ → List ℕ → List ℕ → List ℕ → EntryFields
fields_of tag job at now = record { tag = tag; job = job; at = at; now = now }

pub same_fields : {a b c d e f g h : List ℕ} → a ≡ e → b ≡ f → c ≡ g → d ≡ h → fields_of a b c d ≡ fields_of e f g h
same_fields p q r s = cc

-- four writes, one after another, to the fields of an entry
pub record Writes (old one two three new tag job at now : List ℕ) : Type 0 where
  pub packet_long : length old ≡ 56
  pub tag_long : length tag ≡ 1
  pub job_long : length job ≡ 4
  pub at_long : length at ≡ 8
  pub now_long : length now ≡ 8
  pub first : one ≡ with_bytes old 2 tag
  pub second : two ≡ with_bytes one 4 job
  pub third : three ≡ with_bytes two 32 at
  pub fourth : new ≡ with_bytes three 40 now

record AreLong (one two three : List ℕ) : Type 0 where
  first : length one ≡ 56
  second : length two ≡ 56
  third : length three ≡ 56

lengths : (old one two three new tag job at now : List ℕ) → Writes old one two three new tag job at now → AreLong one two three
lengths old one two three new tag job at now w =
    let a : length one ≡ 56 = ap length w.first ∙ length-with_bytes old 2 tag (omega arith) ∙ w.packet_long in
    let b : length two ≡ 56 = ap length w.second ∙ length-with_bytes one 4 job (omega arith) ∙ a in
    let c : length three ≡ 56 = ap length w.third ∙ length-with_bytes two 32 at (omega arith) ∙ b in
    record { first = a; second = b; third = c }

-- bytes apart from each of the four writes
record IsClear (from size : ℕ) : Type 0 where
  tag : apart from size 2 1 ≡ true
  job : apart from size 4 4 ≡ true
  at : apart from size 32 8 ≡ true
  now : apart from size 40 8 ≡ true

kept : (old one two three new tag job at now : List ℕ) → Writes old one two three new tag job at now → (from size : ℕ) → IsClear from size → bytes_at new from size ≡ bytes_at old from size
kept old one two three new tag job at now w from size clear =
    let long = lengths old one two three new tag job at now w in
    let bytes : List ℕ → List ℕ = λ p. bytes_at p from size in
    ap bytes w.fourth ∙ bytes_at-with_bytes_apart three 40 now 8 from size w.now_long (omega arith) clear.now
    ∙ ap bytes w.third ∙ bytes_at-with_bytes_apart two 32 at 8 from size w.at_long (omega arith) clear.at
    ∙ ap bytes w.second ∙ bytes_at-with_bytes_apart one 4 job 4 from size w.job_long (omega arith) clear.job
    ∙ ap bytes w.first ∙ bytes_at-with_bytes_apart old 2 tag 1 from size w.tag_long (omega arith) clear.tag

-- the other fields stay
pub other_fields : (old one two three new tag job at now : List ℕ) → Writes old one two three new tag job at now → (field : Field) → ¬ IsEntryField field → field_of new field ≡ field_of old field
other_fields old one two three new tag job at now w field =
    elim field as (λ f. ¬ IsEntryField f → field_of new f ≡ field_of old f) [
      | KindField ↦ λ _. kept old one two three new tag job at now w 0 1 (record { tag = refl; job = refl; at = refl; now = refl })
      | FromField ↦ λ _. kept old one two three new tag job at now w 1 1 (record { tag = refl; job = refl; at = refl; now = refl })
      | TagField ↦ λ other. absurd (other tt)
      | ZeroField ↦ λ _. kept old one two three new tag job at now w 3 1 (record { tag = refl; job = refl; at = refl; now = refl })
      | JobField ↦ λ other. absurd (other tt)
      | BallotField ↦ λ _. kept old one two three new tag job at now w 8 8 (record { tag = refl; job = refl; at = refl; now = refl })
      | SlotField ↦ λ _. kept old one two three new tag job at now w 16 8 (record { tag = refl; job = refl; at = refl; now = refl })
      | OldField ↦ λ _. kept old one two three new tag job at now w 24 8 (record { tag = refl; job = refl; at = refl; now = refl })
      | AtField ↦ λ other. absurd (other tt)
      | NowField ↦ λ other. absurd (other tt)
      | LastField ↦ λ _. kept old one two three new tag job at now w 48 8 (record { tag = refl; job = refl; at = refl; now = refl })
    ]

-- the four fields are as written
pub entry_fields-writes : (old one two three new tag job at now : List ℕ) → Writes old one two three new tag job at now → entry_fields new ≡ record { tag = tag; job = job; at = at; now = now }
entry_fields-writes old one two three new tag job at now w =
    let long = lengths old one two three new tag job at now w in
    let now-is : bytes_at new 40 8 ≡ now =
    ap (λ (p : List ℕ). bytes_at p 40 8) w.fourth ∙ bytes_at-with_bytes_same three 40 now 8 w.now_long (omega arith) in
    let at-is : bytes_at new 32 8 ≡ at =
    ap (λ (p : List ℕ). bytes_at p 32 8) w.fourth ∙ bytes_at-with_bytes_apart three 40 now 8 32 8 w.now_long (omega arith) refl
    ∙ ap (λ (p : List ℕ). bytes_at p 32 8) w.third ∙ bytes_at-with_bytes_same two 32 at 8 w.at_long (omega arith) in
    let job-is : bytes_at new 4 4 ≡ job =
    ap (λ (p : List ℕ). bytes_at p 4 4) w.fourth ∙ bytes_at-with_bytes_apart three 40 now 8 4 4 w.now_long (omega arith) refl
    ∙ ap (λ (p : List ℕ). bytes_at p 4 4) w.third ∙ bytes_at-with_bytes_apart two 32 at 8 4 4 w.at_long (omega arith) refl
    ∙ ap (λ (p : List ℕ). bytes_at p 4 4) w.second ∙ bytes_at-with_bytes_same one 4 job 4 w.job_long (omega arith) in
    let tag-is : bytes_at new 2 1 ≡ tag =
    ap (λ (p : List ℕ). bytes_at p 2 1) w.fourth ∙ bytes_at-with_bytes_apart three 40 now 8 2 1 w.now_long (omega arith) refl
    ∙ ap (λ (p : List ℕ). bytes_at p 2 1) w.third ∙ bytes_at-with_bytes_apart two 32 at 8 2 1 w.at_long (omega arith) refl
    ∙ ap (λ (p : List ℕ). bytes_at p 2 1) w.second ∙ bytes_at-with_bytes_apart one 4 job 4 2 1 w.job_long (omega arith) refl
    ∙ ap (λ (p : List ℕ). bytes_at p 2 1) w.first ∙ bytes_at-with_bytes_same old 2 tag 1 w.tag_long (omega arith) in
    same_fields tag-is job-is at-is now-is

-- ---- reading

pub record IsPacket (packet : List ℕ) : Type 0 where
  pub long : length packet ≡ 56
  pub bytes : (i : ℕ) → get_or packet i 0 < 256

-- the bytes of a field are bytes
pub bytes_at-bytes : (packet : List ℕ) → IsPacket packet → (offset size : ℕ) → (i : ℕ) → get_or (bytes_at packet offset size) i 0 < 256
bytes_at-bytes packet p offset size i =
    elim (cases_lt i size) [
      | inl lt ↦ rw (get_or-take size (drop offset packet) i 0 lt) (rw get_or-drop (p.bytes (offset + i)))
      | inr le ↦ rw (get_or_past (bytes_at packet offset size) i 0 (omega (arith, length-take size (drop offset packet)))) (omega arith)
    ]

pub length-bytes_at : (packet : List ℕ) → IsPacket packet → (offset size : ℕ) → offset + size ≤ 56 → length (bytes_at packet offset size) ≡ size
length-bytes_at packet p offset size fits =
    let long : length packet ≡ 56 = p.long in
    omega (arith, length-take size (drop offset packet), length-drop offset packet)

-- the numbers that are read from the four fields
abbrev pub numbers_in : List ℕ → EntryNumbers
numbers_in packet =
    record {
      tag = get_or packet 2 0;
      job = from_be_bytes w32 (bytes_at packet 4 4);
      at = cast_signed w64 (from_be_bytes w64 (bytes_at packet 32 8));
      now = cast_signed w64 (from_be_bytes w64 (bytes_at packet 40 8));
    }

pub below_32 : (bytes : List ℕ) → ((i : ℕ) → get_or bytes i 0 < 256) → from_be_bytes w32 bytes < 2 ^ 32
below_32 bytes fits = omega (arith, fits 0, fits 1, fits 2, fits 3)

pub below_64 : (bytes : List ℕ) → ((i : ℕ) → get_or bytes i 0 < 256) → from_be_bytes w64 bytes < 2 ^ 64
below_64 bytes fits = omega (arith, fits 0, fits 1, fits 2, fits 3, fits 4, fits 5, fits 6, fits 7)

-- a minute that is read from eight bytes is spelled so, and fits
pub minute_back : (bytes : List ℕ) → length bytes ≡ 8 → ((i : ℕ) → get_or bytes i 0 < 256) → minute_bytes (cast_signed w64 (from_be_bytes w64 bytes)) ≡ bytes
minute_back bytes long fits =
    ap (to_be_bytes w64) (of_z-to_z w64 (from_be_bytes w64 bytes) (below_64 bytes fits)) ∙ be_bytes_8 bytes (from_be_bytes w64 bytes) long fits refl

pub minute_fits : (bytes : List ℕ) → ((i : ℕ) → get_or bytes i 0 < 256) → FitsSigned w64 (cast_signed w64 (from_be_bytes w64 bytes))
minute_fits bytes fits = sfits_to_z (record { fits = below_64 bytes fits })

-- what is read is spelled so
pub entry_fields-numbers_in : (packet : List ℕ) → IsPacket packet → entry_fields packet ≡ bytes_of_numbers (numbers_in packet)
entry_fields-numbers_in packet p =
    let long : length packet ≡ 56 = p.long in
    let tag-is : bytes_at packet 2 1 ≡ get_or packet 2 0 ∷ [] = ap (take 1) (drop_more packet 2 0 (omega arith)) in
    let job-is : to_be_bytes w32 (from_be_bytes w32 (bytes_at packet 4 4)) ≡ bytes_at packet 4 4 =
    be_bytes_4 (bytes_at packet 4 4) (from_be_bytes w32 (bytes_at packet 4 4)) (length-bytes_at packet p 4 4 (lit≤ tt)) (bytes_at-bytes packet p 4 4) refl in
    same_fields tag-is (sym job-is)
    (sym (minute_back (bytes_at packet 32 8) (length-bytes_at packet p 32 8 (lit≤ tt)) (bytes_at-bytes packet p 32 8)))
    (sym (minute_back (bytes_at packet 40 8) (length-bytes_at packet p 40 8 (lit≤ tt)) (bytes_at-bytes packet p 40 8)))

pub numbers_in-fit : (packet : List ℕ) → IsPacket packet → FitEntryFields (numbers_in packet)
numbers_in-fit packet p =
    record {
      job = below_32 (bytes_at packet 4 4) (bytes_at-bytes packet p 4 4);
      at = minute_fits (bytes_at packet 32 8) (bytes_at-bytes packet p 32 8);
      now = minute_fits (bytes_at packet 40 8) (bytes_at-bytes packet p 40 8);
    }

-- ---- the bytes of the four fields are of one entry

job_from_bytes : (a b : ℕ) → a < 2 ^ 32 → b < 2 ^ 32 → to_be_bytes w32 a ≡ to_be_bytes w32 b → a ≡ b
job_from_bytes a b p q e =
    sym (from_be_bytes-to_be_bytes_4 a p) ∙ ap (from_be_bytes w32) e ∙ from_be_bytes-to_be_bytes_4 b q

pub unsigned_fits : (z : ℤ) → FitsSigned w64 z → cast_unsigned w64 z < 2 ^ 64
unsigned_fits (pos n) f = let small : n < 2 ^ 63 = f.sfits in omega arith
unsigned_fits (negsuc n) f = omega arith

minute_from_bytes : (a b : ℤ) → FitsSigned w64 a → FitsSigned w64 b → minute_bytes a ≡ minute_bytes b → a ≡ b
minute_from_bytes a b p q e =
    sym (to_z-of_z w64 a p)
    ∙ ap (cast_signed w64) (sym (from_be_bytes-to_be_bytes_8 (cast_unsigned w64 a) (unsigned_fits a p)) ∙ ap (from_be_bytes w64) e ∙ from_be_bytes-to_be_bytes_8 (cast_unsigned w64 b) (unsigned_fits b q))
    ∙ to_z-of_z w64 b q

pub same_numbers : {a e : ℕ} {b f : ℕ} {c g : ℤ} {d h : ℤ} → a ≡ e → b ≡ f → c ≡ g → d ≡ h → entry_numbers a b c d ≡ entry_numbers e f g h
same_numbers p q r s = cc

first_of : (a b : ℕ) → a ∷ [] ≡ b ∷ [] → a ≡ b
first_of a b e = cc

pub numbers_from_bytes : (m n : EntryNumbers) → FitEntryFields m → FitEntryFields n → bytes_of_numbers m ≡ bytes_of_numbers n → m ≡ n
numbers_from_bytes m n p q e =
    same_numbers (first_of m.tag n.tag (ap (λ (f : EntryFields). f.tag) e)) (job_from_bytes m.job n.job p.job q.job (ap (λ (f : EntryFields). f.job) e))
    (minute_from_bytes m.at n.at p.at q.at (ap (λ (f : EntryFields). f.at) e)) (minute_from_bytes m.now n.now p.now q.now (ap (λ (f : EntryFields). f.now) e))

-- ---- fields that are not used

zero_job : (packet : List ℕ) → IsPacket packet → (numbers_in packet).job ≡ 0 → field_of packet JobField ≡ replicate 4 0
zero_job packet p e = ap (λ (f : EntryFields). f.job) (entry_fields-numbers_in packet p) ∙ ap (to_be_bytes w32) e

job_zero : (packet : List ℕ) → IsPacket packet → field_of packet JobField ≡ replicate 4 0 → (numbers_in packet).job ≡ 0
job_zero packet p e = ap (from_be_bytes w32) e

zero_at : (packet : List ℕ) → IsPacket packet → (numbers_in packet).at ≡ pos 0 → field_of packet AtField ≡ replicate 8 0
zero_at packet p e = ap (λ (f : EntryFields). f.at) (entry_fields-numbers_in packet p) ∙ ap minute_bytes e

at_zero : (packet : List ℕ) → IsPacket packet → field_of packet AtField ≡ replicate 8 0 → (numbers_in packet).at ≡ pos 0
at_zero packet p e = ap (λ (bytes : List ℕ). cast_signed w64 (from_be_bytes w64 bytes)) e

zero_now : (packet : List ℕ) → IsPacket packet → (numbers_in packet).now ≡ pos 0 → field_of packet NowField ≡ replicate 8 0
zero_now packet p e = ap (λ (f : EntryFields). f.now) (entry_fields-numbers_in packet p) ∙ ap minute_bytes e

now_zero : (packet : List ℕ) → IsPacket packet → field_of packet NowField ≡ replicate 8 0 → (numbers_in packet).now ≡ pos 0
now_zero packet p e = ap (λ (bytes : List ℕ). cast_signed w64 (from_be_bytes w64 bytes)) e

-- a number that isn't used and isn't 0 is a field whose bytes aren't all 0
pub stray_bytes : (packet : List ℕ) → IsPacket packet → HasStrayNumbers (numbers_in packet) → HasStrayBytes packet
stray_bytes packet p stray =
    elim stray [
      | inl noop ↦ elim noop.1 [
        | inl job ↦ record { field = JobField; unused = noop.0; not_zero = λ e. job (job_zero packet p e) }
        | inr minutes ↦ elim minutes [
          | inl at ↦ record { field = AtField; unused = inl noop.0; not_zero = λ e. at (at_zero packet p e) }
          | inr now ↦ record { field = NowField; unused = inl noop.0; not_zero = λ e. now (now_zero packet p e) }
        ]
      ]
      | inr others ↦ elim others [
        | inl end ↦ record { field = NowField; unused = inr end.0; not_zero = λ e. end.1 (now_zero packet p e) }
        | inr table ↦ record { field = AtField; unused = inr table.0; not_zero = λ e. table.1 (at_zero packet p e) }
      ]
    ]

stray_at : (packet : List ℕ) → IsPacket packet → (field : Field) → LeavesUnused (tag_of packet) field → field_of packet field ≢ replicate (size_of field) 0 → HasStrayNumbers (numbers_in packet)
stray_at packet p JobField unused stray = inl (unused, inl (λ e. stray (zero_job packet p e)))
stray_at packet p AtField unused stray =
    elim unused [
      | inl noop ↦ inl (noop, inr (inl (λ e. stray (zero_at packet p e))))
      | inr table ↦ inr (inr (table, λ e. stray (zero_at packet p e)))
    ]
stray_at packet p NowField unused stray =
    elim unused [
      | inl noop ↦ inl (noop, inr (inr (λ e. stray (zero_now packet p e))))
      | inr end ↦ inr (inl (end, λ e. stray (zero_now packet p e)))
    ]
stray_at packet p KindField unused stray = absurd unused
stray_at packet p FromField unused stray = absurd unused
stray_at packet p TagField unused stray = absurd unused
stray_at packet p ZeroField unused stray = absurd unused
stray_at packet p BallotField unused stray = absurd unused
stray_at packet p SlotField unused stray = absurd unused
stray_at packet p OldField unused stray = absurd unused
stray_at packet p LastField unused stray = absurd unused

pub stray_numbers : (packet : List ℕ) → IsPacket packet → HasStrayBytes packet → HasStrayNumbers (numbers_in packet)
stray_numbers packet p stray = stray_at packet p stray.field stray.unused stray.not_zero
