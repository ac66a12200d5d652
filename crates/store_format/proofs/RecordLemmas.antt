-- Records and their bytes.
use Rattle.std.proofs.Common.{◌≡◌, ℕ, ◌<◌, ◌^◌, eqb, Option, Some, None, List, [], ◌∷◌, get_or, set, refl, sym, ap, ◌∙◌, subst, rules, lit<}
use Rattle.std.specs.Int.{w64}
use Rattle.std.specs.Prelude.{IfSome, FitsSigned, pos, if◌then◌else◌}
use Rattle.std.specs.List.{flat_map}
use Rattle.std.proofs.lemmas.List.{set-set, set-get_or}
use Rattle.paxos_base.specs.Packet.{FromField, TagField, ZeroField, JobField, BallotField, SlotField, OldField, AtField, NowField, LastField}
use Rattle.paxos_base.specs.Rows.{fresh_row}
use Rattle.paxos_letter.specs.declared.packet.Packet.{Packet}
use Rattle.paxos_letter.specs.declared.packet.Packet.TheVariants.{Prepare, Accept, Snap, SnapRow}
use Rattle.paxos_letter.specs.Fields.{field_bytes, fields_in}
use Rattle.paxos_letter.specs.Letters.{SpellsPacket}
use Rattle.paxos_letter.specs.Spelling.{fields_of, packet_bytes}
use Rattle.paxos_letter.proofs.CallerLemmas.{keeps_kind-packet, keeps_members-packet}
use Rattle.paxos_letter.proofs.PacketBack.{same_packets}
use Rattle.paxos_letter.proofs.SingleLemmas.{fields_again}
use Rattle.store_format.specs.declared.body.Record.{Record}
use Rattle.store_format.specs.declared.body.Record.TheVariants.{Tried, Promised, Voted, Base, Row}
use Rattle.store_format.specs.Records.{record_kind, record_packet, record_bytes, IsRecord}

-- the bytes of a packet behind its kind
abbrev rest_of : Packet → List ℕ
rest_of packet =
    flat_map (field_bytes (fields_of 0 packet)) (FromField ∷ TagField ∷ ZeroField ∷ JobField ∷ BallotField ∷ SlotField ∷ OldField ∷ AtField ∷ NowField ∷ LastField ∷ [])

packet_bytes-rest : (packet : Packet) → packet_bytes 0 packet ≡ (fields_of 0 packet).kind ∷ rest_of packet
packet_bytes-rest packet = refl

pub record_bytes-rest : (item : Record) → record_bytes item ≡ record_kind item ∷ rest_of (record_packet item)
record_bytes-rest item = refl

-- the kind of the packet with a record's fields
abbrev pub packet_kind_of : ℕ → ℕ
packet_kind_of kind = if eqb kind 1 then 1 else if eqb kind 2 then 1 else if eqb kind 3 then 4 else if eqb kind 4 then 9 else 10

pub packet_kind : (item : Record) → (fields_of 0 (record_packet item)).kind ≡ packet_kind_of (record_kind item)
packet_kind (Tried ballot) = refl
packet_kind (Promised ballot) = refl
packet_kind (Voted vote) = refl
packet_kind (Base slot count) = refl
packet_kind (Row slot row) = refl

-- the record of a kind and a packet
abbrev pub record_with : ℕ → Packet → Record
record_with kind (Prepare ballot slot) = if eqb kind 1 then Tried ballot else Promised ballot
record_with kind (Accept ballot slot entry) = Voted (record { slot = slot; ballot = ballot; entry = entry })
record_with kind (SnapRow slot row) = Row slot row
record_with kind (Snap slot count) = Base slot count
record_with kind packet = Base 0 0

pub record_back : (item : Record) → record_with (record_kind item) (record_packet item) ≡ item
record_back (Tried ballot) = refl
record_back (Promised ballot) = refl
record_back (Voted vote) = refl
record_back (Base slot count) = refl
record_back (Row slot row) = refl

pub IsRecord-kind : (bytes : List ℕ) (item : Record) → IsRecord bytes item → get_or bytes 0 0 ≡ record_kind item
IsRecord-kind bytes item is = ap (λ (bs : List ℕ). get_or bs 0 0) is.spelled

pub IsRecord-packet : (bytes : List ℕ) (item : Record) → IsRecord bytes item → packet_bytes 0 (record_packet item) ≡ set bytes 0 (packet_kind_of (get_or bytes 0 0))
IsRecord-packet bytes item is =
    let kind : packet_kind_of (get_or bytes 0 0) ≡ (fields_of 0 (record_packet item)).kind = ap packet_kind_of (IsRecord-kind bytes item is) ∙ sym (packet_kind item) in
    sym (ap (λ (k : ℕ). set bytes 0 k) kind ∙ ap (λ (bs : List ℕ). set bs 0 (fields_of 0 (record_packet item)).kind) is.spelled)

-- bytes are those of one record at most
pub IsRecord-same : (bytes : List ℕ) (one other : Record) → IsRecord bytes one → IsRecord bytes other → one ≡ other
IsRecord-same bytes one other a b =
    let kinds : record_kind one ≡ record_kind other = sym (IsRecord-kind bytes one a) ∙ IsRecord-kind bytes other b in
    let same : packet_bytes 0 (record_packet one) ≡ packet_bytes 0 (record_packet other) = IsRecord-packet bytes one a ∙ sym (IsRecord-packet bytes other b) in
    let fields : fields_of 0 (record_packet one) ≡ fields_of 0 (record_packet other) =
    sym (fields_again 7 0 (record_packet one) (packet_bytes 0 (record_packet one)) a.packet) ∙ ap fields_in same ∙ fields_again 7 0 (record_packet other) (packet_bytes 0 (record_packet other)) b.packet in
    let packets : record_packet one ∷ [] ≡ record_packet other ∷ [] = same_packets 0 0 (record_packet one ∷ []) (record_packet other ∷ []) (ap (λ f. f ∷ []) fields) in
    let packet : record_packet one ≡ record_packet other = cc packets in
    sym (record_back one) ∙ ap (λ (k : ℕ). record_with k (record_packet one)) kinds ∙ ap (record_with (record_kind other)) packet ∙ record_back other

-- what `record_in` reads
pub reads_record : (bytes : List ℕ) (kind : ℕ) (packet : Packet) (item : Record) → SpellsPacket 7 0 packet (set bytes 0 kind) → record_kind item ≡ get_or bytes 0 0 → record_packet item ≡ packet → IsRecord bytes item
reads_record bytes kind packet item spells kinds packets =
    let here : SpellsPacket 7 0 (record_packet item) (set bytes 0 kind) = subst (λ (p : Packet). SpellsPacket 7 0 p (set bytes 0 kind)) (sym packets) spells in
    record {
      packet = record { kind = here.kind; members_keep = here.members_keep; fits = here.fits; spelled = refl };
      spelled = sym (set-get_or bytes 0 0) ∙ sym (set-set bytes 0 kind (get_or bytes 0 0))
          ∙ ap (λ (bs : List ℕ). set bs 0 (get_or bytes 0 0)) here.spelled
          ∙ ap (λ (k : ℕ). set (packet_bytes 0 (record_packet item)) 0 k) (sym kinds);
    }

zero_fits : FitsSigned w64 (pos 0)
zero_fits = search rules

-- a fresh row may be a record
pub IsRecord-fresh : (slot job : ℕ) → slot < 2 ^ 64 → job < 2 ^ 32 → IsRecord (record_bytes (Row slot (fresh_row job))) (Row slot (fresh_row job))
IsRecord-fresh slot job slot_fits job_fits =
    record {
      packet = record {
        kind = keeps_kind-packet 0 (SnapRow slot (fresh_row job)) ((λ some. some), lit< tt, lit< tt);
        members_keep = keeps_members-packet 7 0 (SnapRow slot (fresh_row job)) (lit< tt) tt;
        fits = record {
          kind = lit< tt;
          from = lit< tt;
          tag = lit< tt;
          zero = lit< tt;
          job = job_fits;
          ballot = lit< tt;
          slot = slot_fits;
          old = lit< tt;
          at = zero_fits;
          moment = zero_fits;
          last = zero_fits;
        };
        spelled = refl;
      };
      spelled = refl;
    }

pub reads_option : (bytes : List ℕ) (kind : ℕ) (packet : Packet) (found : Option Record) → SpellsPacket 7 0 packet (set bytes 0 kind) → IfSome found (λ item. record_kind item ≡ get_or bytes 0 0) → IfSome found (λ item. record_packet item ≡ packet) → IfSome found (λ item. IsRecord bytes item)
reads_option bytes kind packet None spells kinds packets = tt
reads_option bytes kind packet (Some item) spells kinds packets = reads_record bytes kind packet item spells kinds packets
