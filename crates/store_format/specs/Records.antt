-- The records of an area, and the 56 bytes of each. Source: docs/WIRE.md.
use Rattle.std.specs.Prelude.{◌≡◌, ⊤, ℕ, List, [], ◌∷◌, slice_set, Option, None, Some}
use Rattle.std.specs.List.{last_or, filter_map}
use Rattle.paxos_base.specs.Packet.{KindField, offset_of}
use Rattle.paxos_base.specs.Rows.{OpenHasCursor}
use Rattle.paxos_letter.specs.declared.packet.Packet.{Packet}
use Rattle.paxos_letter.specs.declared.packet.Packet.TheVariants.{Prepare, Accept, Snap, SnapRow}
use Rattle.paxos_letter.specs.Letters.{SpellsPacket}
use Rattle.paxos_letter.specs.Spelling.{packet_bytes}
use Rattle.store_format.specs.declared.body.Record.{Record}
use Rattle.store_format.specs.declared.body.Record.TheVariants.{Tried, Promised, Voted, Base, Row}

-- the number of a record's kind
abbrev pub record_kind : Record → ℕ
record_kind (Tried ballot) = 1
record_kind (Promised ballot) = 2
record_kind (Voted vote) = 3
record_kind (Base slot count) = 4
record_kind (Row slot row) = 5

-- the packet that has the fields of a record
abbrev pub record_packet : Record → Packet
record_packet (Tried ballot) = Prepare ballot 0
record_packet (Promised ballot) = Prepare ballot 0
record_packet (Voted vote) = Accept vote.ballot vote.slot vote.entry
record_packet (Base slot count) = Snap slot count
record_packet (Row slot row) = SnapRow slot row

-- the bytes of a record: those of its packet, from 0, with the record's kind in place of the packet's
abbrev pub record_bytes : Record → List ℕ
record_bytes item = slice_set (packet_bytes 0 (record_packet item)) (offset_of KindField) (record_kind item)

-- The bytes are those of a record, whose packet is one from member 0 of seven.
pub record IsRecord (bytes : List ℕ) (item : Record) : Type 0 where
  pub packet : SpellsPacket 7 0 (record_packet item) (packet_bytes 0 (record_packet item))
  pub spelled : bytes ≡ record_bytes item

-- the bodies are those of the records, place by place
abbrev pub AreRecords : List (List ℕ) → List Record → Type 0
AreRecords [] [] = ⊤
AreRecords [] (item ∷ items) = ⊥
AreRecords (body ∷ bodies) [] = ⊥
AreRecords (body ∷ bodies) (item ∷ items) = IsRecord body item × AreRecords bodies items

-- a row with a launch that is open has a cursor
abbrev pub RowHasCursor : Record → Type 0
RowHasCursor (Row slot row) = OpenHasCursor row
RowHasCursor item = ⊤

-- the ballot that a record is about
abbrev pub record_ballot : Record → Option ℕ
record_ballot (Tried ballot) = Some ballot
record_ballot (Promised ballot) = Some ballot
record_ballot (Voted vote) = Some vote.ballot
record_ballot (Base slot count) = None
record_ballot (Row slot row) = None

-- the ballot of a Tried
abbrev pub tried_in : Record → Option ℕ
tried_in (Tried ballot) = Some ballot
tried_in item = None

-- the replica's own ballot: that of the last Tried
abbrev pub own_ballot : List Record → Option ℕ
own_ballot items = last_or None (filter_map tried_in items)
