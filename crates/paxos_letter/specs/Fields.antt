-- The fields of a packet as numbers, and as its 56 bytes. Source: docs/WIRE.md.
use Rattle.std.specs.Prelude.{ℕ, ℤ, pos, ◌/◌, ◌<◌, ◌^◌, List, [], ◌∷◌, length, map, slice_index, FitsSigned}
use Rattle.std.specs.Int.{w32, w64, to_be_bytes, from_be_bytes, cast_signed}
use Rattle.std.specs.List.{flat_map}
use Rattle.std.specs.Simd.{first_chunks}
use Rattle.paxos_base.specs.Packet.{Field, KindField, FromField, TagField, ZeroField, JobField, BallotField, SlotField, OldField, AtField, NowField, LastField, all_fields, offset_of, field_of, minute_bytes}
use Rattle.paxos_letter.specs.declared.fields.Fields.{Fields}

-- the fields of a packet that has nothing but a kind and a sender
abbrev pub blank : ℕ → ℕ → Fields
blank kind from =
    record {
      kind = kind;
      from = from;
      tag = 0;
      zero = 0;
      job = 0;
      ballot = 0;
      slot = 0;
      old = 0;
      at = pos 0;
      moment = pos 0;
      last = pos 0;
    }

-- the bytes of a field: a number is big endian, and a minute is two's complement too
abbrev pub field_bytes : Fields → Field → List ℕ
field_bytes fields KindField = fields.kind ∷ []
field_bytes fields FromField = fields.from ∷ []
field_bytes fields TagField = fields.tag ∷ []
field_bytes fields ZeroField = fields.zero ∷ []
field_bytes fields JobField = to_be_bytes w32 fields.job
field_bytes fields BallotField = to_be_bytes w64 fields.ballot
field_bytes fields SlotField = to_be_bytes w64 fields.slot
field_bytes fields OldField = to_be_bytes w64 fields.old
field_bytes fields AtField = minute_bytes fields.at
field_bytes fields NowField = minute_bytes fields.moment
field_bytes fields LastField = minute_bytes fields.last

-- a packet: its fields one after another
abbrev pub bytes_of : Fields → List ℕ
bytes_of fields = flat_map (field_bytes fields) all_fields

-- the number of a field of one byte
abbrev pub byte_in : List ℕ → Field → ℕ
byte_in packet field = slice_index packet (offset_of field)

-- the number of a field of eight bytes
abbrev pub number_in : List ℕ → Field → ℕ
number_in packet field = from_be_bytes w64 (field_of packet field)

-- the minute of a field of eight bytes
abbrev pub minute_in : List ℕ → Field → ℤ
minute_in packet field = cast_signed w64 (number_in packet field)

-- the numbers that are in a packet's fields
abbrev pub fields_in : List ℕ → Fields
fields_in packet =
    record {
      kind = byte_in packet KindField;
      from = byte_in packet FromField;
      tag = byte_in packet TagField;
      zero = byte_in packet ZeroField;
      job = from_be_bytes w32 (field_of packet JobField);
      ballot = number_in packet BallotField;
      slot = number_in packet SlotField;
      old = number_in packet OldField;
      at = minute_in packet AtField;
      moment = minute_in packet NowField;
      last = minute_in packet LastField;
    }

-- the fields of each packet of a letter
abbrev pub all_in : List ℕ → List Fields
all_in bytes = map fields_in (first_chunks 56 (length bytes / 56) bytes)

-- the numbers fit their fields, as those of every packet of the program do
pub record FitPacketFields (fields : Fields) : Type 0 where
  pub kind : fields.kind < 256
  pub from : fields.from < 256
  pub tag : fields.tag < 256
  pub zero : fields.zero < 256
  pub job : fields.job < 2 ^ 32
  pub ballot : fields.ballot < 2 ^ 64
  pub slot : fields.slot < 2 ^ 64
  pub old : fields.old < 2 ^ 64
  pub at : FitsSigned w64 fields.at
  pub moment : FitsSigned w64 fields.moment
  pub last : FitsSigned w64 fields.last
