-- The layout of a packet: 56 bytes in eleven fields, one after another, with numbers big endian. Source: docs/WIRE.md.
use Rattle.std.specs.Prelude.{ℕ, ◌+◌, ℤ, List, [], ◌∷◌, ◌++◌, length, take, drop}
use Rattle.std.specs.Int.{w64, to_be_bytes, cast_unsigned}

-- the fields of a packet
pub data Field : Type 0 where
  KindField : Field
  FromField : Field
  TagField : Field
  ZeroField : Field
  JobField : Field
  BallotField : Field
  SlotField : Field
  OldField : Field
  AtField : Field
  NowField : Field
  LastField : Field

-- the fields in the order that they stand in
abbrev pub all_fields : List Field
all_fields = KindField ∷ FromField ∷ TagField ∷ ZeroField ∷ JobField ∷ BallotField ∷ SlotField ∷ OldField ∷ AtField ∷ NowField ∷ LastField ∷ []

-- where a field begins
abbrev pub offset_of : Field → ℕ
offset_of KindField = 0
offset_of FromField = 1
offset_of TagField = 2
offset_of ZeroField = 3
offset_of JobField = 4
offset_of BallotField = 8
offset_of SlotField = 16
offset_of OldField = 24
offset_of AtField = 32
offset_of NowField = 40
offset_of LastField = 48

-- how many bytes a field has
abbrev pub size_of : Field → ℕ
size_of KindField = 1
size_of FromField = 1
size_of TagField = 1
size_of ZeroField = 1
size_of JobField = 4
size_of BallotField = 8
size_of SlotField = 8
size_of OldField = 8
size_of AtField = 8
size_of NowField = 8
size_of LastField = 8

-- so many bytes from an offset on
abbrev pub bytes_at : List ℕ → ℕ → ℕ → List ℕ
bytes_at bytes offset size = take size (drop offset bytes)

-- the bytes of a packet's field
abbrev pub field_of : List ℕ → Field → List ℕ
field_of packet field = bytes_at packet (offset_of field) (size_of field)

-- the bytes with others in place of those from an offset on
abbrev pub with_bytes : List ℕ → ℕ → List ℕ → List ℕ
with_bytes bytes offset part = take offset bytes ++ (part ++ drop (offset + length part) bytes)

-- the field of a minute: eight bytes, two's complement
abbrev pub minute_bytes : ℤ → List ℕ
minute_bytes minute = to_be_bytes w64 (cast_unsigned w64 minute)
