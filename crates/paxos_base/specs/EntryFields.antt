-- An entry in a packet: it fills the fields tag, job, at and now. Source: docs/WIRE.md.
use Rattle.std.specs.Prelude.{◌≡◌, ◌≢◌, ◌⊎◌, ℕ, ◌<◌, ◌^◌, ℤ, pos, List, [], ◌∷◌, slice_index, replicate, ⊤, FitsSigned}
use Rattle.std.specs.Int.{w32, w64, to_be_bytes}
use Rattle.paxos_base.specs.Packet.{Field, TagField, JobField, AtField, NowField, offset_of, size_of, field_of, minute_bytes}
use Rattle.paxos_base.specs.declared.entry.Entry.{Entry}
use Rattle.paxos_base.specs.declared.entry.Entry.TheVariants.{Noop, Start, End, Table}
use Rattle.paxos_base.specs.declared.entry.Kind.TheVariants.{Launch, Void}

-- the numbers of an entry's four fields
pub record EntryNumbers : Type 0 where
  pub tag : ℕ
  pub job : ℕ
  pub at : ℤ
  pub now : ℤ

-- the numbers of an entry, by the order of its fields
abbrev pub entry_numbers : ℕ → ℕ → ℤ → ℤ → EntryNumbers
entry_numbers tag job at now = record { tag = tag; job = job; at = at; now = now }

-- what an entry puts into its four fields
abbrev pub numbers_of : Entry → EntryNumbers
numbers_of Noop = record { tag = 0; job = 0; at = pos 0; now = pos 0 }
numbers_of (Start job at now) = record { tag = 1; job = job; at = at; now = now }
numbers_of (End job at Launch) = record { tag = 2; job = job; at = at; now = pos 0 }
numbers_of (End job at Void) = record { tag = 3; job = job; at = at; now = pos 0 }
numbers_of (Table version now) = record { tag = 4; job = version; at = pos 0; now = now }

-- the numbers fit their fields, as those of every entry of the program do
pub record FitEntryFields (numbers : EntryNumbers) : Type 0 where
  pub job : numbers.job < 2 ^ 32
  pub at : FitsSigned w64 numbers.at
  pub now : FitsSigned w64 numbers.now

-- the bytes of an entry's four fields
pub record EntryFields : Type 0 where
  pub tag : List ℕ
  pub job : List ℕ
  pub at : List ℕ
  pub now : List ℕ

-- the numbers as the bytes of the four fields
abbrev pub bytes_of_numbers : EntryNumbers → EntryFields
bytes_of_numbers numbers =
    record {
      tag = numbers.tag ∷ [];
      job = to_be_bytes w32 numbers.job;
      at = minute_bytes numbers.at;
      now = minute_bytes numbers.now;
    }

-- the bytes that an entry puts into its four fields
abbrev pub entry_bytes : Entry → EntryFields
entry_bytes entry = bytes_of_numbers (numbers_of entry)

-- what a packet has in the four fields of an entry
abbrev pub entry_fields : List ℕ → EntryFields
entry_fields packet =
    record {
      tag = field_of packet TagField;
      job = field_of packet JobField;
      at = field_of packet AtField;
      now = field_of packet NowField;
    }

-- an entry fills the field
abbrev pub IsEntryField : Field → Type 0
IsEntryField TagField = ⊤
IsEntryField JobField = ⊤
IsEntryField AtField = ⊤
IsEntryField NowField = ⊤
IsEntryField _ = ⊥

-- a packet's tag
abbrev pub tag_of : List ℕ → ℕ
tag_of packet = slice_index packet (offset_of TagField)

-- An entry with this tag has no use for the field: a Noop for a job and minutes, an End for now, a Table for at.
abbrev pub LeavesUnused : ℕ → Field → Type 0
LeavesUnused tag JobField = tag ≡ 0
LeavesUnused tag AtField = (tag ≡ 0) ⊎ (tag ≡ 4)
LeavesUnused tag NowField = (tag ≡ 0) ⊎ ((tag ≡ 2) ⊎ (tag ≡ 3))
LeavesUnused tag _ = ⊥

-- a field that the packet's entry has no use for isn't 0
pub record HasStrayBytes (packet : List ℕ) : Type 0 where
  pub field : Field
  pub unused : LeavesUnused (tag_of packet) field
  pub not_zero : field_of packet field ≢ replicate (size_of field) 0

-- the same of the numbers of the four fields
abbrev pub HasStrayNumbers : EntryNumbers → Type 0
HasStrayNumbers numbers =
    ((numbers.tag ≡ 0) × ((numbers.job ≢ 0) ⊎ ((numbers.at ≢ pos 0) ⊎ (numbers.now ≢ pos 0))))
    ⊎ ((((numbers.tag ≡ 2) ⊎ (numbers.tag ≡ 3)) × (numbers.now ≢ pos 0))
    ⊎ ((numbers.tag ≡ 4) × (numbers.at ≢ pos 0)))
