-- Which calls of its disk each call of a store makes.
use Rattle.std.specs.Prelude.{◌≡◌, ◌⊎◌, ℕ, Option, None, Some, List, [], ◌∷◌, ◌++◌, length, map}
use Rattle.paxos_base.specs.declared.rows.TableSize.{TableSize}
use Rattle.disk_model.specs.declared.fault.FileNo.{FileNo}
use Rattle.disk_model.specs.declared.fault.FileNo.TheVariants.{Chooser}
use Rattle.disk_model.specs.Images.{Image, file_of}
use Rattle.disk_model.specs.Made.{DiskCall, SyncOf, synced_write}
use Rattle.gate_file.specs.Made.{append_calls, close_calls, read_calls, rewrite_calls}
use Rattle.paxos_base.specs.declared.durable.Delta.{Delta}
use Rattle.paxos_base.specs.declared.durable.Delta.TheVariants.{Tried, Promised, Voted, Base}
use Rattle.paxos_base.specs.declared.durable.Durable.{Durable}
use Rattle.store_format.specs.declared.body.Record.{Record}
use Rattle.store_format.specs.Area.{BeginsInFormat1, StandFor, base_records}
use Rattle.store_format.specs.Order.{delta_record}
use Rattle.store_format.specs.Records.{record_bytes}
use Rattle.replica_store.specs.Files.{selected, bit_of, other_area}

-- a sync of the chooser, and one of the area that it selects
abbrev pub look_calls : Image → List DiskCall
look_calls image = SyncOf Chooser ∷ read_calls (selected image)

-- and a closed gate after so many records, where none stands there
abbrev pub attach_calls : Image → ℕ → List DiskCall
attach_calls image count = look_calls image ++ close_calls (selected image) (file_of (selected image) image) count

-- the chooser's byte for an area
abbrev pub choose_calls : FileNo → List DiskCall
choose_calls area = synced_write Chooser 0 (bit_of area ∷ [])

-- a record after so many others
abbrev pub record_calls : FileNo → ℕ → Option Record → List DiskCall
record_calls area count None = []
record_calls area count (Some item) = append_calls area count (record_bytes item)

-- An area has so many records, which stand for what is kept and the replica's own ballot. A change adds its record there; for
-- a base the other area is written anew with the records of the base, and then the chooser.
abbrev pub save_calls : FileNo → ℕ → Durable → Option ℕ → Delta → List DiskCall
save_calls area count kept own (Tried ballot) = record_calls area count (delta_record (Tried ballot))
save_calls area count kept own (Promised ballot) = record_calls area count (delta_record (Promised ballot))
save_calls area count kept own (Voted vote) = record_calls area count (delta_record (Voted vote))
save_calls area count kept own (Base slot rows) =
    rewrite_calls (other_area area) (map record_bytes (base_records kept own slot rows)) ++ choose_calls (other_area area)

-- An attach of an area with these records makes these calls: those above, and where the records begin with a base of format 1
-- also those that save a base of what they stand for.
abbrev pub AreAttachCalls : TableSize → Image → List (List ℕ) → List DiskCall → Type 0
AreAttachCalls size image records calls =
    (calls ≡ attach_calls image (length records))
    ⊎ (BeginsInFormat1 size records × ((kept : Durable) × (own : Option ℕ) × StandFor size records kept own
    × (calls ≡ attach_calls image (length records) ++ save_calls (selected image) (length records) kept own (Base kept.base kept.rows))))

-- the area that has the records after a change
abbrev pub area_after : Delta → FileNo → FileNo
area_after (Tried ballot) area = area
area_after (Promised ballot) area = area
area_after (Voted vote) area = area
area_after (Base slot rows) area = other_area area
