-- What each packet puts into its fields, and the one spelling of a list of packets. Source: docs/WIRE.md.
use Rattle.std.specs.Prelude.{ℕ, ◌+◌, ℤ, pos, List, Option, is_some, unwrap_or, if◌then◌else◌}
use Rattle.std.specs.List.{flat_map, AllByRecursion}
use Rattle.paxos_base.specs.declared.rows.JobRow.{JobRow}
use Rattle.paxos_base.specs.EntryFields.{EntryNumbers, numbers_of}
use Rattle.paxos_letter.specs.declared.fields.Fields.{Fields}
use Rattle.paxos_letter.specs.declared.packet.Packet.{Packet}
use Rattle.paxos_letter.specs.declared.packet.Packet.TheVariants.{Prepare, Promise, OldVote, Accept, Accepted, Nack, Known, AskFrom, Snap, SnapRow, Lead}
use Rattle.paxos_letter.specs.Kinds.{prepare, promise, old_vote_kind, accept, accepted, nack, known, ask_from, snap, snap_row, lead}
use Rattle.paxos_letter.specs.Fields.{blank, bytes_of, FitPacketFields}

-- the fields of a packet that has nothing but a kind, a sender and an entry
abbrev pub with_entry : ℕ → ℕ → EntryNumbers → Fields
with_entry kind from entry =
    record (blank kind from) { tag = entry.tag; job = entry.job; at = entry.at; moment = entry.now }

-- A row's tag: bit 0 says that there is a cursor, bit 1 that the job is open, bit 2 that there is a last.
abbrev pub row_tag : JobRow → ℕ
row_tag row =
    (if is_some row.cursor then 1 else 0) + (if is_some row.open_now then 2 else 0) + (if is_some row.last then 4 else 0)

-- a value that is not there is 0
abbrev pub minute_or_zero : Option ℤ → ℤ
minute_or_zero minute = unwrap_or minute (pos 0)

-- The fields of a replica's packet. Those that a packet of its kind has no use for are 0.
abbrev pub fields_of : ℕ → Packet → Fields
fields_of from (Prepare ballot slot) = record (blank prepare from) { ballot = ballot; slot = slot }
fields_of from (Promise ballot slot count) = record (blank promise from) { ballot = ballot; slot = slot; old = count }
fields_of from (OldVote ballot slot cast entry) =
    record (with_entry old_vote_kind from (numbers_of entry)) { ballot = ballot; slot = slot; old = cast }
fields_of from (Accept ballot slot entry) =
    record (with_entry accept from (numbers_of entry)) { ballot = ballot; slot = slot }
fields_of from (Accepted ballot slot) = record (blank accepted from) { ballot = ballot; slot = slot }
fields_of from (Nack ballot promised) = record (blank nack from) { ballot = ballot; old = promised }
fields_of from (Known slot entry) = record (with_entry known from (numbers_of entry)) { slot = slot }
fields_of from (AskFrom slot) = record (blank ask_from from) { slot = slot }
fields_of from (Snap slot count) = record (blank snap from) { slot = slot; old = count }
fields_of from (SnapRow slot row) =
    record (blank snap_row from) {
      tag = row_tag row;
      job = row.job;
      ballot = row.launched;
      slot = slot;
      old = row.voided;
      at = minute_or_zero row.cursor;
      moment = minute_or_zero row.open_now;
      last = minute_or_zero row.last;
    }
fields_of from (Lead ballot slot) = record (blank lead from) { ballot = ballot; slot = slot }

-- the 56 bytes of a replica's packet
abbrev pub packet_bytes : ℕ → Packet → List ℕ
packet_bytes from packet = bytes_of (fields_of from packet)

-- the spelling of a replica's packets, one after another
abbrev pub spelling : ℕ → List Packet → List ℕ
spelling from packets = flat_map (packet_bytes from) packets

-- the numbers of each packet fit their fields, as those of every packet of the program do
abbrev pub AllFit : ℕ → List Packet → Type 0
AllFit from packets = AllByRecursion (λ packet. FitPacketFields (fields_of from packet)) packets
