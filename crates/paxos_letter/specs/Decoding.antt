-- What is read of a letter: its sender, and the packet that each 56 bytes are. Source: docs/WIRE.md.
use Rattle.std.specs.Prelude.{ℕ, List, map, ◌==◌, if◌then◌else◌}
use Rattle.std.specs.Bool.{then_some}
use Rattle.std.specs.List.{AllByRecursion}
use Rattle.paxos_base.specs.declared.entry.Entry.{Entry}
use Rattle.paxos_base.specs.declared.entry.Entry.TheVariants.{Noop, Start, End, Table}
use Rattle.paxos_base.specs.declared.entry.Kind.TheVariants.{Launch, Void}
use Rattle.paxos_base.specs.declared.rows.JobRow.{JobRow}
use Rattle.paxos_letter.specs.declared.fields.Fields.{Fields}
use Rattle.paxos_letter.specs.declared.packet.Packet.{Packet}
use Rattle.paxos_letter.specs.declared.packet.Packet.TheVariants.{Prepare, Promise, OldVote, Accept, Accepted, Nack, Known, AskFrom, Snap, SnapRow, Lead}
use Rattle.paxos_letter.specs.Fields.{fields_in}
use Rattle.paxos_letter.specs.Kinds.{prepare, promise, old_vote_kind, accept, accepted, nack, known, ask_from, snap, snap_row}
use Rattle.paxos_letter.specs.Rules.{has_cursor, is_open, has_last, KeepsRules}

-- the replica that a letter is from, and its packets
pub record LetterContents : Type 0 where
  pub from : ℕ
  pub packets : List Packet

-- the entry that the fields spell
abbrev pub entry_of : Fields → Entry
entry_of fields =
    if fields.tag == 0 then Noop
    else if fields.tag == 1 then Start fields.job fields.at fields.moment
    else if fields.tag == 2 then End fields.job fields.at Launch
    else if fields.tag == 3 then End fields.job fields.at Void
    else Table fields.job fields.moment

-- the row that the fields spell
abbrev pub row_of : Fields → JobRow
row_of fields =
    record {
      job = fields.job;
      cursor = then_some (has_cursor fields) fields.at;
      open_now = then_some (is_open fields) fields.moment;
      last = then_some (has_last fields) fields.last;
      launched = fields.ballot;
      voided = fields.old;
    }

-- the packet that the fields spell
unfoldable pub packet_of : Fields → Packet
packet_of fields =
    if fields.kind == prepare then Prepare fields.ballot fields.slot
    else if fields.kind == promise then Promise fields.ballot fields.slot fields.old
    else if fields.kind == old_vote_kind then OldVote fields.ballot fields.slot fields.old (entry_of fields)
    else if fields.kind == accept then Accept fields.ballot fields.slot (entry_of fields)
    else if fields.kind == accepted then Accepted fields.ballot fields.slot
    else if fields.kind == nack then Nack fields.ballot fields.old
    else if fields.kind == known then Known fields.slot (entry_of fields)
    else if fields.kind == ask_from then AskFrom fields.slot
    else if fields.kind == snap then Snap fields.slot fields.old
    else if fields.kind == snap_row then SnapRow fields.slot (row_of fields)
    else Lead fields.ballot fields.slot

-- the packets that pieces of 56 bytes are
abbrev pub packets_in : List (List ℕ) → List Packet
packets_in pieces = map packet_of (map fields_in pieces)

-- each of the pieces keeps the rules of a packet of one of seven members
abbrev pub AllKeepRules : List (List ℕ) → Type 0
AllKeepRules pieces = AllByRecursion (λ fields. KeepsRules 7 fields.from fields) (map fields_in pieces)
