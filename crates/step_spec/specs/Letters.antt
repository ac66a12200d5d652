-- The bytes of letters, and as what a replica hears them. Source: docs/WIRE.md; the bounds are this project's.
use Rattle.std.specs.Prelude.{◌≡◌, ℕ, ◌^◌, ◌==◌, ◌&&◌, nat_lt, Bool, true, List, [], ◌∷◌, length, if◌then◌else◌}
use Rattle.std.specs.List.{AllZip, flat_map}
use Rattle.paxos_base.specs.Rows.{row_count, fits_table}
use Rattle.paxos_base.specs.declared.rows.TableSize.{TableSize}
use Rattle.paxos_base.specs.Ballot.{round_of}
use Rattle.paxos_base.specs.declared.rows.JobRow.{JobRow}
use Rattle.paxos_letter.specs.Letters.{Spells}
use Rattle.paxos_letter.specs.declared.packet.Packet.{Packet}
use Rattle.paxos_letter.specs.declared.packet.Packet.TheVariants.{Prepare, Promise, OldVote, Accept, Accepted, Nack, Known, AskFrom, Snap, SnapRow, Lead}
use Rattle.step_spec.specs.Act.{Act}
use Rattle.step_spec.specs.Folds.{Addressed, letters_of}
use Rattle.step_spec.specs.Heard.{messages_of, packets_of}
use Rattle.step_spec.specs.Message.{Message}
use Rattle.step_spec.specs.State.{Identity}
use Rattle.step_spec.specs.declared.out.OutLetter.{OutLetter}

-- the ballot's round is below 2^59
abbrev pub is_small_ballot : ℕ → Bool
is_small_ballot ballot = nat_lt (round_of ballot) (2 ^ 59)

-- the slot is below 2^62
abbrev pub is_small_slot : ℕ → Bool
is_small_slot slot = nat_lt slot (2 ^ 62)

-- the row's counts are below 2^31
abbrev pub is_small_row : JobRow → Bool
is_small_row row = nat_lt row.launched (2 ^ 31) && nat_lt row.voided (2 ^ 31)

-- what the packet carries is within the bounds that a replica counts with; a copy of rows has as many as a table of this size,
-- and each fits that table
abbrev pub is_small : TableSize → Packet → Bool
is_small size (Prepare ballot slot) = is_small_ballot ballot && is_small_slot slot
is_small size (Promise ballot slot count) = is_small_ballot ballot && is_small_slot slot
is_small size (OldVote ballot slot cast entry) = is_small_ballot ballot && (is_small_slot slot && is_small_ballot cast)
is_small size (Accept ballot slot entry) = is_small_ballot ballot && is_small_slot slot
is_small size (Accepted ballot slot) = is_small_ballot ballot && is_small_slot slot
is_small size (Nack ballot promised) = is_small_ballot ballot && is_small_ballot promised
is_small size (Known slot entry) = is_small_slot slot
is_small size (AskFrom slot) = is_small_slot slot
is_small size (Snap slot count) = is_small_slot slot && (count == row_count size)
is_small size (SnapRow slot row) = is_small_slot slot && (is_small_row row && fits_table size row)
is_small size (Lead ballot slot) = is_small_ballot ballot && is_small_slot slot

-- each packet is
abbrev pub are_small : TableSize → List Packet → Bool
are_small size [] = true
are_small size (packet ∷ packets) = is_small size packet && are_small size packets

-- there are fewer than 2^31 packets, and each is within the bounds
abbrev pub is_small_letter : TableSize → List Packet → Bool
is_small_letter size packets = nat_lt (length packets) (2 ^ 31) && are_small size packets

-- Packets beyond the bounds are heard as none.
abbrev pub heard_in : TableSize → List Packet → List Message
heard_in size packets = if is_small_letter size packets then messages_of packets else []

-- the bytes are a letter of that member, and are heard as these messages
pub record IsHeardAs (members : ℕ) (size : TableSize) (bytes : List ℕ) (from : ℕ) (messages : List Message) : Type 0 where
  pub packets : List Packet
  pub spells : Spells members from packets bytes
  pub heard : messages ≡ heard_in size packets

-- the letter has the messages to its replica
pub record IsSpelled (members from : ℕ) (addressed : Addressed) (letter : OutLetter) : Type 0 where
  pub to : letter.to ≡ addressed.to
  pub spells : Spells members from (flat_map packets_of addressed.messages) letter.bytes

-- the letters are those of some acts
abbrev pub AreLettersOf : Identity → List Act → List OutLetter → Type 0
AreLettersOf self acts letters = AllZip (IsSpelled self.members self.me) (letters_of self acts) letters
