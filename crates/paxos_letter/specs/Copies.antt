-- A copy of the rows of the launch table. Source: docs/WIRE.md.
use Rattle.std.specs.Prelude.{ℕ, ◌<◌, ◌^◌, List, ◌∷◌, length, map, All}
use Rattle.paxos_base.specs.declared.rows.JobRow.{JobRow}
use Rattle.paxos_base.specs.Rows.{AreNumbered, OpenHaveCursors}
use Rattle.paxos_letter.specs.declared.packet.Packet.{Packet}
use Rattle.paxos_letter.specs.declared.packet.Packet.TheVariants.{Snap, SnapRow}
use Rattle.paxos_letter.specs.Letters.{IsLetter}

-- the packets of a copy of the rows below a slot
abbrev pub copy_of : ℕ → List JobRow → List Packet
copy_of slot rows = Snap slot (length rows) ∷ map (λ row. SnapRow slot row) rows

-- the row's counts have 32 bits
abbrev pub HasFewCounts : JobRow → Type 0
HasFewCounts row = (row.launched < 2 ^ 32) × (row.voided < 2 ^ 32)

-- Rows that are each at its job's number, each open one with a cursor, are a letter of a member.
abbrev pub CopiesAreLetters : Type 0
CopiesAreLetters =
    (members from slot count : ℕ) (rows : List JobRow) → from < members → AreNumbered rows count → OpenHaveCursors rows → All HasFewCounts rows
    → IsLetter members from (copy_of slot rows)
