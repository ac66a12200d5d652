-- The calls that save a change, and whether a stop within them keeps it, by the two numbers with which a disk is armed to stop: how
-- many calls it lets pass, and the number of the image that the stop leaves.
use Rattle.std.specs.Prelude.{ℕ, ◌+◌, ◌/◌, ◌%◌, ◌==◌, nat_le, Bool, ◌&&◌, ◌||◌}
use Rattle.paxos_base.specs.declared.durable.Delta.{Delta}
use Rattle.paxos_base.specs.declared.durable.Delta.TheVariants.{Tried, Promised, Voted, Base}

-- The calls of a save before those that write and sync the one byte which makes its change hold: the gate's byte of a record,
-- or the chooser's for a base.
abbrev pub calls_before : Delta → ℕ
calls_before (Tried ballot) = 2
calls_before (Promised ballot) = 2
calls_before (Voted vote) = 2
calls_before (Base slot rows) = 3

-- how many calls save a change
abbrev pub calls_of_delta : Delta → ℕ
calls_of_delta change = calls_before change + 2

-- The byte that makes a change hold shows the state after it: an open gate, or a chooser whose low bit selects the other area. The
-- area in use follows from how many bases were kept before, since each goes to the other area, and the first area is selected by 0.
abbrev pub is_byte_after : (bases : ℕ) → Delta → (byte : ℕ) → Bool
is_byte_after bases (Tried ballot) byte = byte == 1
is_byte_after bases (Promised ballot) byte = byte == 1
is_byte_after bases (Voted vote) byte = byte == 1
is_byte_after bases (Base slot rows) byte = byte % 2 == (bases + 1) % 2

-- The image of a number shows a byte that was written and not synced: it is the image with that write done, or the one with a
-- byte in its place that passes the test.
abbrev pub is_shown : (ℕ → Bool) → (image : ℕ) → Bool
is_shown test image = (image % 3 == 1) || ((image % 3 == 2) && test (image / 3 % 256))

-- A disk that stops within the save of a change, when so many calls had been left, keeps it: the stop comes within the last two
-- calls, and its image shows the byte of the state after the change.
abbrev pub is_kept : (bases : ℕ) → Delta → (left image : ℕ) → Bool
is_kept bases change left image = nat_le (calls_before change) left && is_shown (is_byte_after bases change) image

-- how many bases were kept, after one more change that is kept
abbrev pub bases_after : Delta → ℕ → ℕ
bases_after (Tried ballot) bases = bases
bases_after (Promised ballot) bases = bases
bases_after (Voted vote) bases = bases
bases_after (Base slot rows) bases = bases + 1
