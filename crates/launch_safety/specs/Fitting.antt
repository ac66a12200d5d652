-- That the log of a book and the rows that its scheduler holds fit together.
use Rattle.std.specs.Prelude.{ℕ, ◌≤◌, ⊤, List, length, take}
use Rattle.paxos_base.specs.declared.entry.Entry.{Entry}
use Rattle.paxos_base.specs.declared.entry.Entry.TheVariants.{Noop, Start, End, Table as TableEntry}
use Rattle.due_set.specs.Table.{Table}
use Rattle.cluster_sched.specs.declared.row.SchedRow.{SchedRow}
use Rattle.launch_machine.specs.Clerk.{first_rows}
use Rattle.launch_safety.specs.Fits.{Fits, TakesEffectAfter}
use Rattle.agreement.specs.Log.{IsLog}
use Rattle.history.specs.Book.{Row, standing_after, votes_in}

-- what the scheduler holds after a book
abbrev pub held_in : ℕ → Table → List Row → List SchedRow
held_in members table book = (standing_after members (first_rows table) book).held

-- the log of a book fits what the scheduler holds after it
abbrev pub FitsItsLog : ℕ → Table → List Row → Type 0
FitsItsLog members table book =
    (log : List Entry) → IsLog members (votes_in book) log → Fits table log (held_in members table book)

-- the log reaches up to the slot, and the entry takes effect on what the entries before the slot left; of a no-op nothing is asked
abbrev pub TakesEffectAt : Table → List Entry → (slot : ℕ) → Entry → Type 0
TakesEffectAt table log slot Noop = ⊤
TakesEffectAt table log slot (Start job at now) = (slot ≤ length log) × TakesEffectAfter table (take slot log) (Start job at now)
TakesEffectAt table log slot (End job at kind) = (slot ≤ length log) × TakesEffectAfter table (take slot log) (End job at kind)
TakesEffectAt table log slot (TableEntry version now) = (slot ≤ length log) × TakesEffectAfter table (take slot log) (TableEntry version now)
