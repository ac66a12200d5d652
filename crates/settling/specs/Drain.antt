-- What drain rounds come to, once one replica leads alone.
use Rattle.std.specs.Prelude.{ℕ, zero, suc, ◌<◌, List, ℤ}
use Rattle.paxos_base.specs.declared.rows.JobRow.{JobRow}
use Rattle.due_set.specs.Table.{Table}
use Rattle.step_spec.specs.Step.{IsLaunchTable}
use Rattle.history.specs.Book.{Row}
use Rattle.script_semantics.specs.Situation.{Situation}
use Rattle.settling.specs.Leads.{GoesDrainRound, LeadsAlone}
use Rattle.settling.specs.Idle.{IsIdleAt, left_of}

-- fewer rounds are left to the replica in the second situation than in the first, by its launch table in each
abbrev pub HasFewerLeft : Table → (who : ℕ) → (before after : Situation) → Type 0
HasFewerLeft table who before after =
    (old new : List JobRow) → IsLaunchTable table (before.standing.replicas who) old → IsLaunchTable table (after.standing.replicas who) new
    → left_of table new (after.standing.waits who) (after.standing.replicas who)
    < left_of table old (before.standing.waits who) (before.standing.replicas who)

-- **It leads alone, was idle at the instant so many drain rounds ago, and nothing else has come since.**
abbrev pub IsIdleFor : (rounds members : ℕ) → Table → (who : ℕ) → (at : ℤ) → Situation → Type 0
IsIdleFor zero members table who at situation = LeadsAlone members table who situation × IsIdleAt table who at situation
IsIdleFor (suc more) members table who at situation =
    (book : List Row) × (rows : List Row) × (before : Situation) × IsIdleFor more members table who at before
    × GoesDrainRound members table who at book rows before situation
