-- The log, and the launch tables that follow it.
use Rattle.std.specs.Prelude.{ℕ, ◌+◌, ◌<◌, ◌≤◌, ⊤, List, [], ◌∷◌, length, take}
use Rattle.paxos_base.specs.declared.entry.Entry.{Entry}
use Rattle.paxos_base.specs.declared.rows.JobRow.{JobRow}
use Rattle.due_set.specs.Table.{Table}
use Rattle.launch_machine.specs.Clerk.{IsClerkOf}
use Rattle.step_spec.specs.State.{State, prefix_of}
use Rattle.step_spec.specs.Step.{IsLaunchTable}
use Rattle.agreement.specs.Agree.{IsChosen}
use Rattle.agreement.specs.World.{CastVote, World}

-- each of the entries was chosen for its slot, from this one on
abbrev pub AreChosen : ℕ → List CastVote → (slot : ℕ) → List Entry → Type 0
AreChosen members cast slot [] = ⊤
AreChosen members cast slot (entry ∷ entries) = IsChosen members cast slot entry × AreChosen members cast (slot + 1) entries

-- The log: what is chosen from slot 0 on, up to the first slot for which nothing is chosen.
pub record IsLog (members : ℕ) (cast : List CastVote) (log : List Entry) : Type 0 where
  pub chosen : AreChosen members cast 0 log
  pub ends : (entry : Entry) → IsChosen members cast (length log) entry → ⊥

-- a replica's launch table is that of the entries of the log that it has learned
pub record FollowsLog (table : Table) (log : List Entry) (state : State) : Type 0 where
  pub short : prefix_of state ≤ length log
  pub table_is : (rows : List JobRow) → IsLaunchTable table state rows → IsClerkOf table (take (prefix_of state) log) rows

-- each replica follows each log of the world
abbrev pub AllFollow : ℕ → Table → World → Type 0
AllFollow members table world = (log : List Entry) → IsLog members world.cast log → (by : ℕ) → by < members → FollowsLog table log (world.replicas by)
