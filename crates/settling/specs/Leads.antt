-- When one replica of a situation leads alone, and how a legal book drains.
use Rattle.std.specs.Prelude.{◌≡◌, ℕ, ℤ, List}
use Rattle.launch_machine.specs.Clerk.{table_size}
use Rattle.paxos_base.specs.declared.entry.Vote.{Vote}
use Rattle.due_set.specs.Table.{Table}
use Rattle.history.specs.Book.{Row}
use Rattle.synchronous_rounds.specs.Cluster.{Cluster}
use Rattle.synchronous_rounds.specs.Rounds.{Stage}
use Rattle.synchronous_rounds.specs.LedAlone.{Progress}
use Rattle.script_semantics.specs.Settling.{IsDrainRound}
use Rattle.script_semantics.specs.Situation.{Situation}
use Rattle.settling.specs.Rounds.{GoesOnWithin}
use Rattle.settling.specs.Stands.{StandsForCluster}

-- One replica of the situation leads alone: the others follow and have promised no higher ballot, and it is at a stage of what it does.
pub record LeadsAlone (members : ℕ) (table : Table) (leader : ℕ) (situation : Situation) : Type 0 where
  pub cluster : Cluster
  pub best : List Vote
  pub at : Progress
  pub over : at.table ≡ table
  pub stands : StandsForCluster members (table_size table) situation cluster
  pub stage : Stage members leader best at cluster

-- The book is legal and goes on with a round of a drain: the replica stands for leader where it follows, and a round comes after that.
abbrev pub GoesDrainRound : ℕ → Table → (who : ℕ) → (at : ℤ) → (book rows : List Row) → (situation after : Situation) → Type 0
GoesDrainRound members table who at = GoesOnWithin (IsDrainRound members table who at) members table at
