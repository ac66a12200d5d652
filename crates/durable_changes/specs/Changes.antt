-- What of a change has to be told, for it to follow what a replica keeps.
use Rattle.std.specs.Prelude.{ℕ, ◌<◌, ⊤}
use Rattle.paxos_base.specs.declared.rows.TableSize.{TableSize}
use Rattle.paxos_base.specs.Rows.{RowsStand}
use Rattle.paxos_base.specs.declared.durable.Delta.{Delta}
use Rattle.paxos_base.specs.declared.durable.Delta.TheVariants.{Tried, Promised, Voted, Base}
use Rattle.paxos_base.specs.declared.durable.Durable.{Durable}

-- a base is above the one before it, and has the rows of a table of that size; of any other change nothing is said
abbrev pub BaseMayFollow : TableSize → Durable → Delta → Type 0
BaseMayFollow size kept (Base slot rows) = (kept.base < slot) × RowsStand rows size
BaseMayFollow size kept (Tried ballot) = ⊤
BaseMayFollow size kept (Promised ballot) = ⊤
BaseMayFollow size kept (Voted vote) = ⊤
