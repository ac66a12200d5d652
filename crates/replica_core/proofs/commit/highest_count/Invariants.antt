use Rattle.std.proofs.Common.{◌≡◌, drop, max}
use Rattle.replica_core.specs.Counts.{highest_count}
use Rattle.replica_core.proofs.commit.highest_count.Given as goal

abbrev pub invariant-loop-row : goal.invariant-loop-row
invariant-loop-row l = highest_count l.rows ≡ max l.high (highest_count (drop l.row-index l.rows))
