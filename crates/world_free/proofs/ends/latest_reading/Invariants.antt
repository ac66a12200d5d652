use Rattle.std.proofs.Common.{◌≡◌, drop}
use Rattle.world_free.specs.Ends.{latest_by}
use Rattle.world_free.proofs.ends.latest_reading.Given as goal

abbrev pub invariant-turns : goal.invariant-turns
invariant-turns l = latest_by l.reading.0 (drop l.number l.turns) ≡ latest_by l.fn.latest.0 (drop l.first l.turns)
