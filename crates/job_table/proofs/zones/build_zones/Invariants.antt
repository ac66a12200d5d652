use Rattle.std.proofs.Common.{map, take}
use Rattle.run_text.specs.Run.{zone_of}
use Rattle.job_table.proofs.ZoneLemmas.{BuiltSoFar}
use Rattle.job_table.proofs.zones.build_zones.Given as goal

abbrev pub invariant-loop-zone : goal.invariant-loop-zone
invariant-loop-zone l = BuiltSoFar l.run.window (take l.zone-index (map zone_of l.run.zones.items)) l.zones.items
