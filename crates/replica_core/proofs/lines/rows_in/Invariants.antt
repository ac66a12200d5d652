use Rattle.std.proofs.Common.{◌≡◌, ◌-◌, ◌++◌, take}
use Rattle.std.specs.List.{flat_map}
use Rattle.step_spec.specs.Heard.{row_in}
use Rattle.replica_core.proofs.lines.rows_in.Given as goal

abbrev pub invariant-loop : goal.invariant-loop
invariant-loop l = l.items.items ++ flat_map row_in (take (l.fn.count - l.counter) l.rest) ≡ flat_map row_in (take l.fn.count l.fn.rest)
