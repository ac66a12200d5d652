use Rattle.std.proofs.Common.{◌≡◌, ◌-◌, ◌++◌, take}
use Rattle.std.specs.List.{flat_map}
use Rattle.step_spec.specs.Heard.{vote_in}
use Rattle.replica_core.proofs.lines.votes_of.Given as goal

abbrev pub invariant-loop : goal.invariant-loop
invariant-loop l = l.votes.items ++ flat_map vote_in (take (l.fn.count - l.counter) l.rest) ≡ flat_map vote_in (take l.fn.count l.fn.rest)
