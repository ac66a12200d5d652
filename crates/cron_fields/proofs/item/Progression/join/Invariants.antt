use Rattle.std.proofs.Common.{◌+◌, ◌-◌}
use Rattle.cron_fields.specs.Base.{steps_of}
use Rattle.cron_fields.proofs.JoinLemmas.{Joining}
use Rattle.cron_fields.proofs.item.Progression.join.Given as goal

abbrev pub invariant-loop-number : goal.invariant-loop-number
invariant-loop-number l = Joining l.kind l.fn.bits (steps_of l.self) l.bits l.number

abbrev pub decreases-loop-number : goal.decreases-loop-number
decreases-loop-number l = l.high + 1 - l.number
