use Rattle.std.proofs.Common.{arith}
use Rattle.zone_minutes.proofs.StampLemmas.{stamp_with_marks}
use Rattle.zone_minutes.proofs.stamp.with_marks.Goals as goal

pub returns-in-len14-clause-stamp : goal.returns-in-len14-clause-stamp
returns-in-len14-clause-stamp c = stamp_with_marks c.args.basic.now (omega (arith, c.in-len14.len_below, c.in-len14.len_at_least))
