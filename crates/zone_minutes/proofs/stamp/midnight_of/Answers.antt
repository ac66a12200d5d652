use Rattle.std.proofs.Common.{arith}
use Rattle.zone_minutes.proofs.StampLemmas.{midnight_bytes}
use Rattle.zone_minutes.proofs.stamp.midnight_of.Goals as goal

pub returns-in-len10-clause-stamp : goal.returns-in-len10-clause-stamp
returns-in-len10-clause-stamp c = midnight_bytes c.args.date.now (omega (arith, c.in-len10.len_below, c.in-len10.len_at_least))
