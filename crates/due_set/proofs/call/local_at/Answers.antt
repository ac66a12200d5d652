use Rattle.std.proofs.Common.{FitsSigned, w64, arith}
use Rattle.std.proofs.lemmas.Int.{ints, to_z-of_z}
use Rattle.due_set.proofs.DueLemmas.{IsLocal-is}
use Rattle.due_set.proofs.call.local_at.Goals as goal

pub returns-clause-local : goal.returns-clause-local
returns-clause-local c z read =
    let fits : FitsSigned w64 c.local.result = omega (arith, ints) in
    simp to_z-of_z (IsLocal-is c.args.zone.now.source z c.args.at.0 c.local.result read c.local.ensures.local)
