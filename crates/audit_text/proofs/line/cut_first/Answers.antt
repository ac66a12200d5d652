use Rattle.std.proofs.Common.{◌<◌, length, refl, inr, arith}
use Rattle.std.proofs.lemmas.Bool.Decides.{nat_tests}
use Rattle.audit_text.proofs.LineLemmas.{begins_at}
use Rattle.audit_text.proofs.line.cut_first.Goals as goal

pub returns-in-Some-clause-line : goal.returns-in-Some-clause-line
returns-in-Some-clause-line c = begins_at c.args.bytes.now c.in-Some.end c.in-Some.ensures.found

pub returns-in-None-2-clause-line : goal.returns-in-None-2-clause-line
returns-in-None-2-clause-line c =
    let some : 0 < length c.args.bytes.now = grind (arith, nat_tests) in
    record { one_line = c.in-None.ensures.none; split = inr (refl, some, refl) }
