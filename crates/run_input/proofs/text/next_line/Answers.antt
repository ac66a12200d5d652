use Rattle.std.proofs.Common.{◌<◌, length, arith}
use Rattle.std.proofs.lemmas.Bool.Decides.{nat_tests}
use Rattle.run_input.proofs.TextLemmas.{line_at, only_line}
use Rattle.run_input.proofs.text.next_line.Goals as goal

pub returns-in-Some-clause-line : goal.returns-in-Some-clause-line
returns-in-Some-clause-line c = line_at c.args.bytes.now c.in-Some.end c.in-Some.ensures.found

pub returns-in-None-2-clause-line : goal.returns-in-None-2-clause-line
returns-in-None-2-clause-line c =
    let some : 0 < length c.args.bytes.now = grind (arith, nat_tests) in
    only_line c.args.bytes.now some c.in-None.ensures.none
