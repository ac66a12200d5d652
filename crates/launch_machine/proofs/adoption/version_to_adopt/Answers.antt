use Rattle.std.proofs.Common.{FitsSigned, w64, arith}
use Rattle.std.proofs.lemmas.Int.{ints, to_z-of_z}
use Rattle.launch_machine.specs.Clerk.{NoStart, TakesTable}
use Rattle.launch_machine.proofs.adoption.version_to_adopt.Goals as goal

pub returns-then-has_come-clause-found : goal.returns-then-has_come-clause-found
returns-then-has_come-clause-found c =
    let now_fits : FitsSigned w64 c.args.now.0 = omega (arith, ints) in
    let come : NoStart c.args.table.now c.args.rows.now c.args.now.0 → TakesTable c.args.table.now c.args.rows.now c.in_ok-version.version c.args.now.0 =
    simp to_z-of_z at (c.has_come.ensures.comes c.if-has_come.true) in
    come c.requires.none
