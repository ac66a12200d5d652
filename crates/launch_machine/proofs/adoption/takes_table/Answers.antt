use Rattle.std.proofs.Common.{◌≡◌, ◌↔◌, IsTrue, FitsSigned, w64, arith}
use Rattle.std.specs.Prelude.{IfNone, IfSome}
use Rattle.std.proofs.lemmas.Int.{to_z-of_z}
use Rattle.launch_machine.specs.Clerk.{NoStart, TakesTable}
use Rattle.launch_machine.specs.Intent.{IsFirstStart}
use Rattle.launch_machine.proofs.EndedLemmas.{next_is, none_found}
use Rattle.launch_machine.proofs.adoption.takes_table.Goals as goal

pub returns : goal.returns
returns c =
    let table = c.args.table.now in
    let rows = c.args.rows.now in
    let now_fits : FitsSigned w64 c.args.now = c.ranges.now in
    let found : IfSome c.first_start.result (λ first. IsFirstStart table rows c.args.now first.0 first.1) = simp to_z-of_z at c.first_start.ensures.found in
    let none : IfNone c.first_start.result (NoStart table rows c.args.now) = simp to_z-of_z at c.first_start.ensures.none in
    let tells : IsTrue c.is_none.result ↔ NoStart table rows c.args.now =
    none_found table rows c.args.now c.first_start.result c.is_none.result c.is_none.ensures found none in
    let come : NoStart table rows c.args.now → TakesTable table rows c.args.version c.args.now = simp to_z-of_z at (c.has_come.ensures.comes c.if-not-has_come.false) in (
      λ h. come (tells.0 h),
      λ takes. tells.1 takes.no_start,
    )
