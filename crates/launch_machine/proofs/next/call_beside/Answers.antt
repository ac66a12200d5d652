use Rattle.std.proofs.Common.{◌≡◌, Some, sym, ◌∙◌, FitsSigned, w64, ◌≤ℤ◌, subst, arith}
use Rattle.std.proofs.lemmas.Int.{ints, to_z-of_z}
use Rattle.launch_machine.proofs.MachineLemmas.{come_by_instant}
use Rattle.launch_machine.proofs.next.call_beside.Goals as goal

pub returns-else-is_anacron : goal.returns-else-is_anacron
returns-else-is_anacron c = λ force at now since spec zone below inside is_open is_cursor is_in come.
    let both : Some at ≡ Some c.in_ok-at.at = sym is_cursor ∙ c.in_ok-at.was in
    let same : at ≡ c.in_ok-at.at = cc in
    let fits : FitsSigned w64 c.in_ok-at.at = omega (arith, ints) in
    let le : at ≤ℤ now =
    come_by_instant c.args.table.now force.version c.args.job spec zone at now c.is_anacron.ensures.sound (sym c.is_anacron.ensures.by_name ∙ c.if-is_anacron.false) is_in come in
    simp to_z-of_z (subst (λ t. t ≤ℤ now) same le)
