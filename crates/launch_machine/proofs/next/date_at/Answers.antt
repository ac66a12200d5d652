use Rattle.std.proofs.Common.{FitsSigned, w64}
use Rattle.std.proofs.lemmas.Int.{to_z-of_z}
use Rattle.launch_machine.proofs.next.date_at.Goals as goal

pub returns-then-contains-clause-none : goal.returns-then-contains-clause-none
returns-then-contains-clause-none c =
    let now_fits : FitsSigned w64 c.args.now = c.ranges.now in
    simp to_z-of_z at c.anacron_open.ensures.none
