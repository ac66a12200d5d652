use Rattle.std.proofs.Common.{◌≡◌, ◌<◌, ◌≤ℤ◌, suc, FitsSigned, w64, ap, subst, arith}
use Rattle.std.proofs.lemmas.Int.{ints, to_z-of_z}
use Rattle.due_set.specs.Table.{version_from}
use Rattle.launch_machine.specs.Clerk.{AreEndedBy, IsBy}
use Rattle.launch_machine.specs.declared.force.InForce.{InForce}
use Rattle.launch_machine.proofs.EndedLemmas.{next_says}
use Rattle.launch_machine.proofs.adoption.has_come.Goals as goal

pub returns-clause-comes : goal.returns-clause-comes
returns-clause-comes c = λ h none.
    let now_fits : FitsSigned w64 c.args.now = c.ranges.now in
    let next = next_says c.args.table.now c.args.rows.now c.args.version c.requires.next in
    let come : version_from c.args.table.now c.args.version ≤ℤ c.args.now = omega (arith, ints, c.version_from.ensures.from, c.if-version_from-now.false) in
    let by : IsBy c.args.now c.in_force-since.result.since = simp to_z-of_z at (c.is_by.ensures.0 c.if-not-is_by.false) in
    let ended : AreEndedBy c.args.table.now c.args.rows.now c.args.now = simp to_z-of_z at (c.are_ended_by.ensures.0 h) in
    record {
      own = omega (arith, c.requires.stands.numbered.count);
      next = next.0;
      known = next.1;
      come = come;
      since = subst (λ (f : InForce). IsBy c.args.now f.since) c.in_force-since.ensures.force by;
      ended = ended;
      no_start = none;
    }
