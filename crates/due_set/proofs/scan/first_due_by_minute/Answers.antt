use Rattle.std.proofs.Common.{◌≡◌, pos, to_z, of_z, w64, arith}
use Rattle.std.proofs.lemmas.Int.{ints}
use Rattle.due_set.proofs.TableLemmas.{IsNotDueIn-next}
use Rattle.due_set.proofs.scan.first_due_by_minute.Goals as goal

pub loop-minute-preserved : goal.loop-minute-preserved
loop-minute-preserved c =
    let at_is : to_z w64 (of_z w64 c.from.result) ≡ pos c.loop-minute.minute = omega (arith, ints) in
    IsNotDueIn-next c.args.fields.now c.args.zone.now.source (pos c.args.first) _ c.loop-minute.minute c.loop-minute.invariant at_is
    (λ due. let found = c.is_due.ensures.1 due in let not = c.if-is_due.false in cc (found, not))
