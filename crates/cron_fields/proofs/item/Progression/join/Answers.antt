use Rattle.std.proofs.Common.{◌<◌, arith}
use Rattle.cron_fields.specs.FieldSet.{value_of}
use Rattle.cron_fields.specs.Base.{steps_of}
use Rattle.cron_fields.proofs.JoinLemmas.{Joining-none, Joining-next, Joins-done}
use Rattle.cron_fields.proofs.item.Progression.join.Goals as goal

pub loop-number-init : goal.loop-number-init
loop-number-init c = Joining-none c.args.kind c.args.bits (steps_of c.args.self.now)

pub loop-number-preserved : goal.loop-number-preserved
loop-number-preserved c =
    let small : value_of c.args.kind c.loop-number.number < 64 = omega arith in
    rw c.value_of.ensures.value (Joining-next c.args.kind c.args.bits (steps_of c.args.self.now) _ c.loop-number.number (omega arith) small c.loop-number.invariant)

pub returns : goal.returns
returns c =
    Joins-done c.args.kind c.args.bits (steps_of c.args.self.now) _ c.loop-number.number c.requires.step (omega arith) c.loop-number.invariant
