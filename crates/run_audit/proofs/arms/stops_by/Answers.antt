use Rattle.std.proofs.Common.{◌≡◌, ◌<◌, ◌≤◌, ◌↔◌, IsTrue, subst}
use Rattle.run_replay.specs.Replay.{armed_of}
use Rattle.run_audit.proofs.DiskLemmas.{enough_left, no_arm, no_change, too_few}
use Rattle.run_audit.proofs.arms.stops_by.Goals as goal

pub returns-in-None : goal.returns-in-None
returns-in-None c = λ bases same. no_arm c.args.setting.now.arm bases c.args.change.now c.args.kept c.in-None.is

pub returns-in-None-change : goal.returns-in-None-change
returns-in-None-change c = λ bases same. no_change (armed_of c.args.setting.now.arm) bases c.args.change.now c.args.kept c.in-None-change.is

pub returns-then-calls_to_save-arm : goal.returns-then-calls_to_save-arm
returns-then-calls_to_save-arm c = λ bases same.
    enough_left c.args.setting.now.arm c.in-Some.arm bases c.args.change.now c.in-Some-change.delta c.args.kept c.in-Some.is c.in-Some-change.is
    (subst (λ calls. calls ≤ c.in-Some.arm.left) c.calls_to_save.ensures c.if-calls_to_save-arm.true)

pub returns-else-calls_to_save-arm : goal.returns-else-calls_to_save-arm
returns-else-calls_to_save-arm c = λ bases same.
    too_few c.args.setting.now.arm c.in-Some.arm bases c.args.change.now c.in-Some-change.delta c.args.kept c.in-Some.is c.in-Some-change.is c.is_same.result
    (subst (λ calls. c.in-Some.arm.left < calls) c.calls_to_save.ensures c.if-calls_to_save-arm.false)
    (subst (λ keeps. IsTrue c.is_same.result ↔ (c.args.kept ≡ keeps)) (c.is_kept.ensures bases same) c.is_same.ensures)
