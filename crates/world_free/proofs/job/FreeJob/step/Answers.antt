use Rattle.std.proofs.Common.{◌∙◌, refl}
use Rattle.world_free.specs.Plan.{FreePlan, plan_of}
use Rattle.world_free.proofs.Stepping.{beside, few_members, is_member, may_step, members_then, tried, was_told}
use Rattle.world_free.proofs.job.FreeJob.step.Goals as goal

pub next_cause-cause-requires-clause-small : goal.next_cause-cause-requires-clause-small
next_cause-cause-requires-clause-small g c = let runner = c.requires.may.2 in (runner.mail runner.some.begun runner.some.more runner.some.are).small

pub take_by_arm-requires : goal.take_by_arm-requires
take_by_arm-requires g c =
    let plan : FreePlan = plan_of c.args.table.now c.requires.may.0 c.requires.may.1 c.args.setting.now in
    record {
      me = is_member g.D.Disk.view plan c.requires.may.0 c.args.who c.args.turn c.args.self.now c.requires.may.2;
      few = few_members g.D.Disk.view plan c.requires.may.0 c.args.who c.args.turn c.args.self.now c.requires.may.2;
      may =
          may_step g.D.Disk.view plan c.requires.may.0 c.args.who c.args.turn c.args.self.now c.requires.may.2 c.next_cause-cause.result c.input_for-input.result
          (c.next_cause-cause.ensures.cause ∙ rw (c.window.ensures.window, c.term.ensures, c.replica.ensures) refl) c.input_for-input.ensures.told;
    }

pub returns : goal.returns
returns g c = record {
  steps = λ book situation runner.
      let plan : FreePlan = plan_of c.args.table.now book situation c.args.setting.now in
      let is = c.next_cause-cause.ensures.cause ∙ rw (c.window.ensures.window, c.term.ensures, c.replica.ensures) refl in
      let came = c.in_ok-ended.ensures.ended _ _
      (members_then g.D.Disk.view plan book c.args.who c.args.turn c.args.self.now runner)
      (beside g.D.Disk.view plan book c.args.who c.args.turn c.args.self.now runner)
      (was_told g.D.Disk.view plan book c.args.who c.args.turn c.args.self.now runner c.next_cause-cause.result c.input_for-input.result is c.input_for-input.ensures.told) in
      tried g.D.Disk.view plan book c.args.who c.args.turn c.args.self.now runner c.next_cause-cause.result c.in_ok-ended.ended _ is
      c.requires.left came.0 came.1 refl refl;
  seat = refl;
}
