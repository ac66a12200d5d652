use Rattle.std.proofs.Common.{refl, ◌∙◌, subst}
use Rattle.run_replay.proofs.TakeLemmas.{judged_member}
use Rattle.run_replay.specs.Tasks.{task_of}
use Rattle.run_audit.proofs.ByArmsLemmas.{arm_taken, arm_unwanted}
use Rattle.run_audit.specs.Coming.{Comes}
use Rattle.run_audit.proofs.arms.play_task_by_arm.Goals as goal

pub returns-in-Refused-clause-stops : goal.returns-in-Refused-clause-stops
returns-in-Refused-clause-stops c = λ rows situation is.
    let none =
    subst (Comes c.args.table.now c.args.replay.now c.judge_next.new.replay c.args.rest.now c.read-next.new.self) c.in-Refused.is (c.in_ok-why.ensures c.args.rest.now c.read-next.new.self c.read-next.ensures.reads)
    rows situation is in
    record { line_is = refl; reason = none.reason; none = λ row goes wanted. none.none row goes }

pub is_turn_by_arm-requires : goal.is_turn_by_arm-requires
is_turn_by_arm-requires c =
    let ready = c.requires.ready in
    let comes =
    subst (Comes c.args.table.now c.args.replay.now c.judge_next.new.replay c.args.rest.now c.read-next.new.self) c.in-Turn.is (c.in_ok-why.ensures c.args.rest.now c.read-next.new.self c.read-next.ensures.reads)
    ready.rows ready.situation ready.is in
    record {
      member =
          judged_member c.args.table.now c.judge_next.new.replay c.in-Turn.judged
          (record { rows = ready.rows; situation = ready.situation; told = comes.told; old = c.args.replay.now; here = ready.is; is = comes.is });
    }

pub returns-then-not-is_turn_by_arm-clause-stops : goal.returns-then-not-is_turn_by_arm-clause-stops
returns-then-not-is_turn_by_arm-clause-stops c = λ rows situation is.
    let comes =
    subst (Comes c.args.table.now c.args.replay.now c.judge_next.new.replay c.args.rest.now c.read-next.new.self) c.in-Turn.is (c.in_ok-why.ensures c.args.rest.now c.read-next.new.self c.read-next.ensures.reads)
    rows situation is in
    arm_unwanted c.args.table.now rows c.args.replay.now c.judge_next.new.replay situation c.args.rest.now c.read-next.new.self c.in-Turn.judged is comes (task_of c.args.task) c.is_turn_by_arm.result
    c.change.result.now c.change.ensures c.is_turn_by_arm.ensures c.if-not-is_turn_by_arm.true

pub take-requires : goal.take-requires
take-requires c =
    let ready = c.requires.ready in
    let comes =
    subst (Comes c.args.table.now c.args.replay.now c.judge_next.new.replay c.args.rest.now c.read-next.new.self) c.in-Turn.is (c.in_ok-why.ensures c.args.rest.now c.read-next.new.self c.read-next.ensures.reads)
    ready.rows ready.situation ready.is in
    record { judged = record { rows = ready.rows; situation = ready.situation; told = comes.told; old = c.args.replay.now; here = ready.is; is = comes.is } }

pub returns-else-not-is_turn_by_arm-clause-takes : goal.returns-else-not-is_turn_by_arm-clause-takes
returns-else-not-is_turn_by_arm-clause-takes c = λ rows situation is.
    let comes =
    subst (Comes c.args.table.now c.args.replay.now c.judge_next.new.replay c.args.rest.now c.read-next.new.self) c.in-Turn.is (c.in_ok-why.ensures c.args.rest.now c.read-next.new.self c.read-next.ensures.reads)
    rows situation is in
    arm_taken c.args.table.now rows c.args.replay.now c.judge_next.new.replay situation c.args.rest.now c.read-next.new.self c.in-Turn.judged is comes (task_of c.args.task) c.is_turn_by_arm.result
    c.change.result.now c.change.ensures c.is_turn_by_arm.ensures _ c.stopped_in-stopped.result c.if-not-is_turn_by_arm.false c.stopped_in-stopped.ensures
    (c.take.ensures.joins rows situation comes.told c.args.replay.now is comes.is)

pub returns-else-not-is_turn_by_arm-clause-members : goal.returns-else-not-is_turn_by_arm-clause-members
returns-else-not-is_turn_by_arm-clause-members c =
    let ready = c.requires.ready in
    let comes =
    subst (Comes c.args.table.now c.args.replay.now c.judge_next.new.replay c.args.rest.now c.read-next.new.self) c.in-Turn.is (c.in_ok-why.ensures c.args.rest.now c.read-next.new.self c.read-next.ensures.reads)
    ready.rows ready.situation ready.is in
    c.take.ensures.members ∙ comes.is.members
