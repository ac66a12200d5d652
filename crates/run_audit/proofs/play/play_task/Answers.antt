use Rattle.std.proofs.Common.{◌≡◌, true, false, refl, sym, ◌∙◌, subst}
use Rattle.script_semantics.specs.Situation.{IsTurnFor}
use Rattle.run_replay.proofs.TakeLemmas.{judged_member}
use Rattle.run_replay.specs.Tasks.{task_of}
use Rattle.run_audit.proofs.ComingLemmas.{judged_fates, judged_unwanted, task_taken}
use Rattle.run_audit.specs.Coming.{Comes}
use Rattle.run_audit.proofs.play.play_task.Goals as goal

pub returns-in-Refused-clause-stops : goal.returns-in-Refused-clause-stops
returns-in-Refused-clause-stops c = λ rows situation is.
    let none =
    subst (Comes c.args.table.now c.args.replay.now c.judge_next.new.replay c.args.rest.now c.read-next.new.self) c.in-Refused.is (c.in_ok-why.ensures c.args.rest.now c.read-next.new.self c.read-next.ensures.reads)
    rows situation is in
    record { line_is = refl; reason = none.reason; none = λ row goes wanted. none.none row goes }

pub is_turn_for-requires : goal.is_turn_for-requires
is_turn_for-requires c =
    let ready = c.requires.ready in
    let comes =
    subst (Comes c.args.table.now c.args.replay.now c.judge_next.new.replay c.args.rest.now c.read-next.new.self) c.in-Turn.is (c.in_ok-why.ensures c.args.rest.now c.read-next.new.self c.read-next.ensures.reads)
    ready.rows ready.situation ready.is in
    record {
      member =
          judged_member c.args.table.now c.judge_next.new.replay c.in-Turn.judged
          (record { rows = ready.rows; situation = ready.situation; told = comes.told; old = c.args.replay.now; here = ready.is; is = comes.is });
    }

pub returns-then-not-is_turn_for-clause-stops : goal.returns-then-not-is_turn_for-clause-stops
returns-then-not-is_turn_for-clause-stops c = λ rows situation is.
    let comes =
    subst (Comes c.args.table.now c.args.replay.now c.judge_next.new.replay c.args.rest.now c.read-next.new.self) c.in-Turn.is (c.in_ok-why.ensures c.args.rest.now c.read-next.new.self c.read-next.ensures.reads)
    rows situation is in
    judged_unwanted c.args.table.now rows c.args.replay.now c.judge_next.new.replay c.args.rest.now c.read-next.new.self c.in-Turn.judged (IsTurnFor situation.fates (task_of c.args.task)) comes
    (λ wanted.
    let yes : c.is_turn_for.result ≡ true =
    (c.is_turn_for.ensures situation.fates (judged_fates c.args.table.now rows c.args.replay.now c.judge_next.new.replay situation c.args.rest.now c.read-next.new.self c.in-Turn.judged is comes)).1 wanted in
    let both : true ≡ false = sym yes ∙ c.if-not-is_turn_for.true in
    cc)

pub take-requires : goal.take-requires
take-requires c =
    let ready = c.requires.ready in
    let comes =
    subst (Comes c.args.table.now c.args.replay.now c.judge_next.new.replay c.args.rest.now c.read-next.new.self) c.in-Turn.is (c.in_ok-why.ensures c.args.rest.now c.read-next.new.self c.read-next.ensures.reads)
    ready.rows ready.situation ready.is in
    record { judged = record { rows = ready.rows; situation = ready.situation; told = comes.told; old = c.args.replay.now; here = ready.is; is = comes.is } }

pub returns-else-not-is_turn_for-clause-takes : goal.returns-else-not-is_turn_for-clause-takes
returns-else-not-is_turn_for-clause-takes c = λ rows situation is.
    let comes =
    subst (Comes c.args.table.now c.args.replay.now c.judge_next.new.replay c.args.rest.now c.read-next.new.self) c.in-Turn.is (c.in_ok-why.ensures c.args.rest.now c.read-next.new.self c.read-next.ensures.reads)
    rows situation is in
    task_taken c.args.table.now rows c.args.replay.now c.judge_next.new.replay _ situation c.args.rest.now c.read-next.new.self c.in-Turn.judged (task_of c.args.task) comes
    ((c.is_turn_for.ensures situation.fates (judged_fates c.args.table.now rows c.args.replay.now c.judge_next.new.replay situation c.args.rest.now c.read-next.new.self c.in-Turn.judged is comes)).0 c.if-not-is_turn_for.false)
    (c.take.ensures.joins rows situation comes.told c.args.replay.now is comes.is)

pub returns-else-not-is_turn_for-clause-members : goal.returns-else-not-is_turn_for-clause-members
returns-else-not-is_turn_for-clause-members c =
    let ready = c.requires.ready in
    let comes =
    subst (Comes c.args.table.now c.args.replay.now c.judge_next.new.replay c.args.rest.now c.read-next.new.self) c.in-Turn.is (c.in_ok-why.ensures c.args.rest.now c.read-next.new.self c.read-next.ensures.reads)
    ready.rows ready.situation ready.is in
    c.take.ensures.members ∙ comes.is.members
