use Rattle.std.proofs.Common.{◌≡◌, ◌↔◌, IsTrue, Some, false, sym, ◌∙◌, subst}
use Rattle.std.specs.Option.{option_to_list}
use Rattle.history.specs.declared.turn.Turn.TheVariants.{Stopped}
use Rattle.script_semantics.specs.Arms.{IsEnough, IsTurnByArm}
use Rattle.script_semantics.specs.Situation.{Arrive, Does, IsTurnFor, Restart, Stop}
use Rattle.run_replay.specs.Tasks.{task_of}
use Rattle.run_audit.proofs.DiskLemmas.{other_turn, saved_turn, stopped_turn}
use Rattle.run_audit.specs.ByArms.{StopsBy}
use Rattle.run_audit.proofs.arms.is_turn_by_arm.Goals as goal

pub returns-in-Did : goal.returns-in-Did
returns-in-Did c = λ members situation row set is changes.
    let answer = c.is_saved_step.result in
    subst (λ task. IsTrue answer ↔ IsTurnByArm members situation (task_of task) row) (sym c.in-Do.is)
    (saved_turn members situation row c.in-Do.who c.in-Do.cause c.args.change.now changes c.in-Did.other _ _ answer (is ∙ c.in-Did.is)
    (subst (λ turn. IsTrue answer ↔ (Does situation.fates c.in-Do.who c.in-Do.cause turn × IsEnough (situation.arms c.in-Did.other) (option_to_list c.args.change.now))) (sym (is ∙ c.in-Did.is))
    (c.is_saved_step.ensures situation set)))

pub returns-in-Stopped : goal.returns-in-Stopped
returns-in-Stopped c = λ members situation row set is changes.
    let answer = c.is_stop_by_arm.result in
    subst (λ task. IsTrue answer ↔ IsTurnByArm members situation (task_of task) row) (sym c.in-Do.is)
    (stopped_turn members situation row c.in-Do.who c.in-Do.cause c.args.change.now changes _ _ c.in-Stopped.kept answer (is ∙ c.in-Stopped.is)
    (subst (λ turn. IsTrue answer ↔ ((turn ≡ Stopped c.in-Do.who (Some c.in-Do.cause) c.in-Stopped.kept) × StopsBy (situation.arms c.in-Do.who) (situation.bases c.in-Do.who) c.args.change.now c.in-Stopped.kept))
    (sym (is ∙ c.in-Stopped.is)) (c.is_stop_by_arm.ensures situation set)))

pub returns-in-Restarted : goal.returns-in-Restarted
returns-in-Restarted c = λ members situation row set is changes.
    subst (λ task. IsTrue false ↔ IsTurnByArm members situation (task_of task) row) (sym c.in-Do.is)
    (other_turn members situation row c.in-Do.who c.in-Do.cause c.args.change.now changes _ (is ∙ c.in-Restarted.is) (λ made same. absurd cc) (λ kept same. absurd cc))

pub returns-in-Arrived : goal.returns-in-Arrived
returns-in-Arrived c = λ members situation row set is changes.
    subst (λ task. IsTrue false ↔ IsTurnByArm members situation (task_of task) row) (sym c.in-Do.is)
    (other_turn members situation row c.in-Do.who c.in-Do.cause c.args.change.now changes _ (is ∙ c.in-Arrived.is) (λ made same. absurd cc) (λ kept same. absurd cc))

pub returns-in-Stop : goal.returns-in-Stop
returns-in-Stop c = λ members situation row set is changes.
    let answer = c.is_turn_for.result in
    let tells = subst (λ task. IsTrue answer ↔ IsTurnFor situation.fates (task_of task) c.args.turn) c.in-Stop.is (c.is_turn_for.ensures situation.fates (λ who setting there. (set who setting there).fate)) in
    subst (λ task. IsTrue answer ↔ IsTurnByArm members situation (task_of task) row) (sym c.in-Stop.is)
    (subst (λ turn. IsTrue answer ↔ IsTurnFor situation.fates (Stop c.in-Stop.who) turn) (sym is) tells)

pub returns-in-Restart : goal.returns-in-Restart
returns-in-Restart c = λ members situation row set is changes.
    let answer = c.is_turn_for-in-Restart.result in
    let tells = subst (λ task. IsTrue answer ↔ IsTurnFor situation.fates (task_of task) c.args.turn) c.in-Restart.is (c.is_turn_for-in-Restart.ensures situation.fates (λ who setting there. (set who setting there).fate)) in
    subst (λ task. IsTrue answer ↔ IsTurnByArm members situation (task_of task) row) (sym c.in-Restart.is)
    (subst (λ turn. IsTrue answer ↔ IsTurnFor situation.fates (Restart c.in-Restart.who) turn) (sym is) tells)

pub returns-in-Arrive : goal.returns-in-Arrive
returns-in-Arrive c = λ members situation row set is changes.
    let answer = c.is_turn_for-in-Arrive.result in
    let tells = subst (λ task. IsTrue answer ↔ IsTurnFor situation.fates (task_of task) c.args.turn) c.in-Arrive.is (c.is_turn_for-in-Arrive.ensures situation.fates (λ who setting there. (set who setting there).fate)) in
    subst (λ task. IsTrue answer ↔ IsTurnByArm members situation (task_of task) row) (sym c.in-Arrive.is)
    (subst (λ turn. IsTrue answer ↔ IsTurnFor situation.fates (Arrive c.in-Arrive.late) turn) (sym is) tells)
