use Rattle.std.proofs.Common.{◌≡◌, ◌<◌, ◌↔◌, IsTrue, IfSome, Some, false, length, refl, sym, subst, arith}
use Rattle.std.specs.List.{slice_get}
use Rattle.std.proofs.lemmas.Option.{slice_get_read}
use Rattle.history.specs.Book.{turn_of}
use Rattle.script_semantics.specs.Situation.{IsTurnFor}
use Rattle.world_law.specs.Book.{call_of}
use Rattle.run_replay.specs.Tasks.{task_of}
use Rattle.run_audit.proofs.ComingLemmas.{is_did, not_did}
use Rattle.run_audit.proofs.play.is_turn_for.Goals as goal

pub returns-then-not-is_step_of : goal.returns-then-not-is_step_of
returns-then-not-is_step_of c = λ fates have.
    subst (λ task. IsTrue false ↔ IsTurnFor fates (task_of task) c.args.turn) (sym c.in-Do.is)
    (not_did fates c.in-Do.who c.in-Do.cause c.args.turn c.is_step_of.result (call_of c.args.turn) refl c.is_step_of.ensures c.if-not-is_step_of.true)

pub index-requires : goal.index-requires
index-requires c =
    let is = c.is_step_of.ensures.0 c.if-not-is_step_of.false in
    let below : c.in-Do.who < length c.args.replay.now.settings.items = subst (λ turn. IfSome (turn_of turn) (λ who. who < length c.args.replay.now.settings.items)) is c.requires.member in
    omega (arith, c.args.replay.now.settings.ok.0, below)

pub returns-else-not-is_step_of : goal.returns-else-not-is_step_of
returns-else-not-is_step_of c = λ fates have.
    let is = c.is_step_of.ensures.0 c.if-not-is_step_of.false in
    let below : c.in-Do.who < length c.args.replay.now.settings.items = subst (λ turn. IfSome (turn_of turn) (λ who. who < length c.args.replay.now.settings.items)) is c.requires.member in
    let there : slice_get c.args.replay.now.settings.items c.in-Do.who ≡ Some c.index.result.now =
    slice_get_read c.args.replay.now.settings.items (length c.args.replay.now.settings.items) c.in-Do.who c.index.result.now refl below c.index.ensures in
    subst (λ task. IsTrue c.has_fate.result ↔ IsTurnFor fates (task_of task) c.args.turn) (sym c.in-Do.is)
    (is_did fates c.in-Do.who c.in-Do.cause c.args.turn c.is_step_of.result c.has_fate.result (call_of c.args.turn) c.index.result.now.fate refl c.is_step_of.ensures c.if-not-is_step_of.false
    (have c.in-Do.who c.index.result.now there)
    (subst (λ call. IsTrue c.has_fate.result ↔ IfSome call (λ made. made.fate ≡ c.index.result.now.fate)) c.call_in.ensures c.has_fate.ensures))

pub returns-in-Stop : goal.returns-in-Stop
returns-in-Stop c = λ fates have. subst (λ task. IsTrue c.is_stop_between.result ↔ IsTurnFor fates (task_of task) c.args.turn) (sym c.in-Stop.is) c.is_stop_between.ensures

pub returns-in-Restart : goal.returns-in-Restart
returns-in-Restart c = λ fates have. subst (λ task. IsTrue c.is_restart_of.result ↔ IsTurnFor fates (task_of task) c.args.turn) (sym c.in-Restart.is) c.is_restart_of.ensures

pub returns-in-Arrive : goal.returns-in-Arrive
returns-in-Arrive c = λ fates have. subst (λ task. IsTrue c.is_arrival_of.result ↔ IsTurnFor fates (task_of task) c.args.turn) (sym c.in-Arrive.is) c.is_arrival_of.ensures
