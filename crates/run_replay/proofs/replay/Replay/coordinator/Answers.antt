use Rattle.std.proofs.Common.{◌-◌, length, ap, ◌∙◌, subst, sym}
use Rattle.script_semantics.specs.Settling.{furthest}
use Rattle.run_replay.specs.Quiet.{HaveLearnedAs}
use Rattle.run_replay.proofs.QuietLemmas.{learned_in}
use Rattle.run_replay.proofs.replay.Replay.coordinator.Goals as goal

pub returns-clause-is : goal.returns-clause-is
returns-clause-is c = λ rows situation is.
    let learned = learned_in c.args.table.now rows c.args.self.now situation is in
    c.furthest.ensures.is situation.standing.replicas (subst (λ items. HaveLearnedAs situation.standing.replicas items) (sym c.deref.ensures.value) learned)
    ∙ ap (λ n. furthest situation.standing.replicas (n - 1)) (ap length c.deref.ensures.value ∙ is.seated.count)
