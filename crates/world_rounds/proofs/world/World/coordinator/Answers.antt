use Rattle.std.proofs.Common.{◌-◌, length, ap, ◌∙◌, subst, sym}
use Rattle.script_semantics.specs.Settling.{furthest}
use Rattle.world_rounds.specs.Cleared.{HaveLearned}
use Rattle.world_rounds.proofs.ClearLemmas.{learned_in}
use Rattle.world_rounds.proofs.world.World.coordinator.Goals as goal

pub returns-clause-is : goal.returns-clause-is
returns-clause-is g c = λ situation (rows, is).
    let learned = learned_in g.D.Disk.view c.args.table.now c.args.self.now rows situation is c.requires.run in
    c.furthest.ensures.is situation.standing.replicas (subst (λ items. HaveLearned situation.standing.replicas items) (sym c.deref.ensures.value) learned)
    ∙ ap (λ n. furthest situation.standing.replicas (n - 1)) (ap length c.deref.ensures.value ∙ is.ahead.count)
