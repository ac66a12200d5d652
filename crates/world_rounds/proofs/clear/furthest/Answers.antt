use Rattle.std.proofs.Common.{arith, refl, ap, ◌∙◌}
use Rattle.script_semantics.specs.Settling.{furthest}
use Rattle.world_rounds.proofs.ClearLemmas.{further_on}
use Rattle.world_rounds.proofs.clear.furthest.Goals as goal

pub others-init : goal.others-init
others-init g c = record { below = omega arith; is = λ replicas learned. refl }

pub others-preserved : goal.others-preserved
others-preserved g c = further_on c.args.members.now c.others.other c.others.best c.further-best.result c.others.invariant c.further-best.ensures.one_of c.further-best.ensures.more

pub returns-clause-is : goal.returns-clause-is
returns-clause-is g c = λ replicas learned. c.others.invariant.is replicas learned ∙ ap (λ n. furthest replicas n) (omega arith)
