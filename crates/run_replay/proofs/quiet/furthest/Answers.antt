use Rattle.std.proofs.Common.{arith, refl, ap, ◌∙◌}
use Rattle.script_semantics.specs.Settling.{furthest}
use Rattle.run_replay.proofs.QuietLemmas.{further_on}
use Rattle.run_replay.proofs.quiet.furthest.Goals as goal

pub others-init : goal.others-init
others-init c = record { below = omega arith; is = λ replicas learned. refl }

pub others-preserved : goal.others-preserved
others-preserved c = further_on c.args.seats.now c.others.other c.others.best c.further-best.result c.others.invariant c.further-best.ensures.one_of c.further-best.ensures.more

pub returns-clause-is : goal.returns-clause-is
returns-clause-is c = λ replicas learned. c.others.invariant.is replicas learned ∙ ap (λ n. furthest replicas n) (omega arith)
