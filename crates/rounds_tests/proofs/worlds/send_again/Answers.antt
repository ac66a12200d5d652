use Rattle.std.proofs.Common.{refl, ◌∙◌}
use Rattle.rounds_tests.proofs.worlds.send_again.Goals as goal

pub times-init : goal.times-init
times-init g c = record { world_is = c.requires.world; members = refl }

pub take-requires-clause-world : goal.take-requires-clause-world
take-requires-clause-world g c = λ lives borrowed. c.times.invariant.world_is

pub times-preserved : goal.times-preserved
times-preserved g c = record { world_is = c.in_ok-take.ensures.world; members = c.in_ok-take.ensures.members ∙ c.times.invariant.members }
