use Rattle.world_rounds.proofs.world.World.settle.Goals as goal

pub returns-clause-bounded : goal.returns-clause-bounded
returns-clause-bounded g c = c.in_ok-settle_led.ensures.given.bounded
