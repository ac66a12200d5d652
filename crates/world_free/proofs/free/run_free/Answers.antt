use Rattle.world_free.proofs.Handed.{if_ok}
use Rattle.world_free.proofs.free.run_free.Goals as goal

pub returns-clause-goes : goal.returns-clause-goes
returns-clause-goes g c =
    if_ok c.run_part-new.result _ _
    (λ new goes rows situation are. let to = goes rows situation are in (to.0, to.1, to.2, to.3))
    c.run_part-new.ensures.goes
