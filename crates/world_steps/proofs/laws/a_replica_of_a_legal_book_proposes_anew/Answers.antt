use Rattle.world_steps.proofs.AnewLemmas.{anew_at, anew_by_rows}
use Rattle.world_steps.proofs.laws.a_replica_of_a_legal_book_proposes_anew.Goals as goal

pub returns-clause-rows : goal.returns-clause-rows
returns-clause-rows c = anew_by_rows

pub returns-clause-replica : goal.returns-clause-replica
returns-clause-replica c = anew_at
