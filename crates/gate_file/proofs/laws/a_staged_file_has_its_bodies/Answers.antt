use Rattle.gate_file.proofs.GateLemmas.{staged_at_rest, staged_empty, staged_has}
use Rattle.gate_file.proofs.laws.a_staged_file_has_its_bodies.Goals as goal

pub returns-clause-at_rest : goal.returns-clause-at_rest
returns-clause-at_rest c = staged_at_rest

pub returns-clause-empty : goal.returns-clause-empty
returns-clause-empty c = staged_empty

pub returns-clause-either : goal.returns-clause-either
returns-clause-either c = staged_has
