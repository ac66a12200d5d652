use Rattle.gate_file.proofs.GateLemmas.{one_list, some_list}
use Rattle.gate_file.proofs.laws.a_file_has_one_list_of_bodies.Goals as goal

pub returns-clause-some : goal.returns-clause-some
returns-clause-some c = some_list

pub returns-clause-one : goal.returns-clause-one
returns-clause-one c = one_list
