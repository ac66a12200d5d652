use Rattle.gate_file.specs.File.{bodies_of}
use Rattle.replica_store.proofs.FileLemmas.{files_stand_for_one, bodies_stand_for_one}
use Rattle.replica_store.proofs.laws.files_stand_for_one_state.Goals as goal

pub returns-clause-files : goal.returns-clause-files
returns-clause-files c = files_stand_for_one

pub returns-clause-store : goal.returns-clause-store
returns-clause-store c store one other first second = bodies_stand_for_one store.size (bodies_of store.gates) one other first second
