use Rattle.store_format.proofs.BodyLemmas.{IsFirstRecordAtFault-same}
use Rattle.store_format.proofs.DecideLemmas.{first_fault}
use Rattle.store_format.proofs.laws.bodies_have_a_first_fault.Goals as goal

pub returns-clause-some : goal.returns-clause-some
returns-clause-some c = λ size bodies few none. first_fault size bodies few none

pub returns-clause-one : goal.returns-clause-one
returns-clause-one c = IsFirstRecordAtFault-same
