use Rattle.store_format.proofs.ChangeLemmas.{Stands-change, StandFor-change}
use Rattle.store_format.proofs.laws.a_record_brings_its_change.Goals as goal

pub returns-clause-records : goal.returns-clause-records
returns-clause-records c = Stands-change

pub returns-clause-bodies : goal.returns-clause-bodies
returns-clause-bodies c = StandFor-change
