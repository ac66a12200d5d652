use Rattle.store_format.proofs.BodyLemmas.{StandFor-same}
use Rattle.store_format.proofs.StandLemmas.{Stands-same}
use Rattle.store_format.proofs.laws.records_stand_for_one_state.Goals as goal

pub returns-clause-records : goal.returns-clause-records
returns-clause-records c = Stands-same

pub returns-clause-bodies : goal.returns-clause-bodies
returns-clause-bodies c = StandFor-same
