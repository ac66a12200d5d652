use Rattle.store_format.proofs.SoundLemmas.{IsKeptSound-change, Stands-sound, StandFor-sound}
use Rattle.store_format.proofs.laws.states_are_sound.Goals as goal

pub returns-clause-records : goal.returns-clause-records
returns-clause-records c = Stands-sound

pub returns-clause-bodies : goal.returns-clause-bodies
returns-clause-bodies c = StandFor-sound

pub returns-clause-changes : goal.returns-clause-changes
returns-clause-changes c = IsKeptSound-change
