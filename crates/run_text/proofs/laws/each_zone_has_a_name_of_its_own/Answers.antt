use Rattle.run_text.proofs.SoundLemmas.{sound_run}
use Rattle.run_text.proofs.ZoneNames.{each_named}
use Rattle.run_text.proofs.laws.each_zone_has_a_name_of_its_own.Goals as goal

pub returns-clause-distinct : goal.returns-clause-distinct
returns-clause-distinct c = λ text run is. (sound_run text run is).zones.distinct

pub returns-clause-named : goal.returns-clause-named
returns-clause-named c = λ text run is. each_named run.zones (sound_run text run is).zones.each
