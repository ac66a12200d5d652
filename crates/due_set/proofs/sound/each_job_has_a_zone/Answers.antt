use Rattle.due_set.proofs.SoundLemmas.{zone_is_read}
use Rattle.due_set.proofs.sound.each_job_has_a_zone.Goals as goal

pub returns : goal.returns
returns c = zone_is_read
