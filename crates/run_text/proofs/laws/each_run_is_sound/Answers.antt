use Rattle.run_text.proofs.SoundLemmas.{sound_run}
use Rattle.run_text.proofs.laws.each_run_is_sound.Goals as goal

pub returns : goal.returns
returns c = sound_run
