use Rattle.run_text.proofs.FrameLemmas.{frame_of_run}
use Rattle.run_text.proofs.laws.each_run_is_its_frame.Goals as goal

pub returns : goal.returns
returns c = frame_of_run
