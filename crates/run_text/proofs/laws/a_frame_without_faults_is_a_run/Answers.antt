use Rattle.run_text.proofs.FrameLemmas.{run_of_frame}
use Rattle.run_text.proofs.laws.a_frame_without_faults_is_a_run.Goals as goal

pub returns : goal.returns
returns c = run_of_frame
