use Rattle.run_text.proofs.FrameLemmas.{frame_lines}
use Rattle.run_text.proofs.laws.each_frame_has_its_lines.Goals as goal

pub returns : goal.returns
returns c = frame_lines
