use Rattle.run_text.proofs.FrameLemmas.{run_of_frame}
use Rattle.due_list.proofs.SaidLemmas.{sections_said}
use Rattle.due_list.proofs.laws.a_frame_without_a_fault_is_a_run.Goals as goal

pub returns : goal.returns
returns c = λ text run frame none. run_of_frame text run frame (sections_said run.sections none)
