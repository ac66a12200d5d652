use Rattle.run_outcome.proofs.WholeLemmas.{script_whole}
use Rattle.run_outcome.proofs.whole.an_obeyed_script_is_whole.Goals as goal

pub returns : goal.returns
returns c = script_whole
