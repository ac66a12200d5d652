use Rattle.launch_safety.proofs.OnceLemmas.{ends_once}
use Rattle.launch_safety.proofs.histories.a_launch_ends_once.Goals as goal

pub returns : goal.returns
returns c = ends_once
