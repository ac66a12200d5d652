use Rattle.launch_safety.proofs.Whole.{vote_held}
use Rattle.launch_safety.proofs.histories.each_end_says_what_is_held.Goals as goal

pub returns : goal.returns
returns c = vote_held
