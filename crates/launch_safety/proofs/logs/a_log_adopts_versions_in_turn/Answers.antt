use Rattle.launch_safety.proofs.VersionLemmas.{are_adoptions}
use Rattle.launch_safety.proofs.logs.a_log_adopts_versions_in_turn.Goals as goal

pub returns : goal.returns
returns c = are_adoptions
