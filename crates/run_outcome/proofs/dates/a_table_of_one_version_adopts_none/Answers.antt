use Rattle.launch_safety.proofs.Whole.{no_adoptions}
use Rattle.run_outcome.proofs.dates.a_table_of_one_version_adopts_none.Goals as goal

pub returns : goal.returns
returns c = λ members table rows few legal one log is_log. no_adoptions members table rows log few legal is_log one
