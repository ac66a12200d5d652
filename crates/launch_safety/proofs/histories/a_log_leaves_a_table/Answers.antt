use Rattle.launch_safety.proofs.Whole.{table_left}
use Rattle.launch_safety.proofs.histories.a_log_leaves_a_table.Goals as goal

pub returns : goal.returns
returns c = table_left
