use Rattle.script_semantics.proofs.RunningArms.{part_keeps}
use Rattle.script_semantics.proofs.commands.a_disk_is_armed_only_while_its_replica_runs.Goals as goal

pub returns-clause-on : goal.returns-clause-on
returns-clause-on c = part_keeps
