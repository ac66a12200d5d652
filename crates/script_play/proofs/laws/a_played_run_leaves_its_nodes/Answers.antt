use Rattle.script_play.proofs.Runs.{count_nodes, files_stand, stops_stand}
use Rattle.script_play.proofs.laws.a_played_run_leaves_its_nodes.Goals as goal

pub returns-clause-files : goal.returns-clause-files
returns-clause-files c = files_stand

pub returns-clause-stops : goal.returns-clause-stops
returns-clause-stops c = stops_stand

pub returns-clause-count : goal.returns-clause-count
returns-clause-count c = count_nodes
