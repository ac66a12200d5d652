use Rattle.cron_serve.proofs.NodeLemmas.{count_nodes, files_stand, follows_clerk, is_of_number, keeps, stops_stand}
use Rattle.cron_serve.proofs.laws.a_run_leaves_its_nodes.Goals as goal

pub returns-clause-count : goal.returns-clause-count
returns-clause-count c = count_nodes

pub returns-clause-identity : goal.returns-clause-identity
returns-clause-identity c = is_of_number

pub returns-clause-kept : goal.returns-clause-kept
returns-clause-kept c = keeps

pub returns-clause-files : goal.returns-clause-files
returns-clause-files c = files_stand

pub returns-clause-stops : goal.returns-clause-stops
returns-clause-stops c = stops_stand

pub returns-clause-follows : goal.returns-clause-follows
returns-clause-follows c = follows_clerk
