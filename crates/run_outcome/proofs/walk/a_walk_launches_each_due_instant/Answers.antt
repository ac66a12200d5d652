use Rattle.run_outcome.proofs.AtOnceLemmas.{called_under}
use Rattle.run_outcome.proofs.WalkWhole.{each_called, each_ended, each_launched}
use Rattle.run_outcome.proofs.walk.a_walk_launches_each_due_instant.Goals as goal

pub returns-clause-ended : goal.returns-clause-ended
returns-clause-ended c = each_ended

pub returns-clause-at_once : goal.returns-clause-at_once
returns-clause-at_once c = called_under

pub returns-clause-first : goal.returns-clause-first
returns-clause-first c = each_called

pub returns-clause-all : goal.returns-clause-all
returns-clause-all c = each_launched
