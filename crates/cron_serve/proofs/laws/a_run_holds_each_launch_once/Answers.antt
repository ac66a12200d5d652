use Rattle.cron_serve.proofs.WholeLemmas.{effective, end_held, once, row_backed}
use Rattle.cron_serve.proofs.laws.a_run_holds_each_launch_once.Goals as goal

pub returns-clause-once : goal.returns-clause-once
returns-clause-once c = λ bytes table book nodes a b run. once bytes table book nodes run a b

pub returns-clause-started : goal.returns-clause-started
returns-clause-started c = row_backed

pub returns-clause-ended : goal.returns-clause-ended
returns-clause-ended c = end_held

pub returns-clause-effective : goal.returns-clause-effective
returns-clause-effective c = effective
