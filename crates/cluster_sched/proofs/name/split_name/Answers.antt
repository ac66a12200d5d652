use Rattle.cluster_sched.proofs.NameLemmas.{cut_parts, cut_last, cut_none}
use Rattle.cluster_sched.proofs.name.split_name.Goals as goal

pub returns-clause-parts : goal.returns-clause-parts
returns-clause-parts c = cut_parts c.args.text.now c.rsplit_once.result c.rsplit_once.ensures.cases

pub returns-clause-last : goal.returns-clause-last
returns-clause-last c = cut_last c.args.text.now c.rsplit_once.result c.rsplit_once.ensures.cases

pub returns-clause-none : goal.returns-clause-none
returns-clause-none c = cut_none c.args.text.now c.rsplit_once.result c.rsplit_once.ensures.cases
