use Rattle.cluster_sched.proofs.NameLemmas.{name_text-injective}
use Rattle.cluster_sched.proofs.laws.names_differ_in_their_texts.Goals as goal

pub returns : goal.returns
returns c = name_text-injective
