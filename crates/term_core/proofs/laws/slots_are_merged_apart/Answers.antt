use Rattle.term_core.proofs.LawLemmas.{at_best_of}
use Rattle.term_core.proofs.laws.slots_are_merged_apart.Goals as goal

pub returns : goal.returns
returns c = at_best_of
