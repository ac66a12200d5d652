use Rattle.script_semantics.proofs.FreeEndLemmas.{ends_there}
use Rattle.script_semantics.proofs.free.a_free_part_shows_its_end.Goals as goal

pub returns : goal.returns
returns c = λ members window at turns situation after behind rows more. ends_there members window at turns situation rows more after behind
