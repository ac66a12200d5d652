use Rattle.std.proofs.Common.{refl}
use Rattle.history.specs.Some.{no_jobs}
use Rattle.script_semantics.specs.Free.{after_all_posted}
use Rattle.script_semantics.specs.Situation.{first_situation}
use Rattle.script_semantics.proofs.SomeParts.{heard, heard_is_legal, heard_is_part, unheard, unheard_is_legal, unheard_is_part}
use Rattle.script_semantics.proofs.free.which_turn_comes_first_is_free.Goals as goal

pub returns-clause-heard : goal.returns-clause-heard
returns-clause-heard c = (heard, after_all_posted 2 (first_situation 2 no_jobs) heard, heard_is_legal, heard_is_part, refl)

pub returns-clause-unheard : goal.returns-clause-unheard
returns-clause-unheard c = (unheard, after_all_posted 2 (first_situation 2 no_jobs) unheard, unheard_is_legal, unheard_is_part, refl)
