use Rattle.std.proofs.Common.{refl}
use Rattle.history.specs.Some.{no_jobs}
use Rattle.script_semantics.specs.Arms.{armed_by}
use Rattle.script_semantics.specs.Free.{after_all_posted}
use Rattle.script_semantics.specs.Situation.{first_situation}
use Rattle.script_semantics.proofs.FreeEndLemmas.{none_behind_a_stop}
use Rattle.script_semantics.proofs.SomeFreeStop.{stopped, stopped_is_legal, stopped_is_part}
use Rattle.script_semantics.proofs.free.a_replica_that_stops_has_no_later_turn.Goals as goal

pub returns-clause-none : goal.returns-clause-none
returns-clause-none c =
    λ members window at turns who situation rows more row cause kept goes is.
    none_behind_a_stop members window at turns situation who cause kept rows more row is goes

pub returns-clause-some : goal.returns-clause-some
returns-clause-some c = (stopped, after_all_posted 2 (armed_by 0 0 0 (first_situation 2 no_jobs)) stopped, stopped_is_legal, stopped_is_part, refl)
