use Rattle.script_semantics.proofs.FreeEndLemmas.{all_had, stopped_has_none}
use Rattle.script_semantics.proofs.free.each_replica_has_all_its_turns.Goals as goal

pub returns-clause-all : goal.returns-clause-all
returns-clause-all c = λ members window at turns who situation after rows. all_had members window at turns situation who rows after

pub returns-clause-stopped : goal.returns-clause-stopped
returns-clause-stopped c = λ members window at turns who situation after rows. stopped_has_none members window at turns situation who rows after
