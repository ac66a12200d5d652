use Rattle.script_semantics.proofs.FreeEndLemmas.{taken_is}
use Rattle.script_semantics.proofs.PartLemmas.{goes_none, goes_others, goes_own, here_is, seen_next}
use Rattle.script_semantics.proofs.free.turns_of_one_are_put_together.Goals as goal

pub returns-clause-none : goal.returns-clause-none
returns-clause-none c = λ members window at turns who situation. goes_none members who window at turns situation

pub returns-clause-others : goal.returns-clause-others
returns-clause-others c = λ members window at turns who situation. goes_others members who window at turns situation

pub returns-clause-own : goal.returns-clause-own
returns-clause-own c = λ members window at turns who situation. goes_own members who window at turns situation

pub returns-clause-taken : goal.returns-clause-taken
returns-clause-taken c = taken_is

pub returns-clause-seen : goal.returns-clause-seen
returns-clause-seen c = seen_next

pub returns-clause-here : goal.returns-clause-here
returns-clause-here c = here_is
