use Rattle.history.proofs.Keeping.{arrival_holds, call_answers, call_holds, call_is_late, looked_up_under, under_looked_up}
use Rattle.history.proofs.bounds.a_ledger_does_what_turns_do.Goals as goal

pub returns-clause-found : goal.returns-clause-found
returns-clause-found c = looked_up_under

pub returns-clause-under : goal.returns-clause-under
returns-clause-under c = under_looked_up

pub returns-clause-held : goal.returns-clause-held
returns-clause-held c = call_holds

pub returns-clause-late : goal.returns-clause-late
returns-clause-late c = call_is_late

pub returns-clause-answer : goal.returns-clause-answer
returns-clause-answer c = call_answers

pub returns-clause-arrival : goal.returns-clause-arrival
returns-clause-arrival c = arrival_holds
