use Rattle.history.proofs.Standings.{stop_arrived, stop_held, stop_late, stop_posted}
use Rattle.history.proofs.books.a_stop_leaves_what_is_outside.Goals as goal

pub returns-clause-held : goal.returns-clause-held
returns-clause-held c = stop_held

pub returns-clause-late : goal.returns-clause-late
returns-clause-late c = stop_late

pub returns-clause-arrived : goal.returns-clause-arrived
returns-clause-arrived c = stop_arrived

pub returns-clause-posted : goal.returns-clause-posted
returns-clause-posted c = stop_posted
