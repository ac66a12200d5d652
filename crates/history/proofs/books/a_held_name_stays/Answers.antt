use Rattle.history.proofs.Standings.{name_stays, names_once}
use Rattle.history.proofs.books.a_held_name_stays.Goals as goal

pub returns-clause-stays : goal.returns-clause-stays
returns-clause-stays c = name_stays

pub returns-clause-once : goal.returns-clause-once
returns-clause-once c = names_once
