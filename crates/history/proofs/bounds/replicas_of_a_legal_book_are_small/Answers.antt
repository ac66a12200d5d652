use Rattle.history.proofs.BookLemmas.{launched_below, replicas_small}
use Rattle.history.proofs.bounds.replicas_of_a_legal_book_are_small.Goals as goal

pub returns-clause-small : goal.returns-clause-small
returns-clause-small c = replicas_small

pub returns-clause-launches : goal.returns-clause-launches
returns-clause-launches c = launched_below
