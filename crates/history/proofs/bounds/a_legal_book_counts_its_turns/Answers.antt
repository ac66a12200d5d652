use Rattle.history.proofs.BookLemmas.{letters_within, replicas_within, tables_within, votes_within}
use Rattle.history.proofs.bounds.a_legal_book_counts_its_turns.Goals as goal

pub returns-clause-replicas : goal.returns-clause-replicas
returns-clause-replicas c = replicas_within

pub returns-clause-tables : goal.returns-clause-tables
returns-clause-tables c = tables_within

pub returns-clause-votes : goal.returns-clause-votes
returns-clause-votes c = votes_within

pub returns-clause-letters : goal.returns-clause-letters
returns-clause-letters c = letters_within
