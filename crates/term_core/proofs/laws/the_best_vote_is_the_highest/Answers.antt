use Rattle.term_core.proofs.LawLemmas.{first_stays, heard_or_higher, held_or_heard, held_or_higher}
use Rattle.term_core.proofs.laws.the_best_vote_is_the_highest.Goals as goal

pub returns-clause-heard : goal.returns-clause-heard
returns-clause-heard c = heard_or_higher

pub returns-clause-held : goal.returns-clause-held
returns-clause-held c = held_or_higher

pub returns-clause-one_of_them : goal.returns-clause-one_of_them
returns-clause-one_of_them c = held_or_heard

pub returns-clause-first : goal.returns-clause-first
returns-clause-first c = first_stays
