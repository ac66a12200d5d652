use Rattle.world_law.proofs.Settled.{come_here, stand_instead}
use Rattle.world_law.proofs.laws.a_book_settles_what_it_does_not_keep.Goals as goal

pub returns-clause-votes : goal.returns-clause-votes
returns-clause-votes c = λ table rows other book behind beside. (come_here table rows other book behind beside).votes

pub returns-clause-learned : goal.returns-clause-learned
returns-clause-learned c = λ table rows other book behind beside. (come_here table rows other book behind beside).learned

pub returns-clause-stands : goal.returns-clause-stands
returns-clause-stands c = λ table rows other book behind beside. (come_here table rows other book behind beside).stands

pub returns-clause-instead : goal.returns-clause-instead
returns-clause-instead c = stand_instead
