use Rattle.world_law.proofs.laws.a_book_tells_which_turn_posted_a_letter.Goals as goal

pub returns : goal.returns
returns c = λ table rows book behind. behind.posting
