use Rattle.history.proofs.Agreement.{cut_is_legal}
use Rattle.history.proofs.books.a_cut_is_legal.Goals as goal

pub returns : goal.returns
returns c = cut_is_legal
