use Rattle.history.proofs.Posted.{step_follows}
use Rattle.history.proofs.bounds.a_step_goes_on_a_legal_book.Goals as goal

pub returns : goal.returns
returns c = step_follows
