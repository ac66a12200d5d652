use Rattle.history.proofs.Keeping.{votes_changed}
use Rattle.history.proofs.bounds.votes_are_those_of_the_changes.Goals as goal

pub returns : goal.returns
returns c = votes_changed
