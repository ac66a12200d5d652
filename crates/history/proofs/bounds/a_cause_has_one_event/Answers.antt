use Rattle.history.proofs.Keeping.{one_event}
use Rattle.history.proofs.bounds.a_cause_has_one_event.Goals as goal

pub returns : goal.returns
returns c = one_event
