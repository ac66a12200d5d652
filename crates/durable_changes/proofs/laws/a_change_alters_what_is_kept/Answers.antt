use Rattle.durable_changes.proofs.Altering.{change_alters}
use Rattle.durable_changes.proofs.laws.a_change_alters_what_is_kept.Goals as goal

pub returns : goal.returns
returns c = change_alters
