use Rattle.zone_minutes.proofs.VerdictLemmas.{not_refused}
use Rattle.zone_minutes.proofs.zone.no_source_is_read_and_refused.Goals as goal

pub returns : goal.returns
returns c = not_refused
