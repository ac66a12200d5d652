use Rattle.zone_minutes.proofs.ZoneLemmas.{local_of-UTC}
use Rattle.zone_minutes.proofs.zone.utc_is_its_own_local_time.Goals as goal

pub returns : goal.returns
returns c = local_of-UTC
