use Rattle.zone_minutes.proofs.ZoneLemmas.{local_of-same}
use Rattle.zone_minutes.proofs.zone.zones_read_alike.Goals as goal

pub returns : goal.returns
returns c = local_of-same
