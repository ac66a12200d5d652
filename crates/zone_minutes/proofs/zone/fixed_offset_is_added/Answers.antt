use Rattle.zone_minutes.proofs.ZoneLemmas.{local_of-fixed}
use Rattle.zone_minutes.proofs.zone.fixed_offset_is_added.Goals as goal

pub returns : goal.returns
returns c = local_of-fixed
