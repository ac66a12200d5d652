use Rattle.settling.proofs.DrainIdleLemmas.{ends_quietly}
use Rattle.settling.proofs.drain.the_end_is_quiet.Goals as goal

pub returns : goal.returns
returns c = ends_quietly
