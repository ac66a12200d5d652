use Rattle.synchronous_rounds.proofs.LedAloneLemmas.{led_alone_next}
use Rattle.synchronous_rounds.proofs.leader.one_leads_on.Goals as goal

pub returns : goal.returns
returns c = led_alone_next
