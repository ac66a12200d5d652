use Rattle.agreement.proofs.GuardLemmas.{stands_told, starts_untold}
use Rattle.agreement.proofs.laws.a_replica_stands_at_a_campaign_alone.Goals as goal

pub returns-clause-stands : goal.returns-clause-stands
returns-clause-stands c = stands_told

pub returns-clause-starts : goal.returns-clause-starts
returns-clause-starts c = starts_untold
