use Rattle.cron_io.proofs.LawLemmas.{Rose-same}
use Rattle.cron_io.proofs.laws.a_count_that_stays_has_not_risen.Goals as goal

pub returns : goal.returns
returns c = Rose-same
