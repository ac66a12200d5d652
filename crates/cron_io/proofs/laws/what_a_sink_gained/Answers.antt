use Rattle.cron_io.proofs.LawLemmas.{gained_front}
use Rattle.cron_io.proofs.laws.what_a_sink_gained.Goals as goal

pub returns : goal.returns
returns c = gained_front
