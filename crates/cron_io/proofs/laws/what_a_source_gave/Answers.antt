use Rattle.cron_io.proofs.LawLemmas.{taken_all, taken_front}
use Rattle.cron_io.proofs.laws.what_a_source_gave.Goals as goal

pub returns-clause-all : goal.returns-clause-all
returns-clause-all c = taken_all

pub returns-clause-front : goal.returns-clause-front
returns-clause-front c = taken_front
