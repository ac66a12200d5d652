use Rattle.cron_serve.proofs.WholeLemmas.{dates_apart, dates_rise, each_opened}
use Rattle.cron_serve.proofs.laws.a_run_keeps_dates_apart.Goals as goal

pub returns-clause-opened : goal.returns-clause-opened
returns-clause-opened c = each_opened

pub returns-clause-rise : goal.returns-clause-rise
returns-clause-rise c = dates_rise

pub returns-clause-apart : goal.returns-clause-apart
returns-clause-apart c = dates_apart
