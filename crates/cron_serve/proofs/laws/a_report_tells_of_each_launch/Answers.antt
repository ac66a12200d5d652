use Rattle.cron_serve.proofs.PromiseLemmas.{reports_input}
use Rattle.cron_serve.proofs.laws.a_report_tells_of_each_launch.Goals as goal

pub returns : goal.returns
returns c = reports_input
