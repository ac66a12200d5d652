use Rattle.cron_serve.proofs.CompleteLemmas.{refused_input}
use Rattle.cron_serve.proofs.laws.a_refusal_is_that_of_the_bytes.Goals as goal

pub returns : goal.returns
returns c = λ output old new refusal bytes why told. refused_input output old new bytes refusal told why
