use Rattle.anacron_text.proofs.ChoiceLemmas.{zero_is_no_period}
use Rattle.anacron_text.proofs.job.read_period.Goals as goal

pub returns-in-0-clause-none : goal.returns-in-0-clause-none
returns-in-0-clause-none c = zero_is_no_period c.args.word.now c.in_ok-days-in_default.days c.in-0.is c.in_ok-days-in_default.ensures.read.1
