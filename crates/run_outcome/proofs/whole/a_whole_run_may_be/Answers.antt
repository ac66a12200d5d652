use Rattle.run_outcome.proofs.SomeWhole.{some_whole}
use Rattle.run_outcome.proofs.whole.a_whole_run_may_be.Goals as goal

pub returns : goal.returns
returns c = some_whole
