use Rattle.run_outcome.proofs.SomeObeyed.{some_obeyed, some_settles, some_walks}
use Rattle.run_outcome.proofs.quiet.a_book_may_obey_a_script.Goals as goal

pub returns-clause-settles : goal.returns-clause-settles
returns-clause-settles c = some_settles

pub returns-clause-walks : goal.returns-clause-walks
returns-clause-walks c = some_walks

pub returns-clause-obeys : goal.returns-clause-obeys
returns-clause-obeys c = some_obeyed
