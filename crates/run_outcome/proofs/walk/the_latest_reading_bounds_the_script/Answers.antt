use Rattle.run_outcome.proofs.PartLemmas.{turns_latest}
use Rattle.run_outcome.proofs.WalkWhole.{latest_each, latest_least}
use Rattle.run_outcome.proofs.walk.the_latest_reading_bounds_the_script.Goals as goal

pub returns-clause-turns : goal.returns-clause-turns
returns-clause-turns c = turns_latest

pub returns-clause-each : goal.returns-clause-each
returns-clause-each c = latest_each

pub returns-clause-least : goal.returns-clause-least
returns-clause-least c = latest_least
