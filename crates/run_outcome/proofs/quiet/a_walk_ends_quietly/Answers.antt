use Rattle.run_outcome.proofs.ScriptLemmas.{walk_drained, walk_ends, walk_led_until}
use Rattle.run_outcome.proofs.quiet.a_walk_ends_quietly.Goals as goal

pub returns-clause-leads : goal.returns-clause-leads
returns-clause-leads c = λ members table to book rows situation after inside from goes. (walk_led_until members table to book rows situation after inside from goes).leads

pub returns-clause-faultless : goal.returns-clause-faultless
returns-clause-faultless c = λ members table to book rows situation after inside from goes. (walk_led_until members table to book rows situation after inside from goes).faultless

pub returns-clause-drained : goal.returns-clause-drained
returns-clause-drained c = walk_drained

pub returns-clause-ends : goal.returns-clause-ends
returns-clause-ends c = walk_ends
