use Rattle.run_outcome.proofs.ScriptLemmas.{settling_ends, settling_led}
use Rattle.run_outcome.proofs.quiet.settling_ends_quietly.Goals as goal

pub returns-clause-leads : goal.returns-clause-leads
returns-clause-leads c = λ members table at book rows situation after within goes. (settling_led members table at book rows situation after within goes).leads

pub returns-clause-faultless : goal.returns-clause-faultless
returns-clause-faultless c = λ members table at book rows situation after within goes. (settling_led members table at book rows situation after within goes).faultless

pub returns-clause-quiet : goal.returns-clause-quiet
returns-clause-quiet c = λ members table at book rows situation after within goes. (settling_led members table at book rows situation after within goes).quiet

pub returns-clause-ends : goal.returns-clause-ends
returns-clause-ends c = settling_ends
