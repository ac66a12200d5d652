use Rattle.run_outcome.proofs.ScriptLemmas.{script_calls, script_ends, script_learned, script_starts, script_tables}
use Rattle.run_outcome.proofs.quiet.an_obeyed_script_ends_quietly.Goals as goal

pub returns-clause-ends : goal.returns-clause-ends
returns-clause-ends c = script_ends

pub returns-clause-learned : goal.returns-clause-learned
returns-clause-learned c = script_learned

pub returns-clause-calls : goal.returns-clause-calls
returns-clause-calls c = script_calls

pub returns-clause-starts : goal.returns-clause-starts
returns-clause-starts c = script_starts

pub returns-clause-versions : goal.returns-clause-versions
returns-clause-versions c = script_tables
