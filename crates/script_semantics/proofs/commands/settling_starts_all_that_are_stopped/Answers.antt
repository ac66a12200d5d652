use Rattle.script_semantics.proofs.StartLemmas.{all_run, same_states}
use Rattle.script_semantics.proofs.commands.settling_starts_all_that_are_stopped.Goals as goal

pub returns-clause-runs : goal.returns-clause-runs
returns-clause-runs c = all_run

pub returns-clause-states : goal.returns-clause-states
returns-clause-states c = same_states
