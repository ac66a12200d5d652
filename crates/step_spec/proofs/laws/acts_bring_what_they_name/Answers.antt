use Rattle.step_spec.proofs.OutLemmas.{calls_in, learnt_in}
use Rattle.step_spec.proofs.laws.acts_bring_what_they_name.Goals as goal

pub returns-clause-learnt : goal.returns-clause-learnt
returns-clause-learnt c = learnt_in

pub returns-clause-calls : goal.returns-clause-calls
returns-clause-calls c = calls_in
