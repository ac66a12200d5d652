use Rattle.std.proofs.Common.{◌≡◌, Err, sym, ◌∙◌, ap, subst}
use Rattle.replica_core.specs.Step.{fault_in, fault_told}
use Rattle.replica_core.specs.declared.input.StepFault.{StepFault}
use Rattle.replica_core.specs.declared.out.StepOut.{StepOut}
use Rattle.paxos_base.specs.Durable.{after_delta}
use Rattle.run_replay.proofs.StepLemmas.{kept_none, kept_some}
use Rattle.run_replay.proofs.judge.step_replica.Goals as goal
use Rattle.run_replay.proofs.judge.step_replica.Goals.{in-Some+in_ok-copy_of-in-Some+in_ok-apply-in-Some, in-None}

pub returns-in-Err-Letter-clause-none : goal.returns-in-Err-Letter-clause-none
returns-in-Err-Letter-clause-none c = (
  c.in-Err-Letter.field-0-0,
  sym (subst (λ (fault : StepFault). fault_told {X = StepOut} (Err fault) ≡ fault_in c.args.replica.now.identity.members c.args.input) c.in-Err-Letter.field-0-is c.in-Err-Letter.ensures.fault),
)

pub returns-clause-keeps : goal.returns-clause-keeps
returns-clause-keeps c = elim c.match-out.branch [
  | in-Some+in_ok-copy_of-in-Some+in_ok-apply-in-Some w ↦
      w.kept-is ∙ w.in_ok-apply-in-Some.ensures.changed ∙ ap (λ change. after_delta change c.args.kept.now) w.in_ok-copy_of-in-Some.ensures
      ∙ kept_some c.args.table.now c.args.input c.args.replica.now c.step.new.self c.in-Ok.out c.args.kept.now w.in-Some.change c.in-Ok.ensures.steps c.requires.keeps w.in-Some.is
  | in-None w ↦ w.kept-is ∙ kept_none c.args.table.now c.args.input c.args.replica.now c.step.new.self c.in-Ok.out c.args.kept.now c.in-Ok.ensures.steps c.requires.keeps w.in-None.is
]
