use Rattle.std.proofs.Common.{◌≡◌, ◌∷◌, [], Err, inl, inr, sym, ◌∙◌, ap, subst}
use Rattle.std.specs.Option.{option_copied, option_to_list}
use Rattle.paxos_base.specs.declared.durable.Delta.{Delta}
use Rattle.step_spec.specs.Step.{step}
use Rattle.replica_core.specs.Step.{fault_in, fault_told}
use Rattle.replica_core.specs.declared.input.StepFault.{StepFault}
use Rattle.run_replay.proofs.judge.change_of.Goals as goal

pub returns-in-Err-Letter-clause-none : goal.returns-in-Err-Letter-clause-none
returns-in-Err-Letter-clause-none c = inr (
  c.in-Err-Letter.field-0-0,
  sym (subst (λ (fault : StepFault). fault_told {X = Unit} (Err fault) ≡ fault_in c.args.replica.now.identity.members c.args.input) c.in-Err-Letter.field-0-is c.in-Err-Letter.ensures.fault),
)

pub returns-in-Some-clause-some : goal.returns-in-Some-clause-some
returns-in-Some-clause-some c =
    let planned = c.in-Ok.ensures.planned in
    record {
      event = planned.event;
      event_is = planned.event_is;
      changes =
          c.delta.ensures c.args.replica.now (step c.args.replica.now.identity planned.event c.args.replica.now.state) planned.plans
          ∙ ap (λ change. option_to_list (option_copied change)) c.in-Some.is ∙ ap (λ (change : Delta). change ∷ []) (sym c.in_ok-copy_of-in-Some.ensures);
    }

pub returns-clause-none : goal.returns-clause-none
returns-clause-none c =
    let planned = c.in-Ok.ensures.planned in
    inl (record {
      event = planned.event;
      event_is = planned.event_is;
      changes =
          c.delta.ensures c.args.replica.now (step c.args.replica.now.identity planned.event c.args.replica.now.state) planned.plans
          ∙ ap (λ change. option_to_list (option_copied change)) c.in-None.is;
    })
