use Rattle.std.proofs.Common.{◌∙◌, Some, None, refl, sym}
use Rattle.replica_core.specs.Replica.{own_identity, state_of}
use Rattle.replica_core.proofs.LeadLemmas.{begun-ready, leads_with, makes_as, makes_nothing, tick-leads, tick-rests, tick-waits}
use Rattle.replica_core.proofs.SteadyLemmas.{on_ok_so}
use Rattle.replica_core.proofs.parts.Core.tick.Goals as goal
use Rattle.step_spec.proofs.DeltaLemmas.{tick-long}

pub returns-then-is_long : goal.returns-then-is_long
returns-then-is_long c =
    record {
      makes = on_ok_so c.compact.result _ _
          (λ made. (
            c.choose-intent.result,
            c.choose-intent.ensures,
            makes_as c.args.self.now c.compact.new.draft _ _ (tick-long (own_identity c.args.self.now) c.args.now.0 c.args.self.now.machine.rows c.choose-intent.result (state_of c.args.self.now) (sym c.is_long.ensures ∙ c.if-is_long.true)) made,
          ))
          c.compact.ensures.makes;
      ready = on_ok_so c.compact.result _ _ (λ ready. ready c.args.table.now c.requires.stands) c.compact.ensures.ready;
    }

pub returns-in-Some-clause-makes : goal.returns-in-Some-clause-makes
returns-in-Some-clause-makes c =
    on_ok_so c.wait.result _ _
    (λ made. (
      c.choose-intent.result,
      c.choose-intent.ensures,
      makes_as c.args.self.now c.wait.new.draft _ _
          (tick-waits (own_identity c.args.self.now) c.args.now.0 c.args.self.now.machine.rows c.choose-intent.result (state_of c.args.self.now) c.in-Leader.ballot c.in-Leader.best c.in-Some.flight (sym c.is_long.ensures ∙ c.if-is_long.false)
          (leads_with c.args.self.now.term c.in-Leader.ballot c.in-Leader.best c.in-Leader.best c.in-Leader.flight (Some c.in-Some.flight) c.in-Leader.is c.in-Some.is refl))
          made,
    ))
    c.wait.ensures.makes

pub returns-in-Some-clause-ready : goal.returns-in-Some-clause-ready
returns-in-Some-clause-ready c = on_ok_so c.wait.result _ _ (λ ready. ready c.args.table.now) c.wait.ensures.ready

pub returns-in-None-clause-makes : goal.returns-in-None-clause-makes
returns-in-None-clause-makes c =
    on_ok_so c.lead_on.result _ _
    (λ made. (
      c.choose-intent.result,
      c.choose-intent.ensures,
      makes_as c.args.self.now c.lead_on.new.draft _ _
          (tick-leads (own_identity c.args.self.now) c.args.now.0 c.args.self.now.machine.rows c.choose-intent.result (state_of c.args.self.now) c.in-Leader.ballot c.deref.result.now (sym c.is_long.ensures ∙ c.if-is_long.false)
          (leads_with c.args.self.now.term c.in-Leader.ballot c.in-Leader.best c.deref.result.now c.in-Leader.flight None c.in-Leader.is c.in-None.is (c.deref.ensures.value ∙ c.best.view_is)))
          made,
    ))
    c.lead_on.ensures.makes

pub returns-in-None-clause-ready : goal.returns-in-None-clause-ready
returns-in-None-clause-ready c = on_ok_so c.lead_on.result _ _ (λ ready. ready c.args.table.now) c.lead_on.ensures.ready

pub returns-in_default : goal.returns-in_default
returns-in_default c =
    record {
      makes = (
        c.choose-intent.result,
        c.choose-intent.ensures,
        makes_as c.args.self.now c.args.draft.now _ _
            (tick-rests (own_identity c.args.self.now) c.args.now.0 c.args.self.now.machine.rows c.choose-intent.result (state_of c.args.self.now) c.args.self.now.term (sym c.is_long.ensures ∙ c.if-is_long.false) c.in_default.not-Leader refl)
            (makes_nothing c.args.self.now c.args.draft.now c.requires.idle.stands),
      );
      ready = begun-ready c.args.self.now c.args.draft.now c.requires.whole c.requires.idle.term c.requires.idle.change c.requires.idle.learnt c.args.table.now;
    }
