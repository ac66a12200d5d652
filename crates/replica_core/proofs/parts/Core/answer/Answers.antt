use Rattle.std.proofs.Common.{◌≡◌, ◌∙◌, Some, None, refl, w64, to_z, of_z}
use Rattle.std.proofs.lemmas.Int.{to_z-of_z}
use Rattle.replica_core.specs.Replica.{own_identity, state_of}
use Rattle.replica_core.proofs.LeadLemmas.{answer-busy, answer-leads, answer-rests, begun-ready, leads_with, makes_as, makes_nothing}
use Rattle.replica_core.proofs.SteadyLemmas.{on_ok_so}
use Rattle.replica_core.proofs.parts.Core.answer.Goals as goal

pub returns-in-Some-clause-makes : goal.returns-in-Some-clause-makes
returns-in-Some-clause-makes c =
    makes_as c.args.self.now c.args.draft.now _ _
    (answer-busy (own_identity c.args.self.now) c.args.job c.args.at c.args.kind c.args.self.now.machine.rows (state_of c.args.self.now) c.in-Leader.ballot c.in-Leader.best c.in-Some.field-0
    (leads_with c.args.self.now.term c.in-Leader.ballot c.in-Leader.best c.in-Leader.best c.in-Leader.flight (Some c.in-Some.field-0) c.in-Leader.is c.in-Some.is refl))
    (makes_nothing c.args.self.now c.args.draft.now c.requires.idle.stands)

pub returns-in-None-clause-makes : goal.returns-in-None-clause-makes
returns-in-None-clause-makes c =
    let at : to_z w64 (of_z w64 c.args.at) ≡ c.args.at = to_z-of_z w64 c.args.at c.ranges.at in
    on_ok_so c.end_if.result _ _
    (λ made.
    makes_as c.args.self.now c.end_if.new.draft _ _
    (answer-leads (own_identity c.args.self.now) c.args.job c.args.at c.args.kind c.args.self.now.machine.rows (state_of c.args.self.now) c.in-Leader.ballot c.deref.result.now
    (leads_with c.args.self.now.term c.in-Leader.ballot c.in-Leader.best c.deref.result.now c.in-Leader.flight None c.in-Leader.is c.in-None.is (c.deref.ensures.value ∙ c.best.view_is))
    ∙ rw (c.is_open.ensures, at) refl)
    made)
    c.end_if.ensures.makes

pub returns-in_default : goal.returns-in_default
returns-in_default c =
    record {
      makes = makes_as c.args.self.now c.args.draft.now _ _
          (answer-rests (own_identity c.args.self.now) c.args.job c.args.at c.args.kind c.args.self.now.machine.rows (state_of c.args.self.now) c.args.self.now.term c.in_default.not-Leader refl)
          (makes_nothing c.args.self.now c.args.draft.now c.requires.idle.stands);
      ready = begun-ready c.args.self.now c.args.draft.now c.requires.whole c.requires.idle.term c.requires.idle.change c.requires.idle.learnt;
    }
