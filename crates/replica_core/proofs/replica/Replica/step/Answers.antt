use Rattle.replica_core.specs.Replica.{IsWhole}
use Rattle.replica_core.proofs.StepLemmas.{stepped}
use Rattle.replica_core.proofs.WholeLemmas.{steady_of, whole-alike, whole_after}
use Rattle.replica_core.proofs.replica.Replica.step.Goals as goal

pub invariant_of-self-2 : goal.invariant_of-self-2
invariant_of-self-2 c =
    let core = c.prepare.new.self in
    let can = c.in_ok-effects.ensures.can in
    let whole : IsWhole core = whole-alike core c.self.inside.core c.prepare.ensures.alike c.self.invariant in
    whole_after c.args.table.now core c.commit.new.self c.prepare.new.draft whole c.commit.ensures.state c.commit.ensures.identity c.commit.ensures.base can.steady.flies (c.commit.ensures.counts whole.counts)
    (steady_of c.args.table.now core c.prepare.new.draft whole can.steady) c.commit.ensures.machine

pub returns-clause-steps : goal.returns-clause-steps
returns-clause-steps c =
    rw (← c.self.view_is)
    (stepped c.args.table.now c.args.input c.self.inside.core c.prepare.new.self c.commit.new.self c.prepare.new.draft c.in_ok-effects.effects c.commit.result c.prepare.ensures.alike c.self.invariant
    (rw (← c.self.view_is) at c.requires.of_table) c.in_ok-effects.ensures.planned c.in_ok-effects.ensures.can c.commit.ensures.state c.commit.ensures.identity c.commit.ensures.stands c.commit.ensures.machine
    c.commit.ensures.delta c.commit.ensures.letters c.commit.ensures.learnt c.commit.ensures.call)
