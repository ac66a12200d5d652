use Rattle.std.proofs.Common.{rules}
use Rattle.replica_core.proofs.WholeLemmas.{launches_after, steady_of, whole_after}
use Rattle.replica_core.proofs.replica.Replica.complete.Goals as goal

pub invariant_of-self : goal.invariant_of-self
invariant_of-self c =
    whole_after c.args.table.now c.self.inside.core c.commit.new.self c.args.planned.draft c.self.invariant c.commit.ensures.state c.commit.ensures.identity c.commit.ensures.base (rw (← c.self.view_is) at c.requires.can.steady.flies) (c.commit.ensures.counts c.self.invariant.counts)
    (steady_of c.args.table.now c.self.inside.core c.args.planned.draft c.self.invariant (rw (← c.self.view_is) at c.requires.can.steady)) c.commit.ensures.machine

pub returns : goal.returns
returns c acts plans =
    let steady = steady_of c.args.table.now c.self.inside.core c.args.planned.draft c.self.invariant (rw (← c.self.view_is) at c.requires.can.steady) in
    let launches = launches_after c.args.table.now c.self.inside.core c.commit.new.self c.args.planned.draft steady c.commit.ensures.state (rw (← c.self.view_is) at c.requires.of_table.rows) c.commit.ensures.machine in
    search (rules, launches)
