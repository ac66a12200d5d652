use Rattle.std.proofs.Common.{take}
use Rattle.term_core.proofs.BestLemmas.{SlotsRise-best_of, rise_before}
use Rattle.term_core.proofs.best.best_of.Goals as goal

pub all_below-requires : goal.all_below-requires
all_below-requires c =
    rw c.deref.ensures.value (rise_before c.loop-vote.merged.items c.loop-vote.left.now
    (rw c.loop-vote.invariant (SlotsRise-best_of c.args.best.now (take c.loop-vote.vote-index c.args.votes.now) c.requires)))

pub take_next-requires-clause-rise : goal.take_next-requires-clause-rise
take_next-requires-clause-rise c =
    rw c.loop-vote.invariant (SlotsRise-best_of c.args.best.now (take c.loop-vote.vote-index c.args.votes.now) c.requires)

pub take_any-requires : goal.take_any-requires
take_any-requires c =
    rw (c.in_ok-extend_from_slice.ensures.items, c.loop-vote.invariant) (SlotsRise-best_of c.args.best.now (take c.loop-vote.vote-index c.args.votes.now) c.requires)

pub returns-clause-rise : goal.returns-clause-rise
returns-clause-rise c =
    rw (c.in_ok-extend_from_slice-2.ensures.items, c.loop-vote.invariant)
    (SlotsRise-best_of c.args.best.now (take c.loop-vote.vote-index c.args.votes.now) c.requires)
