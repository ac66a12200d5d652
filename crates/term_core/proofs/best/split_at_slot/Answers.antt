use Rattle.term_core.proofs.BestLemmas.{before_slot, from_slot}
use Rattle.term_core.proofs.best.split_at_slot.Goals as goal

pub returns-clause-below : goal.returns-clause-below
returns-clause-below c =
    rw c.split_at.ensures.front (before_slot c.args.slot c.args.votes.now c.count_below.result c.count_below.ensures.value)

pub returns-clause-from : goal.returns-clause-from
returns-clause-from c =
    rw c.split_at.ensures.back (from_slot c.args.slot c.args.votes.now c.count_below.result c.requires c.count_below.ensures.value)
