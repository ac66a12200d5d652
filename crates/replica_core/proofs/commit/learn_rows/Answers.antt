use Rattle.std.proofs.Common.{ap, ◌∙◌, max}
use Rattle.paxos_base.specs.declared.entry.Entry.TheVariants.{Noop}
use Rattle.replica_draft.specs.Draft.{entries_in}
use Rattle.replica_core.proofs.LearnLemmas.{Learning-all, Learning-next, Learning-none, entries-many, entry-of}
use Rattle.replica_core.proofs.commit.learn_rows.Goals as goal

pub loop-row-init : goal.loop-row-init
loop-row-init c = Learning-none c.args.table.now c.args.learner.now c.args.machine.now (entries_in c.args.rows.now) (rw (entries-many c.args.rows.now) c.requires.room) c.requires.stands c.requires.counts

pub loop-row-preserved : goal.loop-row-preserved
loop-row-preserved c =
    Learning-next c.args.table.now c.args.learner.now c.loop-row.learner c.learn_next.new.learner c.args.machine.now c.loop-row.machine c.learn_next.new.machine (entries_in c.args.rows.now) c.loop-row.row-index c.loop-row.raised _ Noop _
    (rw (entries-many c.args.rows.now) c.loop-row-test.true) (entry-of c.args.rows.now c.loop-row.row-index _ Noop c.loop-row-test.true)
    c.loop-row.invariant c.learn_next.ensures.learned c.learn_next.ensures.spare c.learn_next.ensures.applies c.learn_next.ensures.stands (c.max-raised.ensures ∙ ap (max c.loop-row.raised) c.learn_next.ensures.count)

pub returns : goal.returns
returns c = Learning-all c.args.table.now c.args.learner.now c.loop-row.learner c.args.machine.now c.loop-row.machine (entries_in c.args.rows.now) c.loop-row.row-index c.loop-row.raised (rw (entries-many c.args.rows.now) c.loop-row-test.false) c.loop-row.invariant
