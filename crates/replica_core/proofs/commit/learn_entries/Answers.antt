use Rattle.std.proofs.Common.{ap, refl, ◌∙◌, max}
use Rattle.paxos_base.specs.declared.entry.Entry.TheVariants.{Noop}
use Rattle.replica_core.proofs.LearnLemmas.{Learning-all, Learning-next, Learning-none}
use Rattle.replica_core.proofs.commit.learn_entries.Goals as goal

pub loop-entry-init : goal.loop-entry-init
loop-entry-init c = Learning-none c.args.table.now c.args.learner.now c.args.machine.now c.args.entries.now c.requires.room c.requires.stands c.requires.counts

pub loop-entry-preserved : goal.loop-entry-preserved
loop-entry-preserved c =
    Learning-next c.args.table.now c.args.learner.now c.loop-entry.learner c.learn_next.new.learner c.args.machine.now c.loop-entry.machine c.learn_next.new.machine c.args.entries.now c.loop-entry.entry-index c.loop-entry.raised _ Noop _
    c.loop-entry-test.true refl
    c.loop-entry.invariant c.learn_next.ensures.learned c.learn_next.ensures.spare c.learn_next.ensures.applies c.learn_next.ensures.stands (c.max-raised.ensures ∙ ap (max c.loop-entry.raised) c.learn_next.ensures.count)

pub returns : goal.returns
returns c = Learning-all c.args.table.now c.args.learner.now c.loop-entry.learner c.args.machine.now c.loop-entry.machine c.args.entries.now c.loop-entry.entry-index c.loop-entry.raised c.loop-entry-test.false c.loop-entry.invariant
