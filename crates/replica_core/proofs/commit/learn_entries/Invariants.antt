use Rattle.replica_core.proofs.LearnLemmas.{Learning}
use Rattle.replica_core.proofs.commit.learn_entries.Given as goal

abbrev pub invariant-loop-entry : goal.invariant-loop-entry
invariant-loop-entry l = Learning l.table l.fn.learner l.learner l.fn.machine l.machine l.entries l.entry-index l.raised
