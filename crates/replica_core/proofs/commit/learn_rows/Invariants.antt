use Rattle.replica_draft.specs.Draft.{entries_in}
use Rattle.replica_core.proofs.LearnLemmas.{Learning}
use Rattle.replica_core.proofs.commit.learn_rows.Given as goal

abbrev pub invariant-loop-row : goal.invariant-loop-row
invariant-loop-row l = Learning l.table l.fn.learner l.learner l.fn.machine l.machine (entries_in l.rows) l.row-index l.raised
