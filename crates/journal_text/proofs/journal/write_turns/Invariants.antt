use Rattle.std.proofs.Common.{length}
use Rattle.journal_text.proofs.PartLemmas.{IsTelling}
use Rattle.journal_text.proofs.journal.write_turns.Given as goal

abbrev pub invariant-groups : goal.invariant-groups
invariant-groups g l = IsTelling l.table (g.K.Sink.seen l.fn.sink) (g.K.Sink.seen l.sink) l.first l.turns l.next l.rest

abbrev pub decreases-groups : goal.decreases-groups
decreases-groups g l = length l.rest
