use Rattle.due_set.proofs.CountLemmas.{CountsTo, left_of}
use Rattle.due_set.proofs.scan.count_due.Given as goal

abbrev pub invariant-loop-at : goal.invariant-loop-at
invariant-loop-at l = CountsTo l.fields l.zone.source l.window.from.0 l.window.until.0 l.minute l.count

abbrev pub decreases-loop-at : goal.decreases-loop-at
decreases-loop-at l = left_of l.window.until.0 l.minute
