use Rattle.std.proofs.Common.{length}
use Rattle.cron_io.proofs.WritingLemmas.{IsWriting}
use Rattle.cron_io.proofs.sink.write_all.Given as goal

abbrev pub invariant-pieces : goal.invariant-pieces
invariant-pieces g l = IsWriting (g.K.Sink.seen l.fn.sink) (g.K.Sink.seen l.sink) l.bytes l.rest

abbrev pub decreases-pieces : goal.decreases-pieces
decreases-pieces g l = length l.rest
