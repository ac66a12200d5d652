use Rattle.std.proofs.Common.{◌-◌, length}
use Rattle.cron_io.proofs.ReadingLemmas.{IsReading}
use Rattle.cron_io.proofs.source.read_all.Given as goal

abbrev pub invariant-chunks : goal.invariant-chunks
invariant-chunks g l = IsReading (g.S.Source.seen l.fn.source) (g.S.Source.seen l.source) (g.S.Source.reliable l.fn.source) (g.S.Source.reliable l.source) l.bytes.items l.most

abbrev pub decreases-chunks : goal.decreases-chunks
decreases-chunks g l = l.most - length l.bytes.items
