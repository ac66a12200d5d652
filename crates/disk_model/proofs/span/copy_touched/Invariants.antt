use Rattle.std.proofs.Common.{take}
use Rattle.disk_model.proofs.SpanLemmas.{Copied}
use Rattle.disk_model.proofs.span.copy_touched.Given as goal

abbrev pub invariant-loop-span : goal.invariant-loop-span
invariant-loop-span l = Copied (take l.span-index l.spans) l.from l.fn.into l.into
