use Rattle.std.proofs.Common.{take}
use Rattle.disk_model.proofs.SpanLemmas.{Filled}
use Rattle.disk_model.proofs.span.fill_touched.Given as goal

abbrev pub invariant-loop-span : goal.invariant-loop-span
invariant-loop-span l = Filled (take l.span-index l.spans) l.byte l.fn.into l.into
