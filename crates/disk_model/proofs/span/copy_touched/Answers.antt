use Rattle.std.proofs.Common.{sym, subst}
use Rattle.std.proofs.lemmas.List.{take_more}
use Rattle.disk_model.proofs.SpanLemmas.{Copied, Copied-next}
use Rattle.disk_model.proofs.span.copy_touched.Goals as goal

pub loop-span-preserved : goal.loop-span-preserved
loop-span-preserved c =
    subst (λ spans. Copied spans c.args.from.now c.args.into.now c.copy.new.into) (sym (take_more c.args.spans.now c.loop-span.span-index (record { from = 0; until = 0 }) c.loop-span-test.true))
    (Copied-next _ _ _ _ _ _ c.loop-span.invariant c.copy.ensures.size c.copy.ensures.touched c.copy.ensures.others)
