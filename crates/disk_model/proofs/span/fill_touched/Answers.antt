use Rattle.std.proofs.Common.{sym, subst}
use Rattle.std.proofs.lemmas.List.{take_more}
use Rattle.disk_model.proofs.SpanLemmas.{Filled, Filled-next}
use Rattle.disk_model.proofs.span.fill_touched.Goals as goal

pub loop-span-preserved : goal.loop-span-preserved
loop-span-preserved c =
    subst (λ spans. Filled spans c.args.byte c.args.into.now c.fill.new.into) (sym (take_more c.args.spans.now c.loop-span.span-index (record { from = 0; until = 0 }) c.loop-span-test.true))
    (Filled-next _ _ _ _ _ _ c.loop-span.invariant c.fill.ensures.size c.fill.ensures.touched c.fill.ensures.others)
