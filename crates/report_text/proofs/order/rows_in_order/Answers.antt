use Rattle.std.proofs.Common.{rules}
use Rattle.std.proofs.lemmas.List.Sorted.{answers_always}
use Rattle.report_text.proofs.OrderLemmas.{in_order_from_sort}
use Rattle.report_text.proofs.order.rows_in_order.Goals as goal

pub returns : goal.returns
returns c = record {
  same = rw c.in_ok-rows.ensures.items at c.sort_by_key.ensures.permutation;
  sorted = in_order_from_sort _ (c.in_ok-sort_by_key.ensures.sorted (λ row. row.name) (answers_always _ _ _ (λ f a r g h. search rules)));
}
