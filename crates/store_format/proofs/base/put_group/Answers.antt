use Rattle.std.proofs.Common.{◌≡◌, length, sym, ap, ◌∙◌}
use Rattle.store_format.proofs.WriteLemmas.{group_added}
use Rattle.store_format.proofs.base.put_group.Goals as goal

pub returns : goal.returns
returns c =
    let shown : c.deref.result.now ≡ c.args.rows.now = c.deref.ensures.value ∙ c.rows.view_is in
    group_added c.put_rows.result c.args.slot c.len-count.result c.args.rows.now c.deref.result.now c.args.bodies.now.items c.put.new.bodies.items c.put_rows.new.bodies.items
    (c.len-count.ensures ∙ sym c.deref.ensures.len ∙ ap length shown) shown c.in_ok-put.ensures c.put_rows.ensures
