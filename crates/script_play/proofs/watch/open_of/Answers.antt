use Rattle.std.proofs.Common.{◌+◌, true, false, is_some, arith, sym, ap, ◌∙◌}
use Rattle.script_play.proofs.Watching.{open_more}
use Rattle.script_play.proofs.watch.open_of.Goals as goal
use Rattle.script_play.proofs.watch.open_of.Goals.{then-is_some, else-is_some}

pub jobs-preserved : goal.jobs-preserved
jobs-preserved c =
    let rows = c.args.writer.now.machine.rows in
    let job = c.jobs.job in
    let row = c.row-row.result in
    let (count, few) = c.jobs.invariant in
    elim c.if-is_some.branch [
      | then-is_some w ↦ (
        w.count-is ∙ ap (λ n. n + 1) count ∙ sym (open_more rows job row true c.row-row.ensures (sym c.is_some.ensures ∙ w.if-is_some.true)),
        (let is = w.count-is in omega (arith, is, few)),
      )
      | else-is_some w ↦ (
        (let more = open_more rows job row false c.row-row.ensures (sym c.is_some.ensures ∙ w.if-is_some.false) in let is = w.count-is in omega (arith, is, count, more)),
        (let is = w.count-is in omega (arith, is, few)),
      )
    ]
