use Rattle.std.proofs.Common.{Some, refl, sym, ◌∙◌, inl, inr}
use Rattle.replica_node.proofs.ToldLemmas.{one_or_none}
use Rattle.replica_node.proofs.reopen.take_kept.Goals as goal

pub returns-then-shows_planned-clause-answer : goal.returns-then-shows_planned-clause-answer
returns-then-shows_planned-clause-answer c change planned =
    let takes = c.complete.ensures planned.acts planned.plans in
    let shown = (c.shows_planned.ensures c.args.table.now c.args.replica.now change planned).0 c.if-shows_planned.true in
    inl (shown, one_or_none c.complete.result.delta (Some change) (sym takes.delta ∙ planned.changes))

pub returns-else-shows_planned-clause-answer : goal.returns-else-shows_planned-clause-answer
returns-else-shows_planned-clause-answer c change planned =
    inr (λ shows. let shown = (c.shows_planned.ensures c.args.table.now c.args.replica.now change planned).1 shows in absurd (cc (shown, c.if-shows_planned.false)), refl)
