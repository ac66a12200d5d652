use Rattle.std.proofs.Common.{◌≡◌, ◌<◌, ◌==◌, false, length, refl, sym, ap, ◌∙◌, subst, arith}
use Rattle.std.specs.List.{list_any}
use Rattle.journal_line.specs.declared.line.Count.TheVariants.{Number}
use Rattle.run_replay.proofs.JudgeLemmas.{judged_arrival, not_any}
use Rattle.run_replay.proofs.replay.Replay.judge_arrival.Goals as goal

pub returns : goal.returns
returns c = λ rows situation is.
    let book = c.args.self.now.book in
    let late : c.in-Ok.late ≡ c.in-Number.number = c.in-Ok.ensures.1 in
    let calls : c.late.result.now ≡ book.ledger.late = c.late.ensures ∙ ap (λ ledger. ledger.late) c.ledger.ensures in
    let count = ap length calls in
    let below : c.in-Ok.late < length book.ledger.late = omega (arith, late, count, c.if-late.false) in
    let none : list_any (λ other. other == c.in-Ok.late) book.arrived ≡ false =
    subst (λ arrived. list_any (λ other. other == c.in-Ok.late) arrived ≡ false) c.arrived.ensures (sym c.contains.ensures.value ∙ c.if-contains.false) in
    judged_arrival c.args.table.now rows c.args.self.now _ situation c.in-Ok.late c.args.late c.change_alone-out.result is (c.in-Number.is ∙ ap (λ late. Number late) (sym late)) below
    (not_any c.in-Ok.late book.arrived none) c.change_alone-out.ensures c.in_ok-reserve.ensures.same c.in_ok-reserve.ensures.room refl refl refl refl
