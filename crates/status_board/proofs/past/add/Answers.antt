use Rattle.std.proofs.Common.{ℕ, sym, ◌∙◌, ap, subst}
use Rattle.status_board.specs.Shown.{IsHistory}
use Rattle.status_board.proofs.StateLemmas.{same_jobs}
use Rattle.status_board.proofs.StepLemmas.{adds_moves}
use Rattle.status_board.proofs.past.add.Goals as goal

pub compare_exchange-found-requires : goal.compare_exchange-found-requires
compare_exchange-found-requires c =
    let h = c.requires.word in
    let offer = c.plain-offer.ensures in
    let pen = c.no_pen-pen.ensures in
    let total = c.requires.history.0 in
    let history = c.requires.history.1 in (
      ap (λ w. w.tracked) h,
      sym (ap (λ w. w.book) h),
      pen.0 ∙ sym (ap (λ w. w.book) h),
      offer.0,
      rw (ap (λ w. w.key) h, pen.1, offer.1, offer.3)
          (adds_moves total c.args.before c.args.past.now.log c.requires.last.0 _ history c.requires.last.1 c.requires.rises (c.requires.rows total history)),
    )

pub returns-clause-history : goal.returns-clause-history
returns-clause-history c total history =
    let all = c.compare_exchange-found.ensures.7.0 in
    subst (λ (n : ℕ). IsHistory n c.compare_exchange-found.new.seen.log)
    (same_jobs total all.0 c.args.past.now.log _ history all.1 c.compare_exchange-found.ensures.6) all.1
