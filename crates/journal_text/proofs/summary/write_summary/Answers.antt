use Rattle.std.proofs.Common.{ap, ◌∙◌}
use Rattle.cluster_sched.specs.Fates.{Holdings}
use Rattle.report_text.proofs.WritingLemmas.{writes_exit, writes_last, writes_on}
use Rattle.journal_text.specs.Summary.{summary_text}
use Rattle.journal_text.proofs.SummaryLemmas.{book_summary}
use Rattle.journal_text.proofs.summary.write_summary.Goals as goal

pub returns-in_err-write_text : goal.returns-in_err-write_text
returns-in_err-write_text g c =
    let book = c.args.book.now in (
      summary_text c.args.table.now c.args.seed book.ledger.held,
      book_summary c.args.table.now c.args.seed book c.requires.legal c.requires.rest,
      writes_exit _ _ _ _ _ _ c.from_residual.ensures.1 c.in_err-write_text.ensures,
    )

pub returns-in_err-write_number : goal.returns-in_err-write_number
returns-in_err-write_number g c =
    let book = c.args.book.now in (
      summary_text c.args.table.now c.args.seed book.ledger.held,
      book_summary c.args.table.now c.args.seed book c.requires.legal c.requires.rest,
      writes_on _ _ _ _ _ _ _ c.in_ok-write_text.ensures
          (writes_exit _ _ _ _ _ _ c.from_residual-in_err-write_number.ensures.1 c.in_err-write_number.ensures),
    )

pub returns-in_err-write_number-2 : goal.returns-in_err-write_number-2
returns-in_err-write_number-2 g c =
    let book = c.args.book.now in (
      summary_text c.args.table.now c.args.seed book.ledger.held,
      book_summary c.args.table.now c.args.seed book c.requires.legal c.requires.rest,
      writes_on _ _ _ _ _ _ _ c.in_ok-write_text.ensures
          (writes_on _ _ _ _ _ _ _ c.in_ok-write_number.ensures
          (writes_exit _ _ _ _ _ _ c.from_residual-in_err-write_number-2.ensures.1 (rw c.jobs.ensures.count at c.in_err-write_number-2.ensures))),
    )

pub returns-in_err-write_number-3 : goal.returns-in_err-write_number-3
returns-in_err-write_number-3 g c =
    let book = c.args.book.now in
    let held = c.held-held.ensures.held ∙ ap (λ (holdings : Holdings). holdings.held) c.ledger.ensures in (
      summary_text c.args.table.now c.args.seed book.ledger.held,
      book_summary c.args.table.now c.args.seed book c.requires.legal c.requires.rest,
      writes_on _ _ _ _ _ _ _ c.in_ok-write_text.ensures
          (writes_on _ _ _ _ _ _ _ c.in_ok-write_number.ensures
          (writes_on _ _ _ _ _ _ _ (rw c.jobs.ensures.count at c.in_ok-write_number-2.ensures)
          (writes_exit _ _ _ _ _ _ c.from_residual-in_err-write_number-3.ensures.1 (rw (c.total.ensures, held) at c.in_err-write_number-3.ensures)))),
    )

pub returns-in_err-write_number-4 : goal.returns-in_err-write_number-4
returns-in_err-write_number-4 g c =
    let book = c.args.book.now in
    let held = c.held-held.ensures.held ∙ ap (λ (holdings : Holdings). holdings.held) c.ledger.ensures in (
      summary_text c.args.table.now c.args.seed book.ledger.held,
      book_summary c.args.table.now c.args.seed book c.requires.legal c.requires.rest,
      writes_on _ _ _ _ _ _ _ c.in_ok-write_text.ensures
          (writes_on _ _ _ _ _ _ _ c.in_ok-write_number.ensures
          (writes_on _ _ _ _ _ _ _ (rw c.jobs.ensures.count at c.in_ok-write_number-2.ensures)
          (writes_on _ _ _ _ _ _ _ (rw (c.total.ensures, held) at c.in_ok-write_number-3.ensures)
          (writes_exit _ _ _ _ _ _ c.from_residual-in_err-write_number-4.ensures.1 (rw (c.total-2.ensures, held) at c.in_err-write_number-4.ensures))))),
    )

pub returns : goal.returns
returns g c =
    let book = c.args.book.now in
    let held = c.held-held.ensures.held ∙ ap (λ (holdings : Holdings). holdings.held) c.ledger.ensures in (
      summary_text c.args.table.now c.args.seed book.ledger.held,
      book_summary c.args.table.now c.args.seed book c.requires.legal c.requires.rest,
      writes_on _ _ _ _ _ _ _ c.in_ok-write_text.ensures
          (writes_on _ _ _ _ _ _ _ c.in_ok-write_number.ensures
          (writes_on _ _ _ _ _ _ _ (rw c.jobs.ensures.count at c.in_ok-write_number-2.ensures)
          (writes_on _ _ _ _ _ _ _ (rw (c.total.ensures, held) at c.in_ok-write_number-3.ensures)
          (writes_on _ _ _ _ _ _ _ (rw (c.total-2.ensures, held) at c.in_ok-write_number-4.ensures)
          (writes_last _ _ _ _ c.write_text-2.ensures))))),
    )
