use Rattle.std.proofs.Common.{All, List, ◌≤◌, ◌∙◌, ap, sym, subst}
use Rattle.cluster_sched.specs.Fates.{Holdings}
use Rattle.cluster_sched.specs.Names.{IsNameIn}
use Rattle.cluster_sched.specs.declared.row.SchedRow.{SchedRow}
use Rattle.report_text.specs.Report.{IsReport}
use Rattle.report_text.proofs.BookLemmas.{named_at_rest, book_report}
use Rattle.report_text.proofs.book.write_book_report.Goals as goal

pub write_report-requires : goal.write_report-requires
write_report-requires g c =
    let held = c.held.ensures.held ∙ ap (λ (holdings : Holdings). holdings.held) c.ledger.ensures in
    let few = subst (λ n. n ≤ 7) (sym c.requires.members) c.requires.few in
    subst (λ (rows : List SchedRow). All (λ (row : SchedRow). IsNameIn c.args.table.now row.name) rows) (sym held)
    (named_at_rest c.args.table.now c.requires.legal.0 c.args.book.now few c.window.ensures.sound c.requires.legal.1 c.requires.rest)

pub returns : goal.returns
returns g c =
    let (text, report, writes) = c.write_report.ensures in
    let held = c.held.ensures.held ∙ ap (λ (holdings : Holdings). holdings.held) c.ledger.ensures in
    let of_book = subst (λ (rows : List SchedRow). IsReport c.args.table.now c.args.book.now.members rows text) held
    (subst (λ n. IsReport c.args.table.now n c.held.result.now text) (sym c.requires.members) report) in
    (text, book_report c.args.table.now c.requires.legal.0 c.args.book.now text c.requires.legal.1 c.requires.rest of_book, writes)
