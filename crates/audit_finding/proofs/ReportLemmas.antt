-- The report of an input that passes is that of its book.
use Rattle.std.proofs.Common.{◌≡◌, ℕ, suc, ◌<◌, List, [], ◌∷◌, length, ap, sym, subst, ◌∙◌, arith, codes, length-append}
use Rattle.cron_io.specs.Lines.{text_of_lines}
use Rattle.due_set.specs.Table.{Table}
use Rattle.history.specs.Book.{Row}
use Rattle.world_law.specs.Book.{BookState}
use Rattle.report_text.specs.Book.{IsBookReport}
use Rattle.report_text.specs.Report.{report_lines}
use Rattle.launch_safety.specs.Fitting.{held_in}
use Rattle.run_text.specs.Run.{Run}
use Rattle.audit_text.specs.Readable.{missing_newline}
use Rattle.audit_text.proofs.TextLemmas.{none_missing, one_of_lines, read_whole, report_is_whole, text_is_short}
use Rattle.run_audit.specs.Sound.{lines_so_far, turns_of}
use Rattle.run_audit.specs.Verdict.{IsJournal}
use Rattle.audit_finding.specs.Finding.{HasReportOf, IsFindingOf}
use Rattle.audit_finding.specs.declared.finding.Finding.TheVariants.{Passes}
use Rattle.audit_finding.proofs.CountLemmas.{few_lines}

-- a journal has some bytes
journal_some : (run : Run) (table : Table) (journal : List ℕ) (rows : List Row) → IsJournal run.members table run.commands journal rows
    → 0 < length journal
journal_some run table journal rows is =
    let so_far = lines_so_far table (suc (length run.commands)) (turns_of rows) is.whole.starts in
    let count = ap length is.whole.are ∙ length-append so_far (codes "end" ∷ []) in
    let few = few_lines is.lines in
    let size = ap length is.cut.parts in
    omega (arith, count, few, size, length-append (text_of_lines is.lines) [])

-- the report of a book has whole lines
report_whole : (table : Table) (book : BookState) (text : List ℕ) → IsBookReport table book text → missing_newline text ≡ []
report_whole table book text is =
    ap missing_newline is.report.text_is
    ∙ none_missing (report_lines table book.members (held_in book.members table is.rows) is.report.rows)

pub report_of_book : (input : List ℕ) (book : BookState) (found : IsFindingOf input (Passes book)) → IsBookReport found.table book found.report
report_of_book input book found =
    let some = journal_some found.run found.table found.journal found.found.0.rows found.found.0.journal in
    let short = text_is_short found.journal_part found.journal found.journal_read in
    let whole = report_is_whole input found.run_part found.report_part found.journal_part found.parts (omega (arith, some, short)) in
    let ended = read_whole found.report_part found.report found.report_read whole in
    let has : HasReportOf found.table book found.report = found.found.1 in
    let same : found.report ≡ has.expected =
    one_of_lines found.report has.expected ended (report_whole found.table book has.expected has.of_book) has.same in
    subst (IsBookReport found.table book) (sym same) has.of_book
