-- The parts of a report.
use Rattle.std.proofs.Common.{◌≡◌, ℕ, List, [], ◌∷◌, ◌++◌, map, length, ap, ◌∙◌, append_assoc, refl, sym, subst, Result}
use Rattle.std.specs.Prelude.{codes, IsErrAnd}
use Rattle.std.specs.List.{range_with_len}
use Rattle.cron_io.specs.Views.{SinkView}
use Rattle.due_set.specs.Table.{Table}
use Rattle.cluster_sched.specs.declared.row.SchedRow.{SchedRow}
use Rattle.report_text.specs.Counts.{counts_of_job}
use Rattle.cron_io.specs.Lines.{text_of_lines}
use Rattle.report_text.specs.Report.{head_lines, count_line, row_line, report_lines, IsInOrder, IsReport}
use Rattle.report_text.specs.Writes.{Writes}
use Rattle.report_text.specs.declared.count.Counts.{Counts}
use Rattle.report_text.specs.declared.fault.ReportFault.{ReportFault}
use Rattle.report_text.specs.declared.fault.ReportFault.TheVariants.{OutOfMemory}
use Rattle.report_text.proofs.OrderLemmas.{some_order}
use Rattle.report_text.proofs.WritingLemmas.{writes_no_memory}
use Rattle.cron_io.proofs.LineLemmas.{text_of_lines-append}

pub report_parts : (table : Table) (members : ℕ) (held rows : List SchedRow) → text_of_lines (report_lines table members held rows)
    ≡ text_of_lines (head_lines table members) ++ (text_of_lines (map (count_line table held) (range_with_len 0 (length table.jobs))) ++ (text_of_lines (map (row_line table) rows) ++ text_of_lines (codes "end" ∷ [])))
report_parts table members held rows =
    let head = head_lines table members in
    let counts = map (count_line table held) (range_with_len 0 (length table.jobs)) in
    let lines = map (row_line table) rows in
    let last = codes "end" ∷ [] in
    text_of_lines-append (head ++ counts ++ lines) last
    ∙ ap (λ (l : List ℕ). l ++ text_of_lines last) (text_of_lines-append (head ++ counts) lines ∙ ap (λ (l : List ℕ). l ++ text_of_lines lines) (text_of_lines-append head counts))
    ∙ append_assoc (text_of_lines head ++ text_of_lines counts) (text_of_lines lines) (text_of_lines last)
    ∙ append_assoc (text_of_lines head) (text_of_lines counts) (text_of_lines lines ++ text_of_lines last)

-- a text of the rows in order, which is written so, is a report that is written so
pub report_of : {T : Type 0} (table : Table) (members : ℕ) (held rows : List SchedRow) (a b : SinkView) (result : Result T ReportFault) → IsInOrder held rows
    → Writes a b result (text_of_lines (head_lines table members) ++ (text_of_lines (map (count_line table held) (range_with_len 0 (length table.jobs))) ++ (text_of_lines (map (row_line table) rows) ++ text_of_lines (codes "end" ∷ []))))
    → (text : List ℕ) × IsReport table members held text × Writes a b result text
report_of table members held rows a b result in_order written =
    (text_of_lines (report_lines table members held rows), record { rows = rows; in_order = in_order; text_is = refl }, subst (Writes a b result) (sym (report_parts table members held rows)) written)

-- without memory no part of a report is written
pub report_of_none : {T : Type 0} (table : Table) (members : ℕ) (held : List SchedRow) (a : SinkView) (result : Result T ReportFault) → IsErrAnd result (λ e. e ≡ OutOfMemory)
    → (text : List ℕ) × IsReport table members held text × Writes a a result text
report_of_none table members held a result is =
    let order = some_order held in
    report_of table members held order.0 a a result order.1 (writes_no_memory a result _ is)

-- the counts are those of each job of the table
pub counts_of_table : (table : Table) (held : List SchedRow) (lent counts : List Counts) (jobs : ℕ) → lent ≡ counts → counts ≡ map (counts_of_job held) (range_with_len 0 jobs) → jobs ≡ length table.jobs
    → lent ≡ map (counts_of_job held) (range_with_len 0 (length table.jobs))
counts_of_table table held lent counts jobs same known size = same ∙ known ∙ ap (λ (n : ℕ). map (counts_of_job held) (range_with_len 0 n)) size
