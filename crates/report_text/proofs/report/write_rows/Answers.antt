use Rattle.std.proofs.Common.{ℕ, List, map, ◌++◌, ◌∷◌, [], get_or, pos}
use Rattle.std.proofs.lemmas.List.{get_or_default}
use Rattle.paxos_base.specs.declared.entry.Kind.TheVariants.{Launch}
use Rattle.cluster_sched.specs.declared.row.SchedRow.{SchedRow}
use Rattle.report_text.specs.Report.{row_line}
use Rattle.report_text.proofs.WritingLemmas.{writes_some, writes_more, seen_at, inside_map}
use Rattle.report_text.proofs.report.write_rows.Goals as goal

-- what a read past the end would give
abbrev default_row : SchedRow
default_row = record { name = record { job = 0; at = pos 0 }; kind = Launch; now = record { 0 = pos 0 }; by = 0 }

pub returns-in_err-write_row : goal.returns-in_err-write_row
returns-in_err-write_row g c =
    let line = row_line c.args.table.now in
    let rows = c.args.rows.now in
    let i = c.loop-row.row-index in
    let row = get_or rows i default_row in
    let inside = inside_map line rows i c.loop-row-test.true in
    let is = seen_at line rows i row (get_or_default rows i _ _ c.loop-row-test.true) in
    writes_some (λ (text : List ℕ). text ++ 10 ∷ []) (map line rows) i (line row) _ _ _ _ _ inside is c.loop-row.invariant c.from_residual.ensures.1 c.in_err-write_row.ensures

pub loop-row-preserved : goal.loop-row-preserved
loop-row-preserved g c =
    let line = row_line c.args.table.now in
    let rows = c.args.rows.now in
    let i = c.loop-row.row-index in
    let row = get_or rows i default_row in
    let inside = inside_map line rows i c.loop-row-test.true in
    let is = seen_at line rows i row (get_or_default rows i _ _ c.loop-row-test.true) in
    writes_more (λ (text : List ℕ). text ++ 10 ∷ []) (map line rows) i (line row) _ _ _ inside is c.loop-row.invariant c.in_ok-write_row.ensures
