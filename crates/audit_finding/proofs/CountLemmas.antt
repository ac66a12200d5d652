-- How many lines there are, and what is known of the run.
use Rattle.std.proofs.Common.{ℕ, ◌+◌, ◌≤◌, List, [], ◌∷◌, ◌++◌, length, ap, arith, length-append}
use Rattle.cron_io.specs.Lines.{text_of_lines}
use Rattle.crontab_text.specs.Lines.{lines_of}
use Rattle.crontab_text.proofs.LineLemmas.{lines_at_most}
use Rattle.due_set.specs.Table.{Table}
use Rattle.run_text.specs.Run.{Run}
use Rattle.audit_text.specs.Parts.{IsOfParts}
use Rattle.run_audit.specs.Verdict.{IsAtFault}
use Rattle.run_audit.specs.declared.verdict.Why.{Why}

-- no text has more lines than bytes
pub few_lines : (lines : List (List ℕ)) → length lines ≤ length (text_of_lines lines)
few_lines [] = omega arith
few_lines (line ∷ lines) =
    let few = few_lines lines in
    omega (arith, few, length-append (line ++ 10 ∷ []) (text_of_lines lines), length-append line (10 ∷ []))

-- the line at fault is at most one behind the last
pub fault_within : (run : Run) (table : Table) (text : List ℕ) (number : ℕ) (why : Why) → IsAtFault run.members table run.commands text number why
    → number ≤ length text + 1
fault_within run table text number why fault =
    let lines = fault.before ++ fault.rest in
    let few = few_lines lines in
    let size = ap length fault.cut.parts in
    omega (arith, few, size, fault.number_is, length-append fault.before fault.rest, length-append (text_of_lines lines) fault.behind)

-- a report of some bytes has no more lines than these
pub lines_within : (report : List ℕ) (most : ℕ) → length report ≤ most → length (lines_of report) ≤ most
lines_within report most short = let few = lines_at_most report in omega (arith, few, short)

-- no part of an input is longer than it
pub parts_within : (input run report journal : List ℕ) (most : ℕ) → IsOfParts input run report journal → length input ≤ most
    → (length report ≤ most) × (length journal ≤ most)
parts_within input run report journal most parts short =
    let size = ap length parts.bytes in
    let first = length-append run (report ++ journal) in
    let second = length-append report journal in
    (omega (arith, size, first, second, short), omega (arith, size, first, second, short))
