-- What an audit finds of an input: a run, the report of it, and its journal. Source: this project; the parts by audit_text, the verdict on a
-- journal by run_audit.
use Rattle.std.specs.Prelude.{◌≡◌, ◌⊎◌, ℕ, ◌+◌, ◌<◌, ◌≤◌, List, length}
use Rattle.crontab_text.specs.Lines.{lines_of}
use Rattle.cron_fields.specs.declared.cause.Cause.TheVariants.{TooLarge}
use Rattle.due_set.specs.Table.{Table}
use Rattle.run_text.specs.Run.{Run}
use Rattle.run_text.specs.declared.refusal.Refusal.{Refusal}
use Rattle.job_table.specs.Table.{whole_run}
use Rattle.run_input.specs.Input.{IsRefusedAsRun, IsRunWithTable}
use Rattle.world_law.specs.Book.{BookState}
use Rattle.report_text.specs.Book.{IsBookReport}
use Rattle.audit_text.specs.Difference.{IsFirstDifference}
use Rattle.audit_text.specs.Parts.{IsOfParts}
use Rattle.audit_text.specs.Readable.{IsReadText}
use Rattle.run_audit.specs.Audit.{IsJournalOf}
use Rattle.run_audit.specs.Verdict.{IsAtFault}
use Rattle.run_audit.specs.declared.verdict.Why.{Why}
use Rattle.run_audit.specs.declared.verdict.Why.TheVariants.{BadLine, NotLegal, NotObeyed, Missing}
use Rattle.audit_finding.specs.declared.finding.Fault.{Fault}
use Rattle.audit_finding.specs.declared.finding.Fault.TheVariants.{Journal, Report}
use Rattle.audit_finding.specs.declared.finding.Finding.{Finding}
use Rattle.audit_finding.specs.declared.finding.Finding.TheVariants.{Passes, Fails}

-- ---- faults

-- the number of a fault: 1 to 4 of the journal's, 5 of the report's
abbrev pub fault_number : Fault → ℕ
fault_number (Journal BadLine) = 1
fault_number (Journal NotLegal) = 2
fault_number (Journal NotObeyed) = 3
fault_number (Journal Missing) = 4
fault_number Report = 5

-- ---- findings

-- the report has the lines of that of the book
pub record HasReportOf (table : Table) (book : BookState) (report : List ℕ) : Type 0 where
  pub expected : List ℕ
  pub of_book : IsBookReport table book expected
  pub same : lines_of report ≡ lines_of expected

-- The journal is one of the run, and this line of the report is the first that differs from that of the journal's book, or is missing, or
-- one too many.
pub record HasOtherReport (run : Run) (table : Table) (report journal : List ℕ) (line : ℕ) : Type 0 where
  pub book : BookState
  pub of_run : IsJournalOf run table journal book
  pub expected : List ℕ
  pub of_book : IsBookReport table book expected
  pub first : IsFirstDifference (lines_of report) (lines_of expected) line

-- The first line of the journal that can't be one of the run's, and why. It is counted from the first line of the report.
pub record HasFaultyJournal (run : Run) (table : Table) (report journal : List ℕ) (line : ℕ) (why : Why) : Type 0 where
  pub number : ℕ
  pub at_fault : IsAtFault run.members table run.commands journal number why
  pub line_is : line ≡ length (lines_of report) + number

-- the line is at fault, in this way
abbrev pub IsFaultOf : Run → Table → (report journal : List ℕ) → (line : ℕ) → Fault → Type 0
IsFaultOf run table report journal line (Journal why) = HasFaultyJournal run table report journal line why
IsFaultOf run table report journal line Report = HasOtherReport run table report journal line

-- what is found of a report and a journal of a run
abbrev pub IsFoundOf : Run → Table → (report journal : List ℕ) → Finding → Type 0
IsFoundOf run table report journal (Passes book) = IsJournalOf run table journal book × HasReportOf table book report
IsFoundOf run table report journal (Fails line fault) = IsFaultOf run table report journal line fault

-- **What is found of an input**: it is of these parts, its run is taken with its table, and this is found of its report and its journal,
-- each of whose lines that isn't UTF-8 is read as `?`.
pub record IsFindingOf (input : List ℕ) (finding : Finding) : Type 0 where
  pub run_part : List ℕ
  pub report_part : List ℕ
  pub journal_part : List ℕ
  pub parts : IsOfParts input run_part report_part journal_part
  pub run : Run
  pub table : Table
  pub taken : IsRunWithTable run_part run table
  pub report : List ℕ
  pub journal : List ℕ
  pub report_read : IsReadText report_part report
  pub journal_read : IsReadText journal_part journal
  pub found : IsFoundOf run table report journal finding

-- ---- refusals

-- the bytes are refused as the run of an input: they are more than 1,048,576, or else they are refused for what they say
abbrev pub IsRefusedPart : List ℕ → Refusal → Type 0
IsRefusedPart bytes refusal =
    ((1_048_576 < length bytes) × (refusal ≡ whole_run TooLarge)) ⊎ ((length bytes ≤ 1_048_576) × IsRefusedAsRun bytes refusal)

-- **The input is refused**, for its run
pub record IsRefusedToAudit (input : List ℕ) (refusal : Refusal) : Type 0 where
  pub run_part : List ℕ
  pub report_part : List ℕ
  pub journal_part : List ℕ
  pub parts : IsOfParts input run_part report_part journal_part
  pub why : IsRefusedPart run_part refusal

-- ---- findings of one input

-- the findings are one, but for the room of a book
abbrev pub AreAlike : Finding → Finding → Type 0
AreAlike (Passes book) (Passes other) = book.turns ≡ other.turns
AreAlike (Fails line fault) (Fails other another) = (line ≡ other) × (fault ≡ another)
AreAlike finding other = ⊥
