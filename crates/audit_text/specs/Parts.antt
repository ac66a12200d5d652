-- How what an audit reads falls into a run, a report and a journal. Source: this project; lines by crontab_text.
use Rattle.std.specs.Prelude.{◌≡◌, ◌≢◌, ◌⊎◌, ℕ, List, [], ◌∷◌, ◌++◌, codes}
use Rattle.std.specs.List.{AllByRecursion}
use Rattle.crontab_text.specs.Lines.{lines_of}

-- the line that begins a report
abbrev pub report_head : List ℕ
report_head = codes "cron report 1"

-- the line that ends it
abbrev pub report_end : List ℕ
report_end = codes "end"

-- none of the lines is this one
abbrev pub NoneIs : List ℕ → List (List ℕ) → Type 0
NoneIs line lines = AllByRecursion (λ other. other ≢ line) lines

-- the lines begin with one that begins a report, and none behind it does
abbrev pub BeginsReport : List (List ℕ) → Type 0
BeginsReport lines = (others : List (List ℕ)) × (lines ≡ report_head ∷ others) × NoneIs report_head others

-- the report begins with the last line of the input that begins one; where there is none, the run is all
abbrev pub BeginsAtLast : (run report journal : List ℕ) → Type 0
BeginsAtLast run report journal =
    BeginsReport (lines_of report ++ lines_of journal) ⊎ (NoneIs report_head (lines_of run) × (report ≡ []))

-- the report reaches to its first line that ends one; where there is none, the journal is empty
abbrev pub EndsAtFirst : (report journal : List ℕ) → Type 0
EndsAtFirst report journal =
    ((others : List (List ℕ)) × (lines_of report ≡ others ++ report_end ∷ []) × NoneIs report_end others)
    ⊎ (NoneIs report_end (lines_of report) × (journal ≡ []))

-- **The input is this run, this report and this journal**, one after the other. It is cut between lines: its lines are theirs.
pub record IsOfParts (input run report journal : List ℕ) : Type 0 where
  pub bytes : input ≡ run ++ (report ++ journal)
  pub lines : lines_of input ≡ lines_of run ++ (lines_of report ++ lines_of journal)
  pub begins : BeginsAtLast run report journal
  pub ends : EndsAtFirst report journal
