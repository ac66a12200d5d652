-- Which bytes are taken as a run, and for what others are refused. Source: docs/RUN_FILE.md.
use Rattle.std.specs.Prelude.{◌⊎◌, ℕ, ◌≤◌, List, length}
use Rattle.crontab_text.specs.Lines.{lines_of}
use Rattle.due_set.specs.Table.{Table}
use Rattle.run_text.specs.Reading.{IsRunText, IsRefusedText, IsFrameText, IsRefusedFrame}
use Rattle.run_text.specs.Run.{Run}
use Rattle.run_text.specs.declared.refusal.Refusal.{Refusal}
use Rattle.job_table.specs.Table.{IsTableOf, IsRefusedRun}
use Rattle.run_input.specs.Text.{AreTexts, IsNotText}

-- the input is the text of this run, whose jobs have this table
pub record IsRunWithTable (bytes : List ℕ) (run : Run) (table : Table) : Type 0 where
  pub short : length bytes ≤ 1_048_576
  pub texts : AreTexts (lines_of bytes)
  pub says : IsRunText bytes run
  pub table_is : IsTableOf run table

-- the input is the text of this run, whose tables may have lines that break a rule
pub record IsTakenFrame (bytes : List ℕ) (run : Run) : Type 0 where
  pub short : length bytes ≤ 1_048_576
  pub texts : AreTexts (lines_of bytes)
  pub says : IsFrameText bytes run

-- the text of a run is refused for the run's tables
abbrev pub IsRefusedTable : List ℕ → Refusal → Type 0
IsRefusedTable bytes refusal = (run : Run) × IsRunText bytes run × IsRefusedRun run refusal

-- the bytes are text, and are refused as a run file, or else for the tables in it
pub record IsRefusedRunFile (bytes : List ℕ) (refusal : Refusal) : Type 0 where
  pub texts : AreTexts (lines_of bytes)
  pub why : IsRefusedText bytes refusal ⊎ IsRefusedTable bytes refusal

-- the bytes are text, and are refused as a run file, whatever the lines of its tables say
pub record IsRefusedFrameFile (bytes : List ℕ) (refusal : Refusal) : Type 0 where
  pub texts : AreTexts (lines_of bytes)
  pub why : IsRefusedFrame bytes refusal

-- the bytes are refused for what they say: they are no text, or else no run that is taken
abbrev pub IsRefusedAsRun : List ℕ → Refusal → Type 0
IsRefusedAsRun bytes refusal = IsNotText bytes refusal ⊎ IsRefusedRunFile bytes refusal

-- the bytes are refused by a check: they are no text, or else not the text of a run
abbrev pub IsRefusedAsFrame : List ℕ → Refusal → Type 0
IsRefusedAsFrame bytes refusal = IsNotText bytes refusal ⊎ IsRefusedFrameFile bytes refusal
