-- The line of a run file that begins a further version of its tables: version K STAMP. Source: docs/RUN_FILE.md.
use Rattle.std.specs.Prelude.{◌≡◌, ℕ, suc, ◌<◌, ℤ, ◌≤ℤ◌, ◌<ℤ◌, List, [], ◌∷◌, ◌++◌, length, codes, decimal}
use Rattle.zone_minutes.specs.Civil.{IsCalendarMinute}
use Rattle.zone_minutes.specs.Stamp.{stamp_text}
use Rattle.zone_minutes.specs.declared.minute.Minute.{Minute}
use Rattle.run_text.specs.Grammar.{first_word}
use Rattle.run_text.specs.Run.{Run}
use Rattle.run_text.specs.declared.run.VersionLine.{VersionLine}

-- version K STAMP
abbrev pub version_line : ℕ → Minute → List ℕ
version_line number from = codes "version " ++ (decimal number ++ (32 ∷ stamp_text from.0))

-- the line's first word is that of a version's line
abbrev pub HasVersionWord : List ℕ → Type 0
HasVersionWord line = first_word line ≡ codes "version"

-- the instant of the last of some versions, the first of which come behind one of that instant
abbrev pub last_from : ℤ → List VersionLine → ℤ
last_from from [] = from
last_from from (version ∷ versions) = last_from version.from.0 versions

-- The line begins the next version of the run's tables, up to the seventh after the first: at an instant of the window that a stamp
-- can say, not before that of the version above it.
pub record BeginsVersion (run : Run) (line : List ℕ) (from : Minute) : Type 0 where
  pub is : line ≡ version_line (suc (length run.versions)) from
  pub few : length run.versions < 7
  pub calendar : IsCalendarMinute from.0
  pub in_order : last_from run.window.from.0 run.versions ≤ℤ from.0
  pub inside : from.0 <ℤ run.window.until.0

-- the line begins no version
abbrev pub BeginsNone : Run → List ℕ → Type 0
BeginsNone run line = (from : Minute) → BeginsVersion run line from → ⊥
