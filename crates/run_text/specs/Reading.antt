-- What a run file says, and for what it is refused. Relations on all its lines. Source: docs/RUN_FILE.md.
use Rattle.std.specs.Prelude.{◌≡◌, ◌⊎◌, ℕ, ◌+◌, ◌<◌, ◌≤◌, ◌^◌, List, [], ◌∷◌, length, All, Ok, ⊤}
use Rattle.hex.specs.Hex.{decode_of}
use Rattle.crontab_text.specs.Lines.{lines_of}
use Rattle.run_text.specs.Follow.{Above, Nothing, End, MayStandBelow, IsOfLine, Refuses, Misses}
use Rattle.run_text.specs.Run.{Run, run_of}
use Rattle.run_text.specs.declared.refusal.Refusal.{Refusal}
use Rattle.run_text.specs.declared.table.Tables.{Tables}
use Rattle.run_text.specs.declared.run.RunFile.{RunFile}
use Rattle.run_text.specs.declared.run.Section.{Section}
use Rattle.run_text.specs.declared.run.ZoneLine.{ZoneLine}
use Rattle.run_text.specs.declared.run.ZoneText.{ZoneText}
use Rattle.run_text.specs.declared.run.ZoneText.TheVariants.{Fixed, Posix, Hex}
use Rattle.run_text.specs.declared.table.Tables.TheVariants.{Judged, Counted}

-- The lines, the first of which has that number, may stand below these, one after another up to the last, and say this run.
abbrev pub ReadsFrom : Tables → ℕ → Above → List (List ℕ) → Run → Type 0
ReadsFrom tables number above [] run = above ≡ End run
ReadsFrom tables number above (line ∷ lines) run =
    (next : Above) × MayStandBelow tables number (length lines) above line next × ReadsFrom tables (number + 1) next lines run

-- The first of the lines that may not stand where it stands is refused so, or else the line that is missing.
abbrev pub RefusesFrom : Tables → ℕ → Above → List (List ℕ) → Refusal → Type 0
RefusesFrom tables number above [] refusal = Misses above refusal.cause × IsOfLine number refusal
RefusesFrom tables number above (line ∷ lines) refusal =
    Refuses tables number (length lines) above line refusal
    ⊎ ((next : Above) × MayStandBelow tables number (length lines) above line next × RefusesFrom tables (number + 1) next lines refusal)

-- the text is a run file, and says this run
abbrev pub IsRunText : List ℕ → Run → Type 0
IsRunText text run = ReadsFrom Judged 1 Nothing (lines_of text) run

-- the text is no run file, or has a command without a form, and this is what is at fault in it
abbrev pub IsRefusedText : List ℕ → Refusal → Type 0
IsRefusedText text refusal = RefusesFrom Judged 1 Nothing (lines_of text) refusal

-- the text is a run file, or it is refused
abbrev pub HasReading : List ℕ → Type 0
HasReading text = ((run : Run) × IsRunText text run) ⊎ ((refusal : Refusal) × IsRefusedText text refusal)

-- the text is a run file but for what the lines of its tables say, and this run is its frame
abbrev pub IsFrameText : List ℕ → Run → Type 0
IsFrameText text run = ReadsFrom Counted 1 Nothing (lines_of text) run

-- the text has no frame, and this is what is at fault in it
abbrev pub IsRefusedFrame : List ℕ → Refusal → Type 0
IsRefusedFrame text refusal = RefusesFrom Counted 1 Nothing (lines_of text) refusal

-- the text has a frame, or it is refused
abbrev pub HasFrame : List ℕ → Type 0
HasFrame text = ((run : Run) × IsFrameText text run) ⊎ ((refusal : Refusal) × IsRefusedFrame text refusal)

-- no section's text is longer than the file's
abbrev pub FitInFile : ℕ → List Section → Type 0
FitInFile size sections = All (λ section. length section.text.now ≤ size) sections

-- the hexadecimal digits of a zone stand for some bytes
abbrev pub AreDigits : ZoneText → Type 0
AreDigits (Fixed minutes) = ⊤
AreDigits (Posix text) = ⊤
AreDigits (Hex digits) = (bytes : List ℕ) × (decode_of digits.now ≡ Ok bytes)

-- the digits of a zone are digits
abbrev pub HasDigits : ZoneLine → Type 0
HasDigits zone = AreDigits zone.source

-- the run is one that is read from some text
pub record IsReadRun (run : RunFile) : Type 0 where
  pub text : List ℕ
  pub short : length text < 2 ^ 32
  pub says : IsRunText text (run_of run)
  pub parts : FitInFile (length text) run.sections.items
  pub digits : All HasDigits run.zones.items

-- the run is one whose frame is read from some text
pub record IsReadFrame (run : RunFile) : Type 0 where
  pub text : List ℕ
  pub short : length text < 2 ^ 32
  pub says : IsFrameText text (run_of run)
  pub parts : FitInFile (length text) run.sections.items
