-- The check of a frame, as a text: each line of its tables that breaks a rule. Source: docs/RUN_FILE.md.
use Rattle.std.specs.Prelude.{◌≡◌, ℕ, ◌+◌, List, [], ◌∷◌, ◌++◌, length, map, flat_map, zip, codes, decimal, Option, None, Some}
use Rattle.std.specs.List.{AllZip}
use Rattle.crontab_text.specs.Answers.{LineAnswer, Said as CrontabSaid, Broken as CrontabBroken, IsAnswer}
use Rattle.crontab_text.specs.declared.answer.Style.{Style}
use Rattle.anacron_text.specs.Answers.{AnacronLineAnswer, Said as AnacronSaid, Broken as AnacronBroken, AreAnswersBelow}
use Rattle.anacron_text.specs.LogicalLines.{joined, line_count}
use Rattle.anacron_text.specs.Settings.{no_settings}
use Rattle.anacron_text.specs.declared.settings.Settings.{Settings}
use Rattle.run_text.specs.Follow.{style_of}
use Rattle.run_text.specs.Run.{Run, Section}
use Rattle.cron_io.specs.Lines.{text_of_lines}
use Rattle.due_list.specs.declared.fault.TableFault.{TableFault}

-- The numbers in a file of lines that follow one another, the first of which has that number. Each is made of so many lines of
-- the file.
abbrev pub numbers_from : (List ℕ → ℕ) → ℕ → List (List ℕ) → List ℕ
numbers_from size first [] = []
numbers_from size first (line ∷ lines) = first ∷ numbers_from size (first + size line) lines

-- the fault of a line of a crontab that has that number and this answer, if it has one
abbrev pub crontab_fault : ℕ → LineAnswer → List TableFault
crontab_fault number (CrontabSaid body) = []
crontab_fault number (CrontabBroken cause place) = record { line = number; cause = cause; place = place } ∷ []

-- the same of a logical line of an anacrontab
abbrev pub anacrontab_fault : ℕ → AnacronLineAnswer → List TableFault
anacrontab_fault number (AnacronSaid body) = []
anacrontab_fault number (AnacronBroken cause place) = record { line = number; cause = cause; place = place } ∷ []

-- the faults of a crontab's lines, the first of which has that number
pub record AreCrontabFaults (style : Style) (owner : List ℕ) (first : ℕ) (lines : List (List ℕ)) (faults : List TableFault) : Type 0 where
  pub answers : List LineAnswer
  pub are : AllZip (IsAnswer style owner) lines answers
  pub faults_are : faults ≡ flat_map (λ row. crontab_fault row.0 row.1) (zip (numbers_from (λ line. 1) first lines) answers)

-- the faults of an anacrontab's logical lines, the first of which has that number and stands below these settings
pub record AreAnacrontabFaults (settings : Settings) (first : ℕ) (lines : List (List ℕ)) (faults : List TableFault) : Type 0 where
  pub answers : List AnacronLineAnswer
  pub are : AreAnswersBelow lines settings answers
  pub faults_are : faults ≡ flat_map (λ row. anacrontab_fault row.0 row.1) (zip (numbers_from line_count first lines) answers)

-- the faults of a section's lines, which are read so
abbrev pub AreFaultsBy : Option Style → Section → List TableFault → Type 0
AreFaultsBy (Some style) section faults = AreCrontabFaults style section.label (section.line + 1) section.lines faults
AreFaultsBy None section faults = AreAnacrontabFaults no_settings (section.line + 1) (joined section.lines) faults

-- the faults of a section's lines
abbrev pub AreFaultsOf : Section → List TableFault → Type 0
AreFaultsOf section faults = AreFaultsBy (style_of section.kind) section faults

-- the faults of all lines of some sections, in order
pub record AreFaultsIn (sections : List Section) (faults : List TableFault) : Type 0 where
  pub parts : List (List TableFault)
  pub are : AllZip AreFaultsOf sections parts
  pub faults_are : faults ≡ flat_map (λ part. part) parts

-- line L cause C at P
abbrev pub fault_line : TableFault → List ℕ
fault_line fault = codes "line " ++ decimal fault.line ++ codes " cause " ++ decimal fault.cause ++ codes " at " ++ decimal fault.place

-- the lines of a check that tells these faults
abbrev pub check_lines : List TableFault → List (List ℕ)
check_lines faults = codes "cron check 1" ∷ (map fault_line faults ++ (codes "faults " ++ decimal (length faults)) ∷ codes "end" ∷ [])

-- the text is the check of what a frame says
pub record IsCheckText (run : Run) (text : List ℕ) : Type 0 where
  pub faults : List TableFault
  pub are : AreFaultsIn run.sections faults
  pub text_is : text ≡ text_of_lines (check_lines faults)
