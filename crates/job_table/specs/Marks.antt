-- What the lines of a run's tables come to: zones that are named, and jobs, in the order of the lines.
-- Source: crontab(5) of cronie for `CRON_TZ`; anacrontab(5) of cronie, by anacron_text; the names, and that the delay is counted from the first hour, are this project's.
use Rattle.std.specs.Prelude.{◌≡◌, ◌⊎◌, ℕ, ◌+◌, ◌*◌, List, [], ◌∷◌, ◌++◌, Option, None, Some, if◌then◌else◌, codes, decimal, map, bytes_eq}
use Rattle.std.specs.List.{AllZip}
use Rattle.anacron_text.specs.Answers.{Said, AreAnswersBelow}
use Rattle.anacron_text.specs.LineBody.{AnacronLineBody, BlankBody as AnaBlank, CommentBody as AnaComment, AssignBody as AnaAssign, JobBody, AnacronJob as AnaJob}
use Rattle.anacron_text.specs.LogicalLines.{joined, line_count}
use Rattle.anacron_text.specs.Settings.{no_settings}
use Rattle.anacron_text.specs.declared.answer.PeriodWord.{PeriodWord}
use Rattle.anacron_text.specs.declared.answer.PeriodWord.TheVariants.{Days as DaysWord, Monthly as MonthlyWord, Yearly as YearlyWord}
use Rattle.cron_fields.specs.declared.field.Fields.{Fields}
use Rattle.crontab_text.specs.Answers.{IsLineOf}
use Rattle.crontab_text.specs.LineBody.{LineBody, BlankBody, CommentBody, AssignBody, EntryBody, NickBody}
use Rattle.crontab_text.specs.declared.answer.Style.{Style}
use Rattle.due_set.specs.declared.job.JobKind.{JobKind}
use Rattle.due_set.specs.declared.job.JobKind.TheVariants.{Crontab, Anacron, Never}
use Rattle.due_set.specs.declared.job.Period.{Period}
use Rattle.due_set.specs.declared.job.Period.TheVariants.{Days, Monthly, Yearly}
use Rattle.run_text.specs.Follow.{style_of}
use Rattle.run_text.specs.Run.{NamedZone, Section}
use Rattle.job_table.specs.Zones.{NamesZone, zone_number}
use Rattle.cron_fields.specs.Cause.{cause_number}
use Rattle.cron_fields.specs.declared.cause.Cause.TheVariants.{UnknownZone, DuplicateJob}

-- a line that names a zone, or a line that brings a job, which runs by the zone of that number: by its number in the run file
pub data Mark : Type 0 where
  MarksZone : (line : ℕ) → (name : List ℕ) → Mark
  MarksJob : (line : ℕ) → (name : List ℕ) → (zone : ℕ) → (kind : JobKind) → Mark

-- the name of a crontab's job: LABEL:k, with k from 1
abbrev pub crontab_job_name : List ℕ → ℕ → List ℕ
crontab_job_name label count = label ++ (58 ∷ decimal count)

-- when an entry runs: at the instants of its fields, or at no time, as `@reboot` (crontab(5))
abbrev pub kind_of : Option Fields → JobKind
kind_of None = Never
kind_of (Some fields) = Crontab fields

-- The marks of a table's lines, from the line of that number on, where so many entries stand from the first to the next one, and
-- the zone of that number is in force. `CRON_TZ` names the zone of the entries below it, up to the section's end (crontab(5) of
-- cronie).
abbrev pub marks_from : List NamedZone → (label : List ℕ) → (zone line count : ℕ) → List LineBody → List Mark
marks_from zones label zone line count [] = []
marks_from zones label zone line count (BlankBody ∷ bodies) = marks_from zones label zone (line + 1) count bodies
marks_from zones label zone line count (CommentBody ∷ bodies) = marks_from zones label zone (line + 1) count bodies
marks_from zones label zone line count (AssignBody name value ∷ bodies) =
    if bytes_eq name (codes "CRON_TZ") then MarksZone line value ∷ marks_from zones label (zone_number value zones) (line + 1) count bodies
    else marks_from zones label zone (line + 1) count bodies
marks_from zones label zone line count (EntryBody fields user command ∷ bodies) =
    MarksJob line (crontab_job_name label count) zone (Crontab fields) ∷ marks_from zones label zone (line + 1) (count + 1) bodies
marks_from zones label zone line count (NickBody fields user command ∷ bodies) =
    MarksJob line (crontab_job_name label count) zone (kind_of fields) ∷ marks_from zones label zone (line + 1) (count + 1) bodies

-- the name of an anacrontab's job: LABEL/IDENTIFIER
abbrev pub anacron_name : List ℕ → List ℕ → List ℕ
anacron_name label identifier = label ++ (47 ∷ identifier)

-- the period of a word
abbrev pub period_of : PeriodWord → Period
period_of (DaysWord days) = Days days
period_of MonthlyWord = Monthly
period_of YearlyWord = Yearly

-- When an anacrontab's job runs, in minutes of the day (anacrontab(5) of cronie): from its first hour on, and so much later as its
-- delay and what is added to it, and before its last hour.
abbrev pub anacron_kind : AnaJob → JobKind
anacron_kind job = Anacron (period_of job.period) (60 * job.first_hour + job.delay + job.added) (60 * job.last_hour)

-- The marks of a logical line of an anacrontab, which begins at that line of the run file. No variable changes the zone there.
abbrev pub anacron_mark : (label : List ℕ) → (zone line : ℕ) → AnacronLineBody → List Mark
anacron_mark label zone line AnaBlank = []
anacron_mark label zone line AnaComment = []
anacron_mark label zone line (AnaAssign name value) = []
anacron_mark label zone line (JobBody job) = MarksJob line (anacron_name label job.identifier) zone (anacron_kind job) ∷ []

-- the marks of an anacrontab's logical lines, by what each says: a line that is continued takes up more lines of the run file
abbrev pub anacron_marks : (label : List ℕ) → (zone line : ℕ) → List (List ℕ) → List AnacronLineBody → List Mark
anacron_marks label zone line [] bodies = []
anacron_marks label zone line (text ∷ lines) [] = []
anacron_marks label zone line (text ∷ lines) (body ∷ bodies) =
    anacron_mark label zone line body ++ anacron_marks label zone (line + line_count text) lines bodies

-- what each logical line of an anacrontab says
abbrev pub AreAnacronBodies : List (List ℕ) → List AnacronLineBody → Type 0
AreAnacronBodies lines bodies = AreAnswersBelow lines no_settings (map Said bodies)

-- the marks of a section's lines, of a crontab in that style or else of an anacrontab, where the zone of that number is in force
abbrev pub AreTableMarks : List NamedZone → Option Style → (section : Section) → (zone : ℕ) → List Mark → Type 0
AreTableMarks zones (Some style) section zone marks =
    (bodies : List LineBody) × AllZip (IsLineOf style section.label) section.lines bodies
    × (marks ≡ marks_from zones section.label zone (section.line + 1) 1 bodies)
AreTableMarks zones None section zone marks =
    (bodies : List AnacronLineBody) × AreAnacronBodies (joined section.lines) bodies
    × (marks ≡ anacron_marks section.label zone (section.line + 1) (joined section.lines) bodies)

-- the marks of a section: the line that opens it names the zone of its first jobs
pub record AreSectionMarks (zones : List NamedZone) (section : Section) (marks : List Mark) : Type 0 where
  pub lines : List Mark
  pub are : AreTableMarks zones (style_of section.kind) section (zone_number section.zone zones) lines
  pub all : marks ≡ MarksZone section.line section.zone ∷ lines

-- the marks of some sections, in the order of the lines
abbrev pub AreMarks : List NamedZone → List Section → List Mark → Type 0
AreMarks zones [] marks = marks ≡ []
AreMarks zones (section ∷ sections) marks =
    (first : List Mark) × (others : List Mark) × AreSectionMarks zones section first × AreMarks zones sections others × (marks ≡ first ++ others)

-- one of the marks brings a job of the name
abbrev pub BringsJob : List ℕ → List Mark → Type 0
BringsJob name [] = ⊥
BringsJob name (MarksZone line zone ∷ marks) = BringsJob name marks
BringsJob name (MarksJob line other zone kind ∷ marks) = (other ≡ name) ⊎ BringsJob name marks

-- a mark is at fault behind some others: its zone is neither UTC nor one of the run's, or a job of its name is there already
abbrev pub IsMarkFault : List NamedZone → (before : List Mark) → Mark → (line cause : ℕ) → Type 0
IsMarkFault zones before (MarksZone at name) line cause = (NamesZone name zones → ⊥) × (line ≡ at) × (cause ≡ cause_number UnknownZone)
IsMarkFault zones before (MarksJob at name zone kind) line cause = BringsJob name before × (line ≡ at) × (cause ≡ cause_number DuplicateJob)

-- none of the marks, which stand behind some others, is at fault
abbrev pub AreSoundBehind : List NamedZone → List Mark → List Mark → Type 0
AreSoundBehind zones before [] = Unit {0}
AreSoundBehind zones before (mark ∷ marks) =
    ((line cause : ℕ) → IsMarkFault zones before mark line cause → ⊥) × AreSoundBehind zones (before ++ mark ∷ []) marks

-- none of the marks is at fault
abbrev pub AreSound : List NamedZone → List Mark → Type 0
AreSound zones marks = AreSoundBehind zones [] marks

-- the first mark at fault
pub record IsFirstMarkFault (zones : List NamedZone) (marks : List Mark) (line cause : ℕ) : Type 0 where
  pub before : List Mark
  pub mark : Mark
  pub after : List Mark
  pub parts : marks ≡ before ++ mark ∷ after
  pub sound : AreSound zones before
  pub here : IsMarkFault zones before mark line cause
