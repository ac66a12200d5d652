-- Marks that are collected, and the jobs that they have brought. Private functions alone cite it.
use Rattle.std.specs.Prelude.{◌≡◌, ℕ, ◌+◌, Bool, true, false, List, [], ◌∷◌, ◌++◌, if◌then◌else◌, codes, bytes_eq, map, All}
use Rattle.crontab_text.specs.LineBody.{LineBody, BlankBody, CommentBody, AssignBody, EntryBody, NickBody}
use Rattle.due_set.specs.Table.{Job}
use Rattle.run_text.specs.declared.refusal.Refusal.{Refusal}
use Rattle.run_text.specs.Run.{NamedZone, Section, Run}
use Rattle.job_table.specs.Marks.{Mark, marks_from, AreSectionMarks, AreMarks, AreSound}
use Rattle.job_table.specs.Table.{jobs_of, at_line, HasLineAtFault, HasVersionAtFault}
use Rattle.job_table.specs.Versions.{AreVersionMarks, sections_in}
use Rattle.job_table.specs.declared.crontab.Above.{Above}
use Rattle.job_table.specs.Zones.{NamesZone, zone_number}
use Rattle.cron_fields.specs.declared.cause.Cause.TheVariants.{UnknownZone}

-- none of the marks is at fault, and these are the jobs that they bring
pub record Collected (zones : List NamedZone) (marks : List Mark) (jobs : List Job) : Type 0 where
  pub sound : AreSound zones marks
  pub are : jobs ≡ jobs_of marks

-- some marks more are collected, whatever the marks before them were
abbrev pub AddsMarks : List NamedZone → (old new : List Job) → List Mark → Type 0
AddsMarks zones old new more = (marks : List Mark) → Collected zones marks old → Collected zones (marks ++ more) new

-- some marks more have one at fault, whatever the marks before and behind them are
abbrev pub RefusesMarks : List NamedZone → (old : List Job) → List Mark → Refusal → Type 0
RefusesMarks zones old more refusal =
    (marks others : List Mark) → Collected zones marks old → HasLineAtFault zones ((marks ++ more) ++ others) refusal

-- the marks of one line
abbrev pub line_marks : List NamedZone → (label : List ℕ) → (zone line number : ℕ) → LineBody → List Mark
line_marks zones label zone line number body = marks_from zones label zone line number (body ∷ [])

-- the line is an entry
abbrev pub is_entry : LineBody → Bool
is_entry BlankBody = false
is_entry CommentBody = false
is_entry (AssignBody name value) = false
is_entry (EntryBody fields user command) = true
is_entry (NickBody fields user command) = true

-- the number of the zone in force below a line, where that of this number is in force at it
abbrev pub zone_below : List NamedZone → ℕ → LineBody → ℕ
zone_below zones zone BlankBody = zone
zone_below zones zone CommentBody = zone
zone_below zones zone (AssignBody name value) = if bytes_eq name (codes "CRON_TZ") then zone_number value zones else zone
zone_below zones zone (EntryBody fields user command) = zone
zone_below zones zone (NickBody fields user command) = zone

-- one entry, or none
abbrev pub entries_of : Bool → ℕ
entries_of true = 1
entries_of false = 0

-- what stands above the next line, where this stands above a line that says so
pub record IsBelow (zones : List NamedZone) (above : Above) (body : LineBody) (below : Above) : Type 0 where
  pub entries : below.entries ≡ above.entries + entries_of (is_entry body)
  pub zone : below.zone ≡ zone_below zones above.zone body

-- the name is no zone's, which is the line's fault
abbrev pub NamesNoZone : List NamedZone → List ℕ → ℕ → Refusal → Type 0
NamesNoZone zones name line refusal = (NamesZone name zones → ⊥) × (refusal ≡ at_line line UnknownZone)

-- the marks of a section are collected
pub record AddsSection (zones : List NamedZone) (old new : List Job) (section : Section) : Type 0 where
  pub marks : List Mark
  pub are : AreSectionMarks zones section marks
  pub adds : AddsMarks zones old new marks

-- one of the marks of a section is at fault
pub record RefusesSection (zones : List NamedZone) (old : List Job) (section : Section) (refusal : Refusal) : Type 0 where
  pub marks : List Mark
  pub are : AreSectionMarks zones section marks
  pub refuses : RefusesMarks zones old marks refusal

-- how many of the lines are entries
abbrev pub entry_lines_in : List LineBody → ℕ
entry_lines_in [] = 0
entry_lines_in (body ∷ bodies) = entries_of (is_entry body) + entry_lines_in bodies

-- the marks of a version have these jobs, and none of them is at fault
pub record HasMarkedJobs (run : Run) (version : ℕ) (jobs : List Job) : Type 0 where
  pub marks : List Mark
  pub are : AreMarks run.zones (sections_in run version) marks
  pub collected : Collected run.zones marks jobs

-- one of the marks of a version is at fault
pub record HasFaultyMarks (run : Run) (version : ℕ) (refusal : Refusal) : Type 0 where
  pub marks : List Mark
  pub are : AreMarks run.zones (sections_in run version) marks
  pub fault : HasLineAtFault run.zones marks refusal

-- the marks of each version have the jobs of its place, and none of them is at fault
pub record HaveMarkedJobs (run : Run) (jobs : List (List Job)) : Type 0 where
  pub marks : List (List Mark)
  pub are : AreVersionMarks run marks
  pub sound : All (AreSound run.zones) marks
  pub jobs_are : jobs ≡ map jobs_of marks

-- one of the marks of some version is at fault, the first such one
pub record HasFaultyVersion (run : Run) (refusal : Refusal) : Type 0 where
  pub marks : List (List Mark)
  pub are : AreVersionMarks run marks
  pub fault : HasVersionAtFault run.zones marks refusal
