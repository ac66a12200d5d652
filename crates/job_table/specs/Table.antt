-- The table of a run's jobs, and for what a run has none.
use Rattle.std.specs.Prelude.{◌≡◌, ◌⊎◌, ℕ, ◌<◌, ◌≤◌, List, [], ◌∷◌, ◌++◌, length, map, flat_map, sum, zip, All, Some, IsSomeAnd, slice_get}
use Rattle.std.specs.List.{AllByRecursion}
use Rattle.due_set.specs.Table.{Job, Table, IsShare, job_of_version, table_of_versions, version_count}
use Rattle.run_text.specs.Run.{NamedZone, Run}
use Rattle.run_text.specs.declared.refusal.Refusal.{Refusal}
use Rattle.zone_minutes.specs.Zone.{IsReadable, IsSourceRefused}
use Rattle.job_table.specs.Marks.{Mark, MarksZone, MarksJob, AreSound, IsFirstMarkFault}
use Rattle.job_table.specs.Versions.{AreVersionMarks, job_names, version_froms, version_under}
use Rattle.job_table.specs.Zones.{AreReadable, zones_over}
use Rattle.cron_fields.specs.Cause.{cause_number}
use Rattle.cron_fields.specs.declared.cause.Cause.{Cause}
use Rattle.cron_fields.specs.declared.cause.Cause.TheVariants.{TooManyJobs, TooManyDue, BadZone}

-- the jobs that marks bring, in order
abbrev pub jobs_of : List Mark → List Job
jobs_of [] = []
jobs_of (MarksZone line name ∷ marks) = jobs_of marks
jobs_of (MarksJob line name zone kind ∷ marks) = record { name = name; zone = zone; kind = kind } ∷ jobs_of marks

-- the names of the jobs of all versions
abbrev pub names_in : List (List Mark) → List (List ℕ)
names_in marks = job_names (flat_map jobs_of marks)

-- The table of a run whose versions have these marks: in each version a job of each name, which never runs in a version without it.
abbrev pub table_of : Run → List (List Mark) → Table
table_of run marks =
    table_of_versions run.window run.grace (zones_over run.window run.zones)
    (map (version_under (names_in marks)) (zip (version_froms run) (map jobs_of marks)))

-- each number is how much the job at its place takes of the limit on due instants in a version
abbrev pub AreShares : Table → ℕ → List ℕ → Type 0
AreShares table version shares =
    (number share : ℕ) → slice_get shares number ≡ Some share
    → IsSomeAnd (job_of_version table version number) (λ job. IsShare table version number job.kind share)

-- how much the jobs of a table take of the limit on due instants in a version
pub record IsVersionCount (table : Table) (version count : ℕ) : Type 0 where
  pub shares : List ℕ
  pub jobs : length shares ≡ length table.jobs
  pub each : AreShares table version shares
  pub total : count ≡ sum shares

-- how much the jobs of a table take of the limit on due instants over all versions
pub record IsDueCount (table : Table) (count : ℕ) : Type 0 where
  pub counts : List ℕ
  pub versions : length counts ≡ version_count table
  pub each : (version part : ℕ) → slice_get counts version ≡ Some part → IsVersionCount table version part
  pub total : count ≡ sum counts

-- the run's tables come to this one: `jiff` reads each zone, no line is at fault, and over all versions there aren't too many jobs or
-- due instants
pub record IsTableOf (run : Run) (table : Table) : Type 0 where
  pub readable : AreReadable run.zones
  pub marks : List (List Mark)
  pub are : AreVersionMarks run marks
  pub sound : All (AreSound run.zones) marks
  pub few_jobs : length (names_in marks) ≤ 1000
  pub is : table ≡ table_of run marks
  pub count : ℕ
  pub counted : IsDueCount table count
  pub few_due : count ≤ 20_000

-- a line is refused as a whole
abbrev pub at_line : ℕ → Cause → Refusal
at_line line cause = record { line = line; cause = cause_number cause; place = 0 }

-- a run is refused as a whole
abbrev pub whole_run : Cause → Refusal
whole_run cause = at_line 0 cause

-- `jiff` refuses a zone, and reads those before it: the first such line is at fault
pub record HasBadZone (zones : List NamedZone) (refusal : Refusal) : Type 0 where
  pub before : List NamedZone
  pub zone : NamedZone
  pub after : List NamedZone
  pub parts : zones ≡ before ++ zone ∷ after
  pub readable : AreReadable before
  pub refused : IsSourceRefused zone.source
  pub is : refusal ≡ at_line zone.line BadZone

-- the first line of a version at fault, by its number
pub record HasLineAtFault (zones : List NamedZone) (marks : List Mark) (refusal : Refusal) : Type 0 where
  pub first : IsFirstMarkFault zones marks refusal.line refusal.cause
  pub place : refusal.place ≡ 0

-- the first version that has a line at fault, by the first such line
pub record HasVersionAtFault (zones : List NamedZone) (marks : List (List Mark)) (refusal : Refusal) : Type 0 where
  pub before : List (List Mark)
  pub here : List Mark
  pub after : List (List Mark)
  pub parts : marks ≡ before ++ here ∷ after
  pub sound : All (AreSound zones) before
  pub fault : HasLineAtFault zones here refusal

-- there are more than 1,000 names of jobs over all versions
pub record HasTooManyJobs (zones : List NamedZone) (marks : List (List Mark)) (refusal : Refusal) : Type 0 where
  pub sound : All (AreSound zones) marks
  pub many : 1000 < length (names_in marks)
  pub is : refusal ≡ whole_run TooManyJobs

-- there are more than 20,000 due instants over all versions
pub record HasTooManyDue (run : Run) (marks : List (List Mark)) (refusal : Refusal) : Type 0 where
  pub sound : All (AreSound run.zones) marks
  pub few : length (names_in marks) ≤ 1000
  pub count : ℕ
  pub counted : IsDueCount (table_of run marks) count
  pub many : 20_000 < count
  pub is : refusal ≡ whole_run TooManyDue

-- the tables of a run whose versions have these marks are refused
abbrev pub AreMarksRefused : Run → List (List Mark) → Refusal → Type 0
AreMarksRefused run marks refusal =
    HasVersionAtFault run.zones marks refusal ⊎ (HasTooManyJobs run.zones marks refusal ⊎ HasTooManyDue run marks refusal)

-- `jiff` reads each zone, and the run's tables are refused
pub record HasBadTables (run : Run) (refusal : Refusal) : Type 0 where
  pub readable : AreReadable run.zones
  pub marks : List (List Mark)
  pub are : AreVersionMarks run marks
  pub why : AreMarksRefused run marks refusal

-- for what a run has no table
abbrev pub IsRefusedRun : Run → Refusal → Type 0
IsRefusedRun run refusal = HasBadZone run.zones refusal ⊎ HasBadTables run refusal

-- `jiff` reads or refuses each of the zones
abbrev pub AreDecided : List NamedZone → Type 0
AreDecided zones = AllByRecursion (λ zone. IsReadable zone.source ⊎ IsSourceRefused zone.source) zones
