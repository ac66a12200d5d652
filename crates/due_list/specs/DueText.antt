-- The due list of a table, as a text. Source: docs/RUN_FILE.md.
use Rattle.std.specs.Prelude.{◌≡◌, ℕ, List, [], ◌∷◌, ◌++◌, length, map, flat_map, take, codes, decimal, ℤ}
use Rattle.std.specs.List.{AllZip, range_with_len}
use Rattle.jiff.specs.Types.{TimeZone}
use Rattle.zone_minutes.specs.Stamp.{stamp_text}
use Rattle.zone_minutes.specs.Zone.{local_of}
use Rattle.due_set.specs.Table.{Job, Table, IsJobDueList, IsJobIn, jobs_in, version_count}
use Rattle.due_set.specs.declared.job.JobKind.{JobKind}
use Rattle.due_set.specs.declared.job.JobKind.TheVariants.{Anacron}
use Rattle.cluster_sched.specs.Names.{name_text}
use Rattle.cron_io.specs.Lines.{text_of_lines}

-- job NAME version V count C
abbrev pub due_job_line : List ℕ → ℕ → ℕ → List ℕ
due_job_line name version count = codes "job " ++ name ++ codes " version " ++ decimal version ++ codes " count " ++ decimal count

-- anacron NAME version V
abbrev pub anacron_line : List ℕ → ℕ → List ℕ
anacron_line name version = codes "anacron " ++ name ++ codes " version " ++ decimal version

-- a civil minute as YYYY-MM-DDTHH:MM: its stamp without the `Z`
abbrev pub local_text : ℤ → List ℕ
local_text minute = take 16 (stamp_text minute)

-- due NAME@STAMP LOCAL: the launch of the job at the instant, and what the zone's clock shows then
abbrev pub due_line : Table → ℕ → TimeZone → ℤ → List ℕ
due_line table number zone instant =
    codes "due " ++ name_text table (record { job = number; at = instant }) ++ 32 ∷ local_text (local_of zone instant)

-- the lines of a job that doesn't run by its period in a version: how many due instants it has there, and each of them in order
pub record AreEntryLines (table : Table) (version number : ℕ) (job : Job) (zone : TimeZone) (lines : List (List ℕ)) : Type 0 where
  pub instants : List ℤ
  pub are_due : IsJobDueList table version number instants
  pub lines_are : lines ≡ due_job_line job.name version (length instants) ∷ map (due_line table number zone) instants

-- the lines of the job in a version, of a job that runs so there
abbrev pub AreLinesBy : JobKind → Table → (version number : ℕ) → Job → TimeZone → List (List ℕ) → Type 0
AreLinesBy (Anacron period first last) table version number job zone lines = lines ≡ anacron_line job.name version ∷ []
AreLinesBy kind table version number job zone lines = AreEntryLines table version number job zone lines

-- the lines of the job of that number, as a version has it
pub record AreLinesOfJob (table : Table) (version number : ℕ) (lines : List (List ℕ)) : Type 0 where
  pub job : Job
  pub zone : TimeZone
  pub is_in : IsJobIn table version number job zone
  pub are : AreLinesBy job.kind table version number job zone lines

-- the parts are the lines of the jobs of these numbers, as a version has them
abbrev pub AreLinesOfJobs : Table → ℕ → List ℕ → List (List (List ℕ)) → Type 0
AreLinesOfJobs table version numbers parts = AllZip (AreLinesOfJob table version) numbers parts

-- the lines of a version: those of each of its jobs, in the order of the jobs
pub record AreLinesOfVersion (table : Table) (version : ℕ) (lines : List (List ℕ)) : Type 0 where
  pub parts : List (List (List ℕ))
  pub are : AreLinesOfJobs table version (range_with_len 0 (length (jobs_in table version))) parts
  pub lines_are : lines ≡ flat_map (λ part. part) parts

-- the parts are the lines of these versions
abbrev pub AreLinesOfVersions : Table → List ℕ → List (List (List ℕ)) → Type 0
AreLinesOfVersions table versions parts = AllZip (AreLinesOfVersion table) versions parts

-- the lines of a due list, given those of each version
abbrev pub due_lines : List (List (List ℕ)) → List (List ℕ)
due_lines parts = codes "cron due 1" ∷ (flat_map (λ part. part) parts ++ codes "end" ∷ [])

-- the text is the due list of the table: the lines of each version, in the order of the versions
pub record IsDueText (table : Table) (text : List ℕ) : Type 0 where
  pub parts : List (List (List ℕ))
  pub are : AreLinesOfVersions table (range_with_len 0 (version_count table)) parts
  pub text_is : text ≡ text_of_lines (due_lines parts)
