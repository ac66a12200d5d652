-- The versions of a run's tables: the sections of each, and its jobs under the names of all.
-- Source: this project; the lines by docs/RUN_FILE.md, versions by docs/TABLES.md.
use Rattle.std.specs.Prelude.{◌≡◌, ℕ, zero, suc, ℤ, List, [], ◌∷◌, ◌++◌, length, map, take, drop, Option, None, Some, if◌then◌else◌, bytes_eq, slice_get}
use Rattle.std.specs.List.{fold, list_any}
use Rattle.due_set.specs.Table.{Job, Version, own_name}
use Rattle.due_set.specs.declared.job.JobKind.TheVariants.{Never}
use Rattle.run_text.specs.Run.{Run, Section}
use Rattle.run_text.specs.declared.run.VersionLine.{VersionLine}
use Rattle.job_table.specs.Marks.{Mark, AreMarks}

-- how many sections stand above the line of a version, of so many in all; behind the last version all of them
abbrev pub sections_above : ℕ → Option VersionLine → ℕ
sections_above all None = all
sections_above all (Some version) = version.first_section

-- how many of the run's sections stand above a version: none above the first
abbrev pub first_section : Run → ℕ → ℕ
first_section run zero = 0
first_section run (suc place) = sections_above (length run.sections) (slice_get run.versions place)

-- the sections of a version: those below its line and above that of the next one
abbrev pub sections_in : Run → ℕ → List Section
sections_in run version = drop (first_section run version) (take (first_section run (suc version)) run.sections)

-- each list has the marks of the version of its place
pub record AreVersionMarks (run : Run) (marks : List (List Mark)) : Type 0 where
  pub versions : length marks ≡ suc (length run.versions)
  pub each : (version : ℕ) (here : List Mark) → slice_get marks version ≡ Some here → AreMarks run.zones (sections_in run version) here

-- the names, and this one behind them if it isn't among them
abbrev pub with_name : List (List ℕ) → List ℕ → List (List ℕ)
with_name names name = if list_any (λ other. bytes_eq other name) names then names else names ++ name ∷ []

-- the names of some jobs, each once, in the order of the first jobs of a name
abbrev pub job_names : List Job → List (List ℕ)
job_names jobs = fold with_name [] (map own_name jobs)

-- the job of a name; one that never runs, where none has the name
abbrev pub job_named : List ℕ → List Job → Job
job_named name [] = record { name = name; zone = 0; kind = Never }
job_named name (job ∷ jobs) = if bytes_eq job.name name then job else job_named name jobs

-- the jobs under these names
abbrev pub jobs_under : List (List ℕ) → List Job → List Job
jobs_under names jobs = map (λ name. job_named name jobs) names

-- from when each version may be in force: the first one from the window's first instant on
abbrev pub version_froms : Run → List ℤ
version_froms run = run.window.from.0 ∷ map (λ (version : VersionLine). version.from.0) run.versions

-- a version of jobs under these names, which may be in force from an instant on
abbrev pub version_under : List (List ℕ) → ℤ × List Job → Version
version_under names version = record { from = version.0; jobs = jobs_under names version.1 }
