-- What a table says of its jobs.
use Rattle.std.specs.Prelude.{◌≡◌, ◌==◌, ℕ, Bool, true, false, zero, suc, ◌≢◌, ◌<◌, ◌≤◌, List, [], ◌∷◌, length, map, All, AllPairs, Option, None, Some, ℤ, pos, ◌-ℤ◌, ◌<ℤ◌, ◌≤ℤ◌, ◌+◌, ◌/◌, unsigned_abs, slice_get, Contains, ⊤}
use Rattle.std.specs.List.{list_any}
use Rattle.jiff.specs.Types.{TimeZone}
use Rattle.cron_fields.specs.declared.field.Fields.{Fields}
use Rattle.zone_minutes.specs.Window.{IsInWindow, IsWithinLimits}
use Rattle.zone_minutes.specs.Zone.{Source, Zone, FixedOffset, IsReadable, IsReadAs}
use Rattle.zone_minutes.specs.declared.minute.Minute.{Minute}
use Rattle.zone_minutes.specs.declared.minute.Window.{Window}
use Rattle.due_set.specs.Due.{IsDue, IsDueIn, IsRising}
use Rattle.due_set.specs.declared.job.JobKind.{JobKind}
use Rattle.due_set.specs.declared.job.JobKind.TheVariants.{Crontab, Anacron, Never}
use Rattle.due_set.specs.declared.job.JobSpec.{JobSpec}
use Rattle.due_set.specs.declared.job.VersionSpec.{VersionSpec}

-- a job: its name, the number of its zone, and when it runs
pub record Job : Type 0 where
  pub name : List ℕ
  pub zone : ℕ
  pub kind : JobKind

-- a version of a table after the first: the instant from which on it may be in force, and the jobs in order as it has them
pub record Version : Type 0 where
  pub from : ℤ
  pub jobs : List Job

-- a table of jobs: its window, the minutes of grace, the zones that it names, the jobs in order as the first version has them,
-- and the versions after it
pub record Table : Type 0 where
  pub window : Window
  pub grace : ℕ
  pub zones : List Zone
  pub jobs : List Job
  pub later : List Version

-- how many versions a table has
abbrev pub version_count : Table → ℕ
version_count table = suc (length table.later)

-- the jobs as a version after the first has them
abbrev pub jobs_of_later : Option Version → List Job
jobs_of_later None = []
jobs_of_later (Some version) = version.jobs

-- the jobs in order, as a version has them
abbrev pub jobs_in : Table → ℕ → List Job
jobs_in table zero = table.jobs
jobs_in table (suc place) = jobs_of_later (slice_get table.later place)

-- the job of a number, as a version has it
abbrev pub job_of_version : Table → ℕ → ℕ → Option Job
job_of_version table version number = slice_get (jobs_in table version) number

-- the instant from which on a version may be in force: of the first one, the window's first
abbrev pub from_of_later : Window → Option Version → ℤ
from_of_later window None = window.until.0
from_of_later window (Some version) = version.from

abbrev pub version_from : Table → ℕ → ℤ
version_from table zero = table.window.from.0
version_from table (suc place) = from_of_later table.window (slice_get table.later place)

-- what a job of the program stands for
abbrev pub job_of : JobSpec → Job
job_of spec = record { name = spec.name; zone = spec.zone; kind = spec.kind }

-- what a version of the program stands for
abbrev pub version_of : VersionSpec → Version
version_of spec = record { from = spec.from.0; jobs = map job_of spec.jobs.items }

-- the table of a window, minutes of grace, zones and versions, the first of which has the jobs
abbrev pub table_of_versions : Window → ℕ → List Zone → List Version → Table
table_of_versions window grace zones [] = record { window = window; grace = grace; zones = zones; jobs = []; later = [] }
table_of_versions window grace zones (first ∷ later) = record { window = window; grace = grace; zones = zones; jobs = first.jobs; later = later }

-- the first of these versions comes with the window
abbrev pub BeginsWithWindow : Window → List Version → Type 0
BeginsWithWindow window [] = ⊥
BeginsWithWindow window (first ∷ later) = first.from ≡ window.from.0

-- the job runs once in a period
abbrev pub IsAnacron : JobKind → Type 0
IsAnacron (Anacron period first last) = ⊤
IsAnacron kind = ⊥

-- the job of the table runs once in a period
abbrev pub IsRunByPeriod : Table → ℕ → Type 0
IsRunByPeriod table number = (job : Job) × (slice_get table.jobs number ≡ Some job) × IsAnacron job.kind

-- the name of a job, where there is one
abbrev pub name_of : Option Job → List ℕ
name_of None = []
name_of (Some job) = job.name

-- the name of the job of a number
abbrev pub job_name : Table → ℕ → List ℕ
job_name table number = name_of (slice_get table.jobs number)

-- whether a name is that of a job that runs by its period: it has a `/`
abbrev pub is_period_name : List ℕ → Bool
is_period_name name = list_any (λ byte. byte == 47) name

-- whether the job of a number runs by its period in each version that has it, as its name says
abbrev pub is_by_period : Table → ℕ → Bool
is_by_period table number = is_period_name (job_name table number)

-- a job of this name may run so: by its period exactly if its name says so, or never
abbrev pub IsKindOfName : List ℕ → JobKind → Type 0
IsKindOfName name (Crontab fields) = is_period_name name ≡ false
IsKindOfName name (Anacron period first last) = is_period_name name ≡ true
IsKindOfName name Never = ⊤

-- the zone was built for the window: `jiff` reads it, and its offsets are known at the window's instants
pub record IsBuiltFor (window : Window) (zone : Zone) : Type 0 where
  pub from : zone.from ≡ window.from.0
  pub until : zone.until ≡ window.until.0
  pub read : IsReadable zone.source

-- UTC, over the window
abbrev pub utc_over : Window → Zone
utc_over window = record { source = FixedOffset (pos 0); from = window.from.0; until = window.until.0 }

-- no two jobs have one name
abbrev pub AreNamesDistinct : List Job → Type 0
AreNamesDistinct jobs = AllPairs (λ a b. a.name ≢ b.name) jobs

-- each job's zone is one of so many
abbrev pub AreZonesBelow : ℕ → List Job → Type 0
AreZonesBelow count jobs = All (λ job. job.zone < count) jobs

-- each job runs as its name says
abbrev pub AreKindsOfNames : List Job → Type 0
AreKindsOfNames jobs = All (λ job. IsKindOfName job.name job.kind) jobs

-- the job's name
abbrev pub own_name : Job → List ℕ
own_name job = job.name

-- a version after the first: it comes within the window, and has the table's names in the same places
pub record IsVersionOf (table : Table) (version : Version) : Type 0 where
  pub inside : IsInWindow table.window version.from
  pub names : map own_name version.jobs ≡ map own_name table.jobs
  pub zone_numbers : AreZonesBelow (length table.zones) version.jobs
  pub kinds : AreKindsOfNames version.jobs

-- the versions after the first: at most 7, of which none comes before an earlier one
pub record AreVersionsOf (table : Table) (later : List Version) : Type 0 where
  pub few : length later ≤ 7
  pub each : All (IsVersionOf table) later
  pub in_order : AllPairs (λ a b. a.from ≤ℤ b.from) later

-- what holds of each table: grace of at most a year, and at most 1,000 jobs, each of a name of its own
pub record IsSound (table : Table) : Type 0 where
  pub limits : IsWithinLimits table.window
  pub grace : table.grace ≤ 525_600
  pub built : All (IsBuiltFor table.window) table.zones
  pub zone_numbers : AreZonesBelow (length table.zones) table.jobs
  pub few : length table.jobs ≤ 1000
  pub distinct : AreNamesDistinct table.jobs
  pub kinds : AreKindsOfNames table.jobs
  pub versions : AreVersionsOf table table.later

-- a job of the table as a version has it, and its zone, as `jiff` reads it
pub record IsJobIn (table : Table) (version number : ℕ) (job : Job) (zone : TimeZone) : Type 0 where
  pub is_job : job_of_version table version number ≡ Some job
  pub source : Zone
  pub is_zone : slice_get table.zones job.zone ≡ Some source
  pub read : IsReadAs source.source zone

-- `jiff` reads the zone of the table's job
abbrev pub IsJobRead : Table → ℕ → ℕ → Type 0
IsJobRead table version number = (job : Job) × (zone : TimeZone) × IsJobIn table version number job zone

-- the job is an entry of a crontab, and is due at the instant, which is in the window
pub record IsJobDue (table : Table) (version number : ℕ) (instant : ℤ) : Type 0 where
  pub job : Job
  pub zone : TimeZone
  pub is_in : IsJobIn table version number job zone
  pub fields : Fields
  pub kind : job.kind ≡ Crontab fields
  pub inside : IsInWindow table.window instant
  pub due : IsDue fields zone instant

-- the number of the instant, where there is one
abbrev pub instant_of : Option Minute → Option ℤ
instant_of None = None
instant_of (Some instant) = Some instant.0

-- later than the instant, where there is one
abbrev pub IsAfter : Option ℤ → ℤ → Type 0
IsAfter None instant = ⊤
IsAfter (Some before) instant = before <ℤ instant

-- the least due instant of the job that is later
pub record IsNextDue (table : Table) (version number : ℕ) (before : Option ℤ) (instant : ℤ) : Type 0 where
  pub due : IsJobDue table version number instant
  pub later : IsAfter before instant
  pub least : (other : ℤ) → IsJobDue table version number other → IsAfter before other → instant ≤ℤ other

-- an entry's due instants from one on and before another, in order
pub record IsDueList (fields : Fields) (source : Source) (from until : ℤ) (instants : List ℤ) : Type 0 where
  pub rising : IsRising instants
  pub since : (instant : ℤ) → Contains instants instant → from ≤ℤ instant
  pub before : (instant : ℤ) → Contains instants instant → instant <ℤ until
  pub sound : (instant : ℤ) → Contains instants instant → IsDueIn fields source instant
  pub complete : (instant : ℤ) → from ≤ℤ instant → instant <ℤ until → IsDueIn fields source instant → Contains instants instant

-- the job's due instants, in order
pub record IsJobDueList (table : Table) (version number : ℕ) (instants : List ℤ) : Type 0 where
  pub rising : IsRising instants
  pub sound : (instant : ℤ) → Contains instants instant → IsJobDue table version number instant
  pub complete : (instant : ℤ) → IsJobDue table version number instant → Contains instants instant

-- how many days a job of a period counts as: those of the window, and three more
abbrev pub days_counted : Window → ℕ
days_counted window = unsigned_abs (window.until.0 -ℤ window.from.0) / 1440 + 3

-- how much a job takes of the limit on due instants: as many as it has; one that runs by its period, a day's share of the window
abbrev pub IsShare : Table → ℕ → ℕ → JobKind → ℕ → Type 0
IsShare table version number (Anacron period first last) share = share ≡ days_counted table.window
IsShare table version number kind share = (instants : List ℤ) × IsJobDueList table version number instants × (share ≡ length instants)

-- The instants are the first of the job's due instants, none left out: they rise, each is due, and each due instant that isn't
-- after one of them is among them.
pub record IsDueFront (table : Table) (version number : ℕ) (instants : List ℤ) : Type 0 where
  pub rising : IsRising instants
  pub sound : (instant : ℤ) → Contains instants instant → IsJobDue table version number instant
  pub complete : (instant last : ℤ) → Contains instants last → IsJobDue table version number instant → instant ≤ℤ last → Contains instants instant
