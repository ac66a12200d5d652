-- What keeps a job from opening on a date.
use Rattle.std.specs.Prelude.{◌⊎◌, ℕ, List, ℤ, ◌<ℤ◌, ◌≤ℤ◌}
use Rattle.jiff.specs.Types.{TimeZone}
use Rattle.zone_minutes.specs.Civil.{day_number}
use Rattle.zone_minutes.specs.Zone.{local_of}
use Rattle.paxos_base.specs.declared.entry.Entry.{Entry}
use Rattle.paxos_base.specs.declared.entry.Entry.TheVariants.{Start}
use Rattle.paxos_base.specs.declared.entry.Kind.TheVariants.{Void}
use Rattle.due_set.specs.Table.{IsJobIn, Job, Table}
use Rattle.cluster_sched.specs.declared.row.SchedRow.{SchedRow}
use Rattle.launch_safety.specs.Fits.{IsEffective}
use Rattle.launch_safety.specs.Launched.{IsCalledAt}
use Rattle.agreement.specs.Log.{IsLog}
use Rattle.history.specs.Book.{Row, votes_in}
use Rattle.launch_safety.specs.Fitting.{held_in}

-- at an earlier instant the job's zone showed a later date
pub record ShowedLater (table : Table) (job : ℕ) (now date : ℤ) : Type 0 where
  pub spec : Job
  pub zone : TimeZone
  pub is_in : IsJobIn table 0 job spec zone
  pub then : ℤ
  pub sooner : then <ℤ now
  pub later : date <ℤ day_number (local_of zone then)

-- at an earlier instant the job was started on a later date
pub record IsStartedLater (members : ℕ) (table : Table) (rows : List Row) (job : ℕ) (now date : ℤ) : Type 0 where
  pub log : List Entry
  pub is_log : IsLog members (votes_in rows) log
  pub day : ℤ
  pub then : ℤ
  pub start : IsEffective table log (Start job day then)
  pub sooner : then <ℤ now
  pub later : date <ℤ day

-- at an earlier instant a launch of the job on the date or a later one was called too late, and so it was void
pub record IsVoidedSooner (held : List SchedRow) (job : ℕ) (now date : ℤ) : Type 0 where
  pub day : ℤ
  pub then : ℤ
  pub void : IsCalledAt held job day Void then
  pub sooner : then <ℤ now
  pub reached : date ≤ℤ day

-- at an earlier instant the job was started on a later date, or its launch on the date or a later one was called too late
abbrev pub IsBarred : ℕ → Table → List Row → (job : ℕ) → (now date : ℤ) → Type 0
IsBarred members table rows job now date =
    IsStartedLater members table rows job now date ⊎ IsVoidedSooner (held_in members table rows) job now date
