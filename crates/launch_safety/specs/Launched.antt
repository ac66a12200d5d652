-- When each due instant is launched, and each date on which a job may open.
-- Source: anacron(8) of cronie: a job runs where its period has passed since it was last run; this project.
use Rattle.std.specs.Prelude.{◌≡◌, ◌⊎◌, ℕ, List, Option, None, Some, ℤ, ◌<ℤ◌, ◌≤ℤ◌, All, Contains}
use Rattle.paxos_base.specs.declared.entry.Kind.{Kind}
use Rattle.paxos_base.specs.declared.entry.Kind.TheVariants.{Launch}
use Rattle.due_set.specs.Anacron.{IsJobOpen}
use Rattle.due_set.specs.Table.{Table, IsJobDue}
use Rattle.cluster_sched.specs.declared.row.SchedRow.{SchedRow}
use Rattle.launch_safety.specs.Fits.{IsHeld}

-- a row of this kind is held under the launch's name, and it was called at the instant
pub record IsCalledAt (held : List SchedRow) (job : ℕ) (at : ℤ) (kind : Kind) (now : ℤ) : Type 0 where
  pub row : SchedRow
  pub among : Contains held row
  pub of_job : row.name.job ≡ job
  pub due_at : row.name.at ≡ at
  pub of_kind : row.kind ≡ kind
  pub called : row.now.0 ≡ now

-- a launch of the job on this date was called before the instant, and none on a later date was
pub record IsLastBefore (held : List SchedRow) (job : ℕ) (now date : ℤ) : Type 0 where
  pub then : ℤ
  pub called : IsCalledAt held job date Launch then
  pub sooner : then <ℤ now
  pub last : (other day : ℤ) → IsCalledAt held job day Launch other → other <ℤ now → day ≤ℤ date

-- the date of the job's last launch that was called before the instant, where one was
abbrev pub IsLatest : List SchedRow → ℕ → ℤ → Option ℤ → Type 0
IsLatest held job now None = (date then : ℤ) → IsCalledAt held job date Launch then → then <ℤ now → ⊥
IsLatest held job now (Some date) = IsLastBefore held job now date

-- at the instant the job may open on the date, by the launches that were called before
pub record OpensBy (table : Table) (held : List SchedRow) (job : ℕ) (now date : ℤ) : Type 0 where
  pub last : Option ℤ
  pub latest : IsLatest held job now last
  pub opens : IsJobOpen table 0 job last last now date

-- the row is of a due instant, or of a date on which its job might open when it was called
abbrev pub IsWanted : Table → List SchedRow → SchedRow → Type 0
IsWanted table held row = IsJobDue table 0 row.name.job row.name.at ⊎ OpensBy table held row.name.job row.now.0 row.name.at

-- Each due instant of each job is launched; so is each date on which a job may open at some instant, by the launches that were
-- called before, and it's called at that instant; and nothing else is held.
pub record LaunchesEachDue (table : Table) (held : List SchedRow) : Type 0 where
  pub each : (job : ℕ) (at : ℤ) → IsJobDue table 0 job at → IsHeld held job at Launch
  pub each_date : (job : ℕ) (now date : ℤ) → OpensBy table held job now date → IsCalledAt held job date Launch now
  pub no_other : All (λ row. IsWanted table held row × (row.kind ≡ Launch)) held
