-- How the log and the rows that the scheduler holds fit together.
-- Source: "Reliable Cron across the Planet"; that an instant isn't passed over is this project's; anacrontab(5) of cronie for periods.
use Rattle.std.specs.Prelude.{◌≡◌, ℕ, suc, ◌≤◌, List, ◌∷◌, ◌++◌, length, Some, ℤ, ◌<ℤ◌, ◌≤ℤ◌, All, AllPairs, Contains, slice_get}
use Rattle.jiff.specs.Types.{TimeZone}
use Rattle.paxos_base.specs.declared.entry.Entry.{Entry}
use Rattle.paxos_base.specs.declared.entry.Entry.TheVariants.{Start, End}
use Rattle.paxos_base.specs.declared.entry.Kind.{Kind}
use Rattle.paxos_base.specs.declared.entry.Kind.TheVariants.{Launch}
use Rattle.paxos_base.specs.declared.rows.JobRow.{JobRow}
use Rattle.due_set.specs.Anacron.{IsPeriodOver}
use Rattle.due_set.specs.Calls.{HasCome}
use Rattle.due_set.specs.Due.{IsRising}
use Rattle.due_set.specs.Table.{Job, Table, IsJobIn, job_of_version, version_from}
use Rattle.due_set.specs.declared.job.JobKind.TheVariants.{Anacron}
use Rattle.due_set.specs.declared.job.Period.{Period}
use Rattle.cluster_sched.specs.Held.{AreNamedOnce}
use Rattle.cluster_sched.specs.declared.row.SchedRow.{SchedRow}
use Rattle.launch_machine.specs.Answers.{IsCallKind}
use Rattle.launch_machine.specs.Clerk.{IsClerkOf, TakesEffect, TakesStart, in_force}
use Rattle.launch_machine.specs.Starts.{AdoptionsOf, StartsOf}
use Rattle.launch_machine.specs.Versions.{IsFrontUnder, RunsByInstants}

-- entries leave a launch table, and the next takes effect on it
abbrev pub TakesEffectAfter : Table → List Entry → Entry → Type 0
TakesEffectAfter table before entry = (rows : List JobRow) × IsClerkOf table before rows × TakesEffect table rows entry

-- an entry of the log that takes effect on what those before it left
pub record IsEffective (table : Table) (log : List Entry) (entry : Entry) : Type 0 where
  pub before : List Entry
  pub after : List Entry
  pub parts : log ≡ before ++ entry ∷ after
  pub takes : TakesEffectAfter table before entry

-- a start of the job's launch takes effect
abbrev pub HasStart : Table → List Entry → ℕ → ℤ → Type 0
HasStart table log job at = (now : ℤ) × IsEffective table log (Start job at now)

-- a start of the job's launch takes effect while this version is in force
pub record IsStartedUnder (table : Table) (log : List Entry) (version job : ℕ) (at : ℤ) : Type 0 where
  pub now : ℤ
  pub before : List Entry
  pub after : List Entry
  pub parts : log ≡ before ++ Start job at now ∷ after
  pub rows : List JobRow
  pub clerk : IsClerkOf table before rows
  pub takes : TakesStart table rows job at now
  pub in_force : (in_force table rows).version ≡ version

-- an end of the job's launch takes effect, and says this kind
abbrev pub HasEnd : Table → List Entry → ℕ → ℤ → Kind → Type 0
HasEnd table log job at kind = IsEffective table log (End job at kind)

-- each entry of the log takes effect on what those before it left
abbrev pub AreAllEffective : Table → List Entry → Type 0
AreAllEffective table log =
    (before after : List Entry) (entry : Entry) → log ≡ before ++ entry ∷ after → TakesEffectAfter table before entry

-- A start of the launch takes effect in the log. By the version that is in force then, the clock of the call is one at which it may
-- be called, and the kind goes by that clock.
pub record IsBacked (table : Table) (log : List Entry) (row : SchedRow) : Type 0 where
  pub version : ℕ
  pub start : IsStartedUnder table log version row.name.job row.name.at
  pub spec : Job
  pub zone : TimeZone
  pub is_in : IsJobIn table version row.name.job spec zone
  pub come : HasCome spec.kind zone row.name.at row.now.0
  pub kind : IsCallKind table version row.name.job row.name.at row.now.0 row.kind

-- a row of this kind is held under the launch's name
pub record IsHeld (held : List SchedRow) (job : ℕ) (at : ℤ) (kind : Kind) : Type 0 where
  pub row : SchedRow
  pub among : Contains held row
  pub of_job : row.name.job ≡ job
  pub due_at : row.name.at ≡ at
  pub of_kind : row.kind ≡ kind

-- The instants of the job's starts that take effect, or their dates, rise in the order of the log; where the job runs by its due
-- instants they are the first of these by the versions that are in force then, none left out.
pub record StartsInOrder (table : Table) (log : List Entry) (job : ℕ) : Type 0 where
  pub instants : List ℤ
  pub adoptions : List ℤ
  pub starts : StartsOf table log job instants
  pub adopted : AdoptionsOf table log adoptions
  pub rising : IsRising instants
  pub first : RunsByInstants table job → IsFrontUnder table adoptions job instants

-- The instants at which versions of the table after the first were adopted, one after another: the table has so many, each might be in
-- force by then, and none came before an earlier one.
pub record AreAdoptions (table : Table) (adoptions : List ℤ) : Type 0 where
  pub few : length adoptions ≤ length table.later
  pub come : (place : ℕ) (now : ℤ) → slice_get adoptions place ≡ Some now → version_from table (suc place) ≤ℤ now
  pub in_order : AllPairs (λ a b. a ≤ℤ b) adoptions

-- where a version has the job run by a period, that is over on the later date since the earlier one
abbrev pub IsPeriodApart : Table → (version job : ℕ) → (earlier later : ℤ) → Type 0
IsPeriodApart table version job earlier later =
    (spec : Job) (period : Period) (first last : ℕ) → job_of_version table version job ≡ Some spec → spec.kind ≡ Anacron period first last
    → IsPeriodOver period earlier later

-- of two launches of a job the later is a period after the earlier, by the version under which it was started
abbrev pub ArePeriodsApart : Table → List Entry → List SchedRow → Type 0
ArePeriodsApart table log held =
    (a b : SchedRow) → Contains held a → Contains held b → a.name.job ≡ b.name.job → a.kind ≡ Launch → b.kind ≡ Launch
    → a.name.at <ℤ b.name.at → (version : ℕ) → IsStartedUnder table log version b.name.job b.name.at
    → IsPeriodApart table version b.name.job a.name.at b.name.at

-- No launch is held twice, and each that is held was started; an end that takes effect says what is held; no due instant is
-- passed over; and the launches of a job that runs by a period are a period apart.
pub record Fits (table : Table) (log : List Entry) (held : List SchedRow) : Type 0 where
  pub once : AreNamedOnce held
  pub backed : All (IsBacked table log) held
  pub ended : (job : ℕ) (at : ℤ) (kind : Kind) → HasEnd table log job at kind → IsHeld held job at kind
  pub in_order : (job : ℕ) → StartsInOrder table log job
  pub apart : ArePeriodsApart table log held
