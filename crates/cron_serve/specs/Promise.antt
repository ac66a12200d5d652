-- What is promised of a report, in bytes and text alone: which launches it tells of.
use Rattle.std.specs.Prelude.{◌≡◌, ◌⊎◌, ℕ, ◌≤◌, true, List, [], length, ℤ, ◌<ℤ◌, Contains}
use Rattle.cron_io.specs.Reading.{IsReadToEnd}
use Rattle.cron_io.specs.Views.{SourceView, SinkView}
use Rattle.cron_io.specs.Writing.{HasGained}
use Rattle.paxos_base.specs.declared.entry.Kind.{Kind}
use Rattle.paxos_base.specs.declared.entry.Kind.TheVariants.{Launch}
use Rattle.due_set.specs.Table.{Table, is_by_period}
use Rattle.cluster_sched.specs.Held.{AreNamedOnce}
use Rattle.cluster_sched.specs.declared.row.SchedRow.{SchedRow}
use Rattle.launch_machine.specs.Versions.{IsDueUnder}
use Rattle.launch_safety.specs.Fits.{AreAdoptions, IsHeld, IsPeriodApart}
use Rattle.launch_safety.specs.Launched.{LaunchesEachDue}
use Rattle.report_text.specs.Report.{IsReport}
use Rattle.run_outcome.specs.Readings.{IsGraceLong}
use Rattle.run_outcome.specs.Whole.{HoldsEachDue}
use Rattle.script_text.specs.declared.command.Command.{Command}
use Rattle.run_text.specs.Run.{Run}
use Rattle.run_input.specs.Input.{IsRunWithTable}

-- a row is held of each due instant of each crontab's job, where versions are adopted at these instants: it was launched, or given up
abbrev pub HasEachDue : Table → List ℤ → List SchedRow → Type 0
HasEachDue table adoptions rows = (job : ℕ) (at : ℤ) → IsDueUnder table adoptions job at → (kind : Kind) × IsHeld rows job at kind

-- each row that is held is of a due instant of its job, unless that runs by its period
abbrev pub HasOnlyDue : Table → List ℤ → List SchedRow → Type 0
HasOnlyDue table adoptions rows =
    (row : SchedRow) → Contains rows row → IsDueUnder table adoptions row.name.job row.name.at ⊎ (is_by_period table row.name.job ≡ true)

-- of two launches of a job of an anacrontab the later is a period after the earlier, by a version that was in force
abbrev pub HasPeriodsApart : Table → List ℤ → List SchedRow → Type 0
HasPeriodsApart table adoptions rows =
    (a b : SchedRow) → Contains rows a → Contains rows b → a.name.job ≡ b.name.job → a.kind ≡ Launch → b.kind ≡ Launch → a.name.at <ℤ b.name.at
    → (version : ℕ) × (version ≤ length adoptions) × IsPeriodApart table version b.name.job a.name.at b.name.at

-- **The text is the report of these launches**: each stands there once, and each due instant has ended.
pub record ReportsLaunches (table : Table) (members : ℕ) (script : List Command) (text : List ℕ) : Type 0 where
  -- the text lists these rows: what was launched, and what was given up
  pub rows : List SchedRow
  pub report : IsReport table members rows text
  -- no two are of one launch
  pub once : AreNamedOnce rows
  -- at these instants the versions after the first came into force
  pub adoptions : List ℤ
  pub adopted : AreAdoptions table adoptions
  -- each due instant of each crontab's job, by the versions in force then, is among them, and no other instant of such a job
  pub ended : HasEachDue table adoptions rows
  pub due : HasOnlyDue table adoptions rows
  -- the launches of each job of an anacrontab are a period apart
  pub apart : HasPeriodsApart table adoptions rows
  -- if grace lasts as long as the window, each due instant is launched
  pub in_grace : IsGraceLong table → HoldsEachDue table adoptions rows
  -- and so it is if the script has no command
  pub unscripted : script ≡ [] → HoldsEachDue table adoptions rows
  -- then, if no version was adopted, each date on which a job of an anacrontab may open is launched too, and nothing is given up
  pub undisturbed : script ≡ [] → adoptions ≡ [] → LaunchesEachDue table rows

-- the input was read to its end, it is a run with this table, and the sink gained the report of its launches
pub record ReportsInput (source source' : SourceView) (sink sink' : SinkView) : Type 0 where
  pub bytes : List ℕ
  pub read : IsReadToEnd source source' bytes
  pub run : Run
  pub table : Table
  pub taken : IsRunWithTable bytes run table
  pub text : List ℕ
  pub gained : HasGained sink sink' text
  pub reports : ReportsLaunches table run.members run.commands text
