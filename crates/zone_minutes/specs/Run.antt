-- Runs: instants one after another at which a zone's clocks are as far ahead.
use Rattle.std.specs.Prelude.{◌≡◌, ◌≢◌, ◌⊎◌, ℤ, pos, ◌+ℤ◌, ◌-ℤ◌, ◌≤ℤ◌, ◌<ℤ◌, List, [], ◌∷◌, All}
use Rattle.jiff.specs.Types.{TimeZone}
use Rattle.zone_minutes.specs.Zone.{Source, Zone, IsReadAs, local_of}
use Rattle.zone_minutes.specs.declared.minute.Window.{Window}
use Rattle.zone_minutes.specs.declared.run.Run.{Run}

-- the zone's clocks don't show the minute after the one that they showed at the instant before: they are put forward or back
abbrev pub IsChange : TimeZone → ℤ → Type 0
IsChange zone instant = local_of zone instant ≢ local_of zone (instant -ℤ pos 1) +ℤ pos 1

-- the zone's clocks are as far ahead at each instant of the run; it begins and ends with a change, or with the instants looked at
pub record IsRun (zone : TimeZone) (start end : ℤ) (run : Run) : Type 0 where
  pub local : (instant : ℤ) → run.from.0 ≤ℤ instant → instant <ℤ run.until.0 → local_of zone instant ≡ instant +ℤ run.ahead
  pub first : (run.from.0 ≡ start) ⊎ IsChange zone run.from.0
  pub last : (run.until.0 ≡ end) ⊎ IsChange zone run.until.0

-- each run begins where the one before it ends, the first at one instant; none is empty; the last ends at another instant
abbrev pub AreJoined : ℤ → ℤ → List Run → Type 0
AreJoined start end [] = start ≡ end
AreJoined start end (run ∷ runs) = (run.from.0 ≡ start) × (start <ℤ run.until.0) × AreJoined run.until.0 end runs

-- the runs of the instants from one on and before another
pub record AreRuns (zone : TimeZone) (start end : ℤ) (runs : List Run) : Type 0 where
  pub joined : AreJoined start end runs
  pub each : All (IsRun zone start end) runs

-- the first of the 180 minutes before a window
abbrev pub first_known : Window → ℤ
first_known window = window.from.0 -ℤ pos 180

-- the source's runs over the window and the 180 minutes before it
pub record AreRunsOver (source : Source) (window : Window) (runs : List Run) : Type 0 where
  pub zone : TimeZone
  pub read : IsReadAs source zone
  pub are_runs : AreRuns zone (first_known window) window.until.0 runs

-- the run of the zone's instants that the instant lies in
pub record IsRunAt (zone : Zone) (instant : ℤ) (run : Run) : Type 0 where
  pub since : run.from.0 ≤ℤ instant
  pub before : instant <ℤ run.until.0
  pub known : (zone.from -ℤ pos 180) ≤ℤ run.from.0
  pub inside : run.until.0 ≤ℤ zone.until
  pub is : (read : TimeZone) → IsReadAs zone.source read → IsRun read (zone.from -ℤ pos 180) zone.until run
