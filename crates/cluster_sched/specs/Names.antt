-- The names of launches, as texts. Source: docs/RUN_FILE.md; anacrontab(5) for jobs that run once in a period of days.
use Rattle.std.specs.Prelude.{◌≢◌, ℕ, ◌<◌, Bool, true, false, List, ◌∷◌, ◌++◌, length, All, ℤ, pos, ◌+ℤ◌, ◌-ℤ◌, ◌≤ℤ◌}
use Rattle.zone_minutes.specs.Civil.{day_number, IsCalendarDay, IsCalendarMinute}
use Rattle.zone_minutes.specs.Stamp.{basic_stamp_text, date_text}
use Rattle.zone_minutes.specs.Window.{IsInWindow}
use Rattle.zone_minutes.specs.declared.minute.Window.{Window}
use Rattle.due_set.specs.Table.{Table, is_by_period, job_name}
use Rattle.cluster_sched.specs.declared.row.Name.{Name}

-- a day from two days before a window's first day to two days after its last, which are days of UTC
pub record IsDayNear (window : Window) (day : ℤ) : Type 0 where
  pub since : (day_number window.from.0 -ℤ pos 2) ≤ℤ day
  pub until : day ≤ℤ (day_number (window.until.0 -ℤ pos 1) +ℤ pos 2)

-- when a launch is: that of a job that runs by its period on a day near the window, and any other at an instant of the window
abbrev pub IsTimeNear : Window → (by_period : Bool) → ℤ → Type 0
IsTimeNear window true at = IsDayNear window at
IsTimeNear window false at = IsInWindow window at

-- a launch of a job of the table, on a day near its window or at an instant of its window
pub record IsNameIn (table : Table) (name : Name) : Type 0 where
  pub job : name.job < length table.jobs
  pub inside : IsTimeNear table.window (is_by_period table name.job) name.at

-- no byte is an `@`
abbrev pub LacksAt : List ℕ → Type 0
LacksAt bytes = All (λ byte. byte ≢ 64) bytes

-- a day or an instant of the years 0000 to 9999
abbrev pub IsCalendarTime : (by_period : Bool) → ℤ → Type 0
IsCalendarTime true at = IsCalendarDay at
IsCalendarTime false at = IsCalendarMinute at

-- when a launch is, as its name says it: the day of a job that runs by its period as YYYY-MM-DD, and any other's instant as YYYYMMDDTHHMMZ
abbrev pub time_text : (by_period : Bool) → ℤ → List ℕ
time_text true at = date_text at
time_text false at = basic_stamp_text at

-- the name of a launch: its job's name, `@`, and when it is
abbrev pub name_text : Table → Name → List ℕ
name_text table name = job_name table name.job ++ 64 ∷ time_text (is_by_period table name.job) name.at
