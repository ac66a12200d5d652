-- When a job of an anacrontab may open (anacrontab(5) of cronie). That its months and years are those of the calendar is this
-- project's own reading.
use Rattle.std.specs.Prelude.{◌≡◌, ℕ, ◌≤◌, ◌<◌, Option, None, Some, ℤ, pos, ◌+ℤ◌, ◌≤ℤ◌, ◌<ℤ◌, ⊤}
use Rattle.jiff.specs.Types.{TimeZone}
use Rattle.zone_minutes.specs.Civil.{day_number, minute_of_day, first_of_month, first_of_year}
use Rattle.zone_minutes.specs.Window.{IsInWindow}
use Rattle.zone_minutes.specs.Zone.{local_of}
use Rattle.due_set.specs.Table.{Job, Table, IsAfter, IsJobIn}
use Rattle.due_set.specs.declared.job.JobKind.TheVariants.{Anacron}
use Rattle.due_set.specs.declared.job.Period.{Period}
use Rattle.due_set.specs.declared.job.Period.TheVariants.{Days, Monthly, Yearly}

-- by the date of the last launch the period is over: so many days have passed, or another month or year has begun
abbrev pub IsPeriodOver : Period → ℤ → ℤ → Type 0
IsPeriodOver (Days days) last date = (last +ℤ pos days) ≤ℤ date
IsPeriodOver Monthly last date = last <ℤ first_of_month date
IsPeriodOver Yearly last date = last <ℤ first_of_year date

-- there was no launch, or the period is over since the last one
abbrev pub IsOverSince : Period → Option ℤ → ℤ → Type 0
IsOverSince period None date = ⊤
IsOverSince period (Some last) date = IsPeriodOver period last date

-- on this date the job may open: it is later than the one last opened, and the period is over
pub record MayOpenOn (period : Period) (last cursor : Option ℤ) (date : ℤ) : Type 0 where
  pub later : IsAfter cursor date
  pub over : IsOverSince period last date

-- the clock shows a civil minute at which the job may open: its time of day is the first minute or later, and before the last
pub record MayOpen (period : Period) (first_minute last_minute : ℕ) (last cursor : Option ℤ) (shown : ℤ) : Type 0 where
  pub since : first_minute ≤ minute_of_day shown
  pub before : minute_of_day shown < last_minute
  pub on : MayOpenOn period last cursor (day_number shown)

-- the job runs by its period, and may open at the instant, which is in the window; the date is the one that its zone shows
pub record IsJobOpen (table : Table) (version number : ℕ) (last cursor : Option ℤ) (now date : ℤ) : Type 0 where
  pub job : Job
  pub zone : TimeZone
  pub is_in : IsJobIn table version number job zone
  pub period : Period
  pub first_minute : ℕ
  pub last_minute : ℕ
  pub kind : job.kind ≡ Anacron period first_minute last_minute
  pub inside : IsInWindow table.window now
  pub may : MayOpen period first_minute last_minute last cursor (local_of zone now)
  pub is_date : date ≡ day_number (local_of zone now)

-- the first instant at which the job may open
pub record IsFirstOpening (table : Table) (version number : ℕ) (last cursor : Option ℤ) (now : ℤ) : Type 0 where
  pub date : ℤ
  pub opens : IsJobOpen table version number last cursor now date
  pub least : (other day : ℤ) → IsJobOpen table version number last cursor other day → now ≤ℤ other
