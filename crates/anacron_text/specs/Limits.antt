-- The limits of a job's numbers.
use Rattle.std.specs.Prelude.{ℕ, ◌<◌, ◌≤◌}
use Rattle.anacron_text.specs.declared.answer.AnaBody.{AnaBody}
use Rattle.anacron_text.specs.declared.answer.AnaBody.TheVariants.{Job}
use Rattle.anacron_text.specs.declared.answer.PeriodWord.{PeriodWord}
use Rattle.anacron_text.specs.declared.answer.PeriodWord.TheVariants.{Days}

-- the days of a period are 1 to 9,999
abbrev pub IsPeriodWithin : PeriodWord → Type 0
IsPeriodWithin (Days days) = (0 < days) × (days ≤ 9999)
IsPeriodWithin period = Unit {0}

-- a job's numbers are within their limits
pub record IsJobWithin (period : PeriodWord) (delay added first_hour last_hour : ℕ) : Type 0 where
  pub period_within : IsPeriodWithin period
  pub delay_within : delay ≤ 9999
  pub added_within : added ≤ 9999
  pub hours_rise : first_hour < last_hour
  pub hours_within : last_hour ≤ 24

-- and so are those of a body that is a job
abbrev pub IsBodyWithin : AnaBody → Type 0
IsBodyWithin (Job period delay added first_hour last_hour identifier command) = IsJobWithin period delay added first_hour last_hour
IsBodyWithin body = Unit {0}
