-- When a launch may be called, and whether it is then a launch or is given up.
-- Source: this project; anacron(8) for jobs of a period.
use Rattle.std.specs.Prelude.{◌≡◌, ℕ, ℤ, pos, ◌+ℤ◌, ◌≤ℤ◌}
use Rattle.jiff.specs.Types.{TimeZone}
use Rattle.zone_minutes.specs.Civil.{day_number}
use Rattle.zone_minutes.specs.Zone.{local_of}
use Rattle.due_set.specs.declared.job.JobKind.{JobKind}
use Rattle.due_set.specs.declared.job.JobKind.TheVariants.{Anacron}

-- the launch's instant has come; of an anacron job, its date
abbrev pub HasCome : JobKind → TimeZone → ℤ → ℤ → Type 0
HasCome (Anacron period first last) zone at now = at ≤ℤ day_number (local_of zone now)
HasCome kind zone at now = at ≤ℤ now

-- the launch is on time: within the minutes of grace; of an anacron job, on its date
abbrev pub IsOnTime : JobKind → TimeZone → ℕ → ℤ → ℤ → Type 0
IsOnTime (Anacron period first last) zone grace at now = day_number (local_of zone now) ≡ at
IsOnTime kind zone grace at now = now ≤ℤ (at +ℤ pos grace)
