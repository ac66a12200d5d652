-- The next civil minute that an entry's fields match, by its fields, its day and its month.
use Rattle.std.specs.Prelude.{ℕ, ◌+◌, ◌-◌, ◌/◌, ◌%◌, ◌<◌, ◌≤◌, ℤ, pos, ◌+ℤ◌}
use Rattle.cron_fields.specs.FieldSet.{Has}
use Rattle.cron_fields.specs.Match.{MatchesDate, MatchesTime}
use Rattle.cron_fields.specs.declared.field.FieldSet.{FieldSet}
use Rattle.cron_fields.specs.declared.field.Fields.{Fields}
use Rattle.zone_minutes.specs.Civil.{minute_of_day}
use Rattle.zone_minutes.specs.declared.civil.Civil.{Civil}
use Rattle.due_set.specs.Due.{Matches}

-- the field has no value from one on and before another
abbrev pub HasNoneBetween : FieldSet → ℕ → ℕ → Type 0
HasNoneBetween field from until = (value : ℕ) → from ≤ value → value < until → Has field value → ⊥

-- the least value of the field from one on
pub record IsNextValue (field : FieldSet) (from value : ℕ) : Type 0 where
  pub has : Has field value
  pub since : from ≤ value
  pub none_before : HasNoneBetween field from value

-- the fields match no time of day, in minutes, from one on and before another
abbrev pub MatchNoTimeBetween : Fields → ℕ → ℕ → Type 0
MatchNoTimeBetween fields from until =
    (time : ℕ) → from ≤ time → time < until → MatchesTime fields (time / 60) (time % 60) → ⊥

-- the first time of day from one on that the fields match
pub record IsNextTime (fields : Fields) (from time : ℕ) : Type 0 where
  pub matches : MatchesTime fields (time / 60) (time % 60)
  pub since : from ≤ time
  pub none_before : MatchNoTimeBetween fields from time

-- the fields match none of so many civil minutes from one on
abbrev pub MatchNoneOf : Fields → ℤ → ℕ → Type 0
MatchNoneOf fields minute count = (steps : ℕ) → steps < count → Matches fields (minute +ℤ pos steps) → ⊥

-- the fields match none of so many dates that follow a date of this weekday, by their day of the month and their weekday
abbrev pub MatchNoneOfDays : Fields → Civil → ℕ → ℕ → Type 0
MatchNoneOfDays fields date weekday count =
    (days : ℕ) → 0 < days → days ≤ count → MatchesDate fields date.month (date.day + days) ((weekday + days) % 7) → ⊥

-- the first civil minute that the fields match is so many minutes after one
pub record IsFirstMatch (fields : Fields) (minute : ℤ) (steps : ℕ) : Type 0 where
  pub matches : Matches fields (minute +ℤ pos steps)
  pub none_before : MatchNoneOf fields minute steps

-- how many minutes are left of a civil minute's day, with the minute itself
abbrev pub rest_of_day : ℤ → ℕ
rest_of_day minute = 1440 - minute_of_day minute
