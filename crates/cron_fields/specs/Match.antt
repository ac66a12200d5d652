-- Which civil times the five fields match (crontab(5)). Source: crontab(5); cron(8) of cronie.
use Rattle.std.specs.Prelude.{ℕ, ◌||◌, ◌⊎◌, Bool, MatchBool}
use Rattle.cron_fields.specs.FieldSet.{Has}
use Rattle.cron_fields.specs.declared.field.Fields.{Fields}

-- The day rule: if either day field begins with `*`, both have to match. Otherwise one of them is enough.
abbrev pub MatchesDay : Fields → ℕ → ℕ → Type 0
MatchesDay fields month_day week_day =
    MatchBool (fields.month_day.star || fields.week_day.star)
    (Has fields.month_day month_day × Has fields.week_day week_day)
    (Has fields.month_day month_day ⊎ Has fields.week_day week_day)

-- the fields match a date: its month, its day of the month and its weekday, with Sunday as 0
pub record MatchesDate (fields : Fields) (month month_day week_day : ℕ) : Type 0 where
  pub month_in : Has fields.month month
  pub day_in : MatchesDay fields month_day week_day

-- the fields match a time of day
pub record MatchesTime (fields : Fields) (hour minute : ℕ) : Type 0 where
  pub hour_in : Has fields.hour hour
  pub minute_in : Has fields.minute minute

-- the minute or the hour begins with `*`
abbrev pub is_frequent : Fields → Bool
is_frequent fields = fields.minute.star || fields.hour.star
