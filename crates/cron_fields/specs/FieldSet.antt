-- The values of a field. Source: crontab(5).
use Rattle.std.specs.Prelude.{ℕ, ◌%◌, ◌↔◌, List, Contains, IsBitSet}
use Rattle.cron_fields.specs.declared.field.FieldKind.{FieldKind}
use Rattle.cron_fields.specs.declared.field.FieldKind.TheVariants.{Minute, Hour, MonthDay, Month, WeekDay}
use Rattle.cron_fields.specs.declared.field.FieldSet.{FieldSet}

-- the least number that a field takes (crontab(5))
abbrev pub least_of : FieldKind → ℕ
least_of Minute = 0
least_of Hour = 0
least_of MonthDay = 1
least_of Month = 1
least_of WeekDay = 0

-- the greatest number that a field takes (crontab(5)): both 0 and 7 are Sunday
abbrev pub greatest_of : FieldKind → ℕ
greatest_of Minute = 59
greatest_of Hour = 23
greatest_of MonthDay = 31
greatest_of Month = 12
greatest_of WeekDay = 7

-- the value that a number stands for: day 7 of the week is day 0
abbrev pub value_of : FieldKind → ℕ → ℕ
value_of WeekDay n = n % 7
value_of kind n = n

-- the value is in the field
abbrev pub Has : FieldSet → ℕ → Type 0
Has set value = IsBitSet set.bits value

-- the field has the listed values and no others
abbrev pub HasExactly : FieldSet → List ℕ → Type 0
HasExactly set values = (value : ℕ) → Has set value ↔ Contains values value
