-- The value of a hashed field: one of the kind's values, picked by FNV-1a of 64 bits (Fowler, Noll and Vo).
use Rattle.std.specs.Prelude.{ℕ, ◌+◌, ◌*◌, ◌%◌, ◌^◌, List, [], ◌∷◌, ◌++◌, bit_xor}
use Rattle.std.specs.List.{fold}
use Rattle.cron_fields.specs.FieldSet.{least_of}
use Rattle.cron_fields.specs.Seed.{Seed}
use Rattle.cron_fields.specs.declared.field.FieldKind.{FieldKind}
use Rattle.cron_fields.specs.declared.field.FieldKind.TheVariants.{Minute, Hour, MonthDay, Month, WeekDay}

-- the offset basis of 64 bits
abbrev pub fnv_start : ℕ
fnv_start = 14695981039346656037

-- the hash after one more byte: exclusive or, then a product with the prime of 64 bits
abbrev pub fnv_step : ℕ → ℕ → ℕ
fnv_step hash byte = bit_xor hash byte * 1099511628211 % 2 ^ 64

-- the hash after some more bytes
abbrev pub fnv_of : ℕ → List ℕ → ℕ
fnv_of hash bytes = fold fnv_step hash bytes

-- the digit of a kind, in the order of the fields of a line: `0` for the minute to `4` for the weekday
abbrev pub digit_of : FieldKind → ℕ
digit_of Minute = 48
digit_of Hour = 49
digit_of MonthDay = 50
digit_of Month = 51
digit_of WeekDay = 52

-- the bytes that are hashed: the owner, a 0, the command, a 0, the digit of the kind
abbrev pub hashed_bytes : FieldKind → Seed → List ℕ
hashed_bytes kind seed = seed.owner ++ (0 ∷ seed.command ++ (0 ∷ digit_of kind ∷ []))

-- how many values there are to pick from. Each month has the days 1 to 28.
abbrev pub count_of : FieldKind → ℕ
count_of Minute = 60
count_of Hour = 24
count_of MonthDay = 28
count_of Month = 12
count_of WeekDay = 7

-- the value that a hash picks
abbrev pub pick_of : FieldKind → ℕ → ℕ
pick_of kind hash = least_of kind + hash % count_of kind

-- the value of a hashed field
abbrev pub hashed_value : FieldKind → Seed → ℕ
hashed_value kind seed = pick_of kind (fnv_of fnv_start (hashed_bytes kind seed))
