-- An item of a field (crontab(5)): `*`, an atom or a range `a-b`, and after `*` or a range perhaps a step `/n`.
use Rattle.std.specs.Prelude.{◌≡◌, ℕ, ◌+◌, ◌*◌, ◌<◌, ◌≤◌, List, codes}
use Rattle.cron_fields.specs.FieldSet.{least_of, value_of}
use Rattle.cron_fields.specs.Atom.{HasNo, IsSplitAt, IsNumber, IsAtom, TakesNumber}
use Rattle.cron_fields.specs.declared.field.FieldKind.{FieldKind}
use Rattle.cron_fields.specs.declared.field.FieldKind.TheVariants.{Minute, Hour, MonthDay, Month, WeekDay}

-- the last number of `*`: of 0 and 7, which are both Sunday, it has 0 alone
abbrev pub last_of : FieldKind → ℕ
last_of Minute = 59
last_of Hour = 23
last_of MonthDay = 31
last_of Month = 12
last_of WeekDay = 6

-- the numbers low, low + step, low + 2 * step and so on, up to high
pub record IsStepped : Type 0 where
  pub low : ℕ
  pub high : ℕ
  pub step : ℕ

-- a value that one of the numbers stands for
pub record StepsTo (kind : FieldKind) (steps : IsStepped) (value : ℕ) : Type 0 where
  pub times : ℕ
  pub up_to : steps.low + times * steps.step ≤ steps.high
  pub is : value ≡ value_of kind (steps.low + times * steps.step)

-- an atom alone
pub record IsSingle (kind : FieldKind) (base : List ℕ) (value : ℕ) : Type 0 where
  pub alone : HasNo 45 base
  pub atom : IsAtom kind base value
  pub taken : TakesNumber kind value

-- a range between two atoms
pub record IsRange (kind : FieldKind) (low_text high_text : List ℕ) (low high : ℕ) : Type 0 where
  pub low_atom : IsAtom kind low_text low
  pub high_atom : IsAtom kind high_text high
  pub low_taken : TakesNumber kind low
  pub high_taken : TakesNumber kind high
  pub ordered : low ≤ high

-- a base that a step may follow: `*`, or a range round the first `-`
pub data IsWide (kind : FieldKind) (base : List ℕ) (low high : ℕ) : Type 0 where
  star : base ≡ codes "*" → low ≡ least_of kind → high ≡ last_of kind → IsWide kind base low high
  range : (low_text high_text : List ℕ) → IsSplitAt 45 base low_text high_text → IsRange kind low_text high_text low high → IsWide kind base low high

-- an item, and the numbers that it stands for
pub data IsItem (kind : FieldKind) (item : List ℕ) (steps : IsStepped) : Type 0 where
  single : (value : ℕ) → HasNo 47 item → IsSingle kind item value → steps ≡ record { low = value; high = value; step = 1 } → IsItem kind item steps
  wide : (low high : ℕ) → HasNo 47 item → IsWide kind item low high → steps ≡ record { low = low; high = high; step = 1 } → IsItem kind item steps
  stepped : (base step : List ℕ) (low high by : ℕ) → IsSplitAt 47 item base step → IsWide kind base low high → IsNumber step by → 0 < by
      → steps ≡ record { low = low; high = high; step = by } → IsItem kind item steps
