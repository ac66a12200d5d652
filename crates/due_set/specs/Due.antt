-- When a crontab entry is due. The form at clock changes is this project's own reading of cron(8) of cronie.
use Rattle.std.specs.Prelude.{◌≢◌, ◌⊎◌, List, [], ◌∷◌, ℤ, pos, ◌-ℤ◌, ◌<ℤ◌, ◌≤ℤ◌, MatchBool, ⊤}
use Rattle.std.specs.List.{AllByRecursion}
use Rattle.jiff.specs.Types.{TimeZone}
use Rattle.cron_fields.specs.Match.{MatchesDate, MatchesTime, is_frequent}
use Rattle.cron_fields.specs.declared.field.Fields.{Fields}
use Rattle.zone_minutes.specs.Civil.{civil_at, day_number, weekday_of}
use Rattle.zone_minutes.specs.Zone.{Source, IsReadAs, local_of}

-- the fields match a civil minute's date
abbrev pub MatchesDateAt : Fields → ℤ → Type 0
MatchesDateAt fields minute =
    MatchesDate fields (civil_at minute).month (civil_at minute).day (weekday_of (day_number minute))

-- the fields match a civil minute: its date and its time of day
pub record Matches (fields : Fields) (minute : ℤ) : Type 0 where
  pub date : MatchesDateAt fields minute
  pub time : MatchesTime fields (civil_at minute).hour (civil_at minute).minute

-- the zone's clock showed this local time at no other of the instants from 179 minutes before
abbrev pub IsFirstShown : TimeZone → ℤ → Type 0
IsFirstShown zone instant =
    (earlier : ℤ) → (instant -ℤ pos 180) <ℤ earlier → earlier <ℤ instant → local_of zone earlier ≢ local_of zone instant

-- the zone's clock passed over this civil minute just before the instant, and over fewer than 180 in all
pub record IsSkipped (zone : TimeZone) (instant minute : ℤ) : Type 0 where
  pub after : local_of zone (instant -ℤ pos 1) <ℤ minute
  pub before : minute <ℤ local_of zone instant
  pub short : (local_of zone instant -ℤ local_of zone (instant -ℤ pos 1) -ℤ pos 1) <ℤ pos 180

-- An entry with a fixed time runs once where the clock is put back, and at once where the clock skips its time. A
-- change of three hours or more is a correction of the clock.
abbrev pub IsDueOnce : Fields → TimeZone → ℤ → Type 0
IsDueOnce fields zone instant =
    (Matches fields (local_of zone instant) × IsFirstShown zone instant)
    ⊎ ((minute : ℤ) × IsSkipped zone instant minute × Matches fields minute)

-- the entry is due at the instant; one whose minute or hour field begins with `*` follows the clock as it shows
abbrev pub IsDue : Fields → TimeZone → ℤ → Type 0
IsDue fields zone instant =
    MatchBool (is_frequent fields) (Matches fields (local_of zone instant)) (IsDueOnce fields zone instant)

-- the entry is due at the instant in a zone that the source is read as
abbrev pub IsDueIn : Fields → Source → ℤ → Type 0
IsDueIn fields source instant = (zone : TimeZone) × IsReadAs source zone × IsDue fields zone instant

-- the entry is due at no instant from one on and before another
abbrev pub IsNotDueIn : Fields → Source → ℤ → ℤ → Type 0
IsNotDueIn fields source from until =
    (instant : ℤ) → from ≤ℤ instant → instant <ℤ until → IsDueIn fields source instant → ⊥

-- the least due instant from one on
pub record IsFirstDue (fields : Fields) (source : Source) (from instant : ℤ) : Type 0 where
  pub due : IsDueIn fields source instant
  pub since : from ≤ℤ instant
  pub none_before : IsNotDueIn fields source from instant

-- each instant is before all that follow
abbrev pub IsRising : List ℤ → Type 0
IsRising [] = ⊤
IsRising (instant ∷ instants) = AllByRecursion (λ later. instant <ℤ later) instants × IsRising instants
