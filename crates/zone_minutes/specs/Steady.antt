-- Instants at which a zone's offset is one.
use Rattle.std.specs.Prelude.{◌≡◌, ℤ, ◌≤ℤ◌, ◌<ℤ◌}
use Rattle.jiff.specs.Types.{TimeZone}
use Rattle.jiff.specs.Words.{offset_at}
use Rattle.zone_minutes.specs.Zone.{minute_nanos}

-- at each instant from one on and before another the offset is as at the first
abbrev pub IsSteady : TimeZone → ℤ → ℤ → Type 0
IsSteady zone from until = (instant : ℤ) → from ≤ℤ instant → instant <ℤ until → offset_at zone (minute_nanos instant) ≡ offset_at zone (minute_nanos from)
