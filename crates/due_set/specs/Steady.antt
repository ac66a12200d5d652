-- Stretches of instants in which a zone's clocks are neither put forward nor back.
use Rattle.std.specs.Prelude.{◌≡◌, ℤ, pos, ◌+ℤ◌, ◌-ℤ◌, ◌<ℤ◌}
use Rattle.jiff.specs.Types.{TimeZone}
use Rattle.zone_minutes.specs.Zone.{Source, IsReadAs, local_of}

-- the clocks go on by the minutes from one instant up to another, and so they did from 179 minutes before the first
abbrev pub AreSteady : Source → ℤ → ℤ → Type 0
AreSteady source from until =
    (zone : TimeZone) → IsReadAs source zone → (instant : ℤ) → (from -ℤ pos 180) <ℤ instant → instant <ℤ until
    → local_of zone instant ≡ local_of zone from +ℤ (instant -ℤ from)
