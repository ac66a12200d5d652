-- The zones that a run names, and their numbers in its table.
use Rattle.std.specs.Prelude.{◌≡◌, ◌⊎◌, ℕ, ◌+◌, List, [], ◌∷◌, map, All, if◌then◌else◌, codes, bytes_eq}
use Rattle.due_set.specs.Table.{utc_over}
use Rattle.run_text.specs.Run.{NamedZone}
use Rattle.zone_minutes.specs.Zone.{Zone, zone_over, IsReadable}
use Rattle.zone_minutes.specs.declared.minute.Window.{Window}

-- one of the zones has the name
abbrev pub HasZone : List ℕ → List NamedZone → Type 0
HasZone name [] = ⊥
HasZone name (zone ∷ zones) = (zone.name ≡ name) ⊎ HasZone name zones

-- the name is UTC's, or that of one of the zones
abbrev pub NamesZone : List ℕ → List NamedZone → Type 0
NamesZone name zones = (name ≡ codes "UTC") ⊎ HasZone name zones

-- the place of the first zone of the name, from 0; behind the last one, where none has the name
abbrev pub zone_place_of : List ℕ → List NamedZone → ℕ
zone_place_of name [] = 0
zone_place_of name (zone ∷ zones) = if bytes_eq zone.name name then 0 else 1 + zone_place_of name zones

-- the number of the zone of the name: UTC's is 0, and the zones that the run names have 1, 2 and so on, in their order
abbrev pub zone_number : List ℕ → List NamedZone → ℕ
zone_number name zones = if bytes_eq name (codes "UTC") then 0 else 1 + zone_place_of name zones

-- the zones of the run's table by their numbers, each over the window
abbrev pub zones_over : Window → List NamedZone → List Zone
zones_over window zones = utc_over window ∷ map (λ zone. zone_over zone.source window) zones

-- `jiff` reads each of the zones
abbrev pub AreReadable : List NamedZone → Type 0
AreReadable zones = All (λ zone. IsReadable zone.source) zones
