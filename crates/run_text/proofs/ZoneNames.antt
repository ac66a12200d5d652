-- The names of a run's zones.
use Rattle.std.proofs.Common.{◌≢◌, List, [], ◌∷◌, codes}
use Rattle.std.specs.List.{AllByRecursion}
use Rattle.run_text.specs.Grammar.{IsZoneName}
use Rattle.run_text.specs.Run.{NamedZone}
use Rattle.run_text.specs.Sound.{IsSoundZone}

-- each zone has a name, which isn't `UTC`
pub each_named : (zones : List NamedZone) → AllByRecursion IsSoundZone zones
    → AllByRecursion (λ (zone : NamedZone). IsZoneName zone.name × (zone.name ≢ codes "UTC")) zones
each_named [] all = tt
each_named (zone ∷ zones) all = ((all.0.named, all.0.no_utc), each_named zones all.1)
