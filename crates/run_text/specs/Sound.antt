-- What holds of each run that is read. Source: docs/RUN_FILE.md.
use Rattle.std.specs.Prelude.{◌≢◌, ℕ, ◌+◌, ◌<◌, ◌≤◌, ◌≤ℤ◌, List, [], ◌∷◌, length, codes, All, AllPairs, ⊤}
use Rattle.std.specs.List.{AllByRecursion}
use Rattle.zone_minutes.specs.Window.{IsInWindow, IsWithinLimits}
use Rattle.zone_minutes.specs.Zone.{Source, FixedOffset, PosixRule, TzifFile, IsOffsetMinutes}
use Rattle.script_text.specs.Command.{IsInRange}
use Rattle.script_text.specs.Script.{IsScriptWithinLimits}
use Rattle.run_text.specs.Follow.{style_of}
use Rattle.run_text.specs.Grammar.{IsZoneName}
use Rattle.run_text.specs.Run.{NamedZone, Section, Run}
use Rattle.run_text.specs.Table.{AreSaid}
use Rattle.run_text.specs.Zones.{zone_names_of}
use Rattle.run_text.specs.declared.run.VersionLine.{VersionLine}

-- each line of the section says something, and its last line has a number below this one
pub record IsSoundSection (next : ℕ) (section : Section) : Type 0 where
  pub said : AreSaid (style_of section.kind) section.label section.lines
  pub within : section.line + length section.lines < next

-- a fixed offset of the source is from -12:00 to +14:00
abbrev pub IsSoundSource : Source → Type 0
IsSoundSource (FixedOffset minutes) = IsOffsetMinutes minutes
IsSoundSource (PosixRule text) = ⊤
IsSoundSource (TzifFile bytes) = ⊤

-- the zone has a name that isn't `UTC`, and its offset is within the limits
pub record IsSoundZone (zone : NamedZone) : Type 0 where
  pub named : IsZoneName zone.name
  pub no_utc : zone.name ≢ codes "UTC"
  pub source : IsSoundSource zone.source

-- no name stands twice
abbrev pub AreDistinct : List (List ℕ) → Type 0
AreDistinct [] = ⊤
AreDistinct (name ∷ names) = AllByRecursion (λ other. other ≢ name) names × AreDistinct names

-- there are 32 zones at most, each of which is sound, under names of their own
pub record AreSoundZones (zones : List NamedZone) : Type 0 where
  pub few : length zones ≤ 32
  pub each : AllByRecursion IsSoundZone zones
  pub distinct : AreDistinct (zone_names_of zones)

-- the version comes no later than the other, by its instant and by the sections above it
pub record IsNotLater (a b : VersionLine) : Type 0 where
  pub by_instant : a.from.0 ≤ℤ b.from.0
  pub by_sections : a.first_section ≤ b.first_section

-- there are 7 versions at most after the first: each comes within the window and behind some of the sections, and none comes before
-- an earlier one
pub record AreVersionLines (run : Run) : Type 0 where
  pub few : length run.versions ≤ 7
  pub inside : All (λ (version : VersionLine). IsInWindow run.window version.from.0) run.versions
  pub within : All (λ (version : VersionLine). version.first_section ≤ length run.sections) run.versions
  pub in_order : AllPairs IsNotLater run.versions

-- each command of the script names what the run has, and the script is within its limits
pub record IsSoundScript (run : Run) : Type 0 where
  pub in_range : AllByRecursion (IsInRange run.members run.window) run.commands
  pub limits : IsScriptWithinLimits run.commands

-- there are 1 to 7 replicas
pub record AreSoundReplicas (members : ℕ) : Type 0 where
  pub some : 1 ≤ members
  pub few : members ≤ 7

-- the run's replicas, window and grace are within the limits, and so are its zones, its sections, its versions and its script
pub record IsSoundRun (next : ℕ) (run : Run) : Type 0 where
  pub replicas : AreSoundReplicas run.members
  pub limits : IsWithinLimits run.window
  pub grace : run.grace ≤ 525_600
  pub zones : AreSoundZones run.zones
  pub sections : AllByRecursion (IsSoundSection next) run.sections
  pub versions : AreVersionLines run
  pub script : IsSoundScript run
