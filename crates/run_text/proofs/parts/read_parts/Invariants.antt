use Rattle.std.proofs.Common.{◌+◌, ◌≤◌, length, map, All}
use Rattle.run_text.specs.Reading.{FitInFile, HasDigits}
use Rattle.run_text.specs.Run.{section_of, zone_of}
use Rattle.run_text.proofs.PartLemmas.{Reads}
use Rattle.run_text.proofs.parts.read_parts.Given as goal

abbrev pub invariant-parts : goal.invariant-parts
invariant-parts l =
    Reads l.fn.tables l.fn.window l.fn.reader l.reader l.known (map zone_of l.parts.zones.items) (map section_of l.parts.sections.items) l.parts.versions.items
    × FitInFile (length l.fn.reader.rest.now) l.parts.sections.items
    × All HasDigits l.parts.zones.items
    × (length l.parts.sections.items + length l.reader.rest.now ≤ length l.fn.reader.rest.now)

abbrev pub decreases-parts : goal.decreases-parts
decreases-parts l = length l.reader.rest.now
