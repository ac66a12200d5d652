use Rattle.std.proofs.Common.{List, length}
use Rattle.run_text.specs.Run.{NamedZone, Section}
use Rattle.run_text.specs.declared.run.VersionLine.{VersionLine}
use Rattle.run_text.proofs.PartLemmas.{Reads}
use Rattle.run_text.proofs.parts.pass_parts.Given as goal

abbrev pub invariant-parts : goal.invariant-parts
invariant-parts l =
    (zones : List NamedZone) × (sections : List Section) × (versions : List VersionLine)
    × Reads l.fn.tables l.fn.window l.fn.reader l.reader l.known zones sections versions

abbrev pub decreases-parts : goal.decreases-parts
decreases-parts l = length l.reader.rest.now
