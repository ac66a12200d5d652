use Rattle.std.proofs.Common.{[]}
use Rattle.run_text.specs.Follow.{Sections, Script}
use Rattle.run_text.specs.Run.{Run}
use Rattle.run_text.specs.Steps.{place_of, CarriesBack, RefusedFrom, HasNoPart, PassesPart}
use Rattle.run_text.proofs.PartLemmas.{reads_none, reads_all, reads_refused, reads_next, zones_with, sections_with, versions_with, less}
use Rattle.run_text.proofs.VariantLemmas.{at_some, at_none}
use Rattle.run_text.proofs.parts.pass_parts.Goals as goal
use Rattle.crontab_text.proofs.VariantLemmas.{handed_on}

pub returns-in_err-_part-clause-refused : goal.returns-in_err-_part-clause-refused
returns-in_err-_part-clause-refused c =
    handed_on c.from_residual.result c.in_err-_part.field-0.0 (λ refusal. (run : Run) → HasNoPart c.args.window run → RefusedFrom c.args.tables (place_of c.args.reader.now (Sections run)) refusal)
    c.from_residual.ensures.1
    (reads_refused _ _ _ _ _ _ _ _ c.parts.invariant.3 c.in_err-_part.ensures.refused)

pub parts-init : goal.parts-init
parts-init c = ([], [], [], reads_none c.args.window c.args.reader.now _ c.new-known.ensures c.requires)

pub parts-preserved : goal.parts-preserved
parts-preserved c =
    let passes = at_some c.in_ok-_part.field-0 (PassesPart c.args.tables c.parts.reader c.read_part.new.reader c.parts.known c.read_part.new.known) c.in-Some._part c.in-Some.is c.in_ok-_part.ensures.part in (
      zones_with c.parts.invariant.0 c.in-Some._part,
      sections_with c.parts.invariant.1 c.in-Some._part,
      versions_with c.parts.invariant.1 c.parts.invariant.2 c.in-Some._part,
      reads_next _ _ _ _ _ _ _ _ _ c.in-Some._part c.parts.invariant.3 passes c.in_ok-_part.ensures.room (less c.in_ok-_part.ensures.shorter),
    )

pub returns-clause-read : goal.returns-clause-read
returns-clause-read c = (
  c.parts.invariant.0,
  c.parts.invariant.1,
  c.parts.invariant.2,
  reads_all _ _ _ c.read_part.new.reader _ _ _ _ c.parts.invariant.3
      (at_none c.in_ok-_part.field-0 {P = (run : Run) → CarriesBack c.args.tables (place_of c.parts.reader (Sections run)) (place_of c.read_part.new.reader (Script run))}
      c.in_default.is c.in_ok-_part.ensures.script),
)
