use Rattle.std.proofs.Common.{length, arith}
use Rattle.run_text.specs.Follow.{Sections, Script}
use Rattle.run_text.specs.Run.{Run}
use Rattle.run_text.specs.Steps.{place_of, CarriesBack, RefusedFrom, HasNoPart, PassesPart, FitsInFile}
use Rattle.run_text.proofs.PartLemmas.{reads_all, reads_refused, reads_pushed, parts_pushed, count_pushed, digits_pushed, less}
use Rattle.run_text.proofs.VariantLemmas.{at_some, at_none, refused_on}
use Rattle.run_text.proofs.parts.read_parts.Goals as goal

pub returns-in_err-part-clause-refused : goal.returns-in_err-part-clause-refused
returns-in_err-part-clause-refused c =
    refused_on c.from_residual.result c.in_err-part.field-0.0 (λ refusal. (run : Run) → HasNoPart c.args.window run → RefusedFrom c.args.tables (place_of c.args.reader.now (Sections run)) refusal)
    c.from_residual.ensures.1
    (reads_refused _ _ _ _ _ _ _ _ c.parts.invariant.0 c.in_err-part.ensures.refused)

pub parts-preserved : goal.parts-preserved
parts-preserved c =
    let passes = at_some c.in_ok-part.field-0 (PassesPart c.args.tables c.parts.reader c.read_part.new.reader c.parts.known c.read_part.new.known) c.in-Some.part c.in-Some.is c.in_ok-part.ensures.part in
    let part_of = at_some c.in_ok-part.field-0 (FitsInFile (length c.parts.reader.rest.now)) c.in-Some.part c.in-Some.is c.in_ok-part.ensures.part_of in (
      reads_pushed _ _ _ _ _ _ c.parts.parts c.push.new.self c.in-Some.part c.parts.invariant.0 passes c.in_ok-part.ensures.room (less c.in_ok-part.ensures.shorter) c.in_ok-push.ensures,
      parts_pushed _ _ c.parts.parts c.push.new.self c.in-Some.part c.parts.invariant.1 part_of c.parts.invariant.0.short c.in_ok-push.ensures,
      digits_pushed _ c.parts.parts c.push.new.self c.in-Some.part c.parts.invariant.2 part_of c.in_ok-push.ensures,
      omega (arith, count_pushed c.parts.parts c.push.new.self c.in-Some.part c.in_ok-push.ensures, c.in_ok-part.ensures.shorter, c.parts.invariant.3),
    )

pub returns-clause-read : goal.returns-clause-read
returns-clause-read c =
    reads_all _ _ _ c.read_part.new.reader _ _ _ _ c.parts.invariant.0
    (at_none c.in_ok-part.field-0 {P = (run : Run) → CarriesBack c.args.tables (place_of c.parts.reader (Sections run)) (place_of c.read_part.new.reader (Script run))}
    c.in_default.is c.in_ok-part.ensures.script)
