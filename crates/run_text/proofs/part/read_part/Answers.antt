use Rattle.std.proofs.Common.{◌≢◌, ◌∙◌, sym, subst, inl, inr, length, codes, arith}
use Rattle.std.proofs.lemmas.Grind.{common_steps}
use Rattle.crontab_text.specs.Lines.{lines_of}
use Rattle.run_text.specs.Follow.{Sections}
use Rattle.run_text.specs.Run.{Run}
use Rattle.run_text.specs.Steps.{place_of, RefusedFrom, IsKnown}
use Rattle.run_text.specs.Zones.{AddsNone}
use Rattle.run_text.proofs.PartLemmas.{known_section, part_refused, version_passes}
use Rattle.run_text.proofs.SectionLemmas.{PassesOpening, opening_leads, opening_refused}
use Rattle.run_text.proofs.StepLemmas.{goes_on, missing_line}
use Rattle.run_text.proofs.part.read_part.Goals as goal
use Rattle.crontab_text.proofs.VariantLemmas.{handed_on}

pub returns-in_default-clause-refused : goal.returns-in_default-clause-refused
returns-in_default-clause-refused c = λ run is.
    missing_line c.args.tables _ (Sections run) c.args.reader.now.rest.now c.of_line.result c.in_default.ensures.missing c.of_line.ensures.cause
    (c.of_line.ensures.line ∙ c.in_default.ensures.number) c.of_line.ensures.place

pub returns-in_err-zone-clause-refused : goal.returns-in_err-zone-clause-refused
returns-in_err-zone-clause-refused c =
    let refused = c.in_err-zone.ensures in
    handed_on c.from_residual.result c.in_err-zone.field-0.0
    (λ refusal. (run : Run) → IsKnown c.args.known.now run → RefusedFrom c.args.tables (place_of c.args.reader.now (Sections run)) refusal)
    c.from_residual.ensures.1
    (part_refused c.args.tables c.args.reader.now c.next_line.new.self c.args.known.now c.in-Some.line.now c.in_err-zone.field-0.0
    c.in-Some.ensures.number c.in-Some.ensures.line refused.line
    (λ run is. inr (inl (c.has_zone_word.ensures.0 c.if-has_zone_word.true, subst (λ names. AddsNone names c.in-Some.line.now) (sym is.names) refused.refused, refused.cause))))

pub returns-in_err-from-clause-refused : goal.returns-in_err-from-clause-refused
returns-in_err-from-clause-refused c =
    let refused = c.in_err-from.ensures in
    handed_on c.from_residual-in_err-from.result c.in_err-from.field-0.0
    (λ refusal. (run : Run) → IsKnown c.args.known.now run → RefusedFrom c.args.tables (place_of c.args.reader.now (Sections run)) refusal)
    c.from_residual-in_err-from.ensures.1
    (part_refused c.args.tables c.args.reader.now c.next_line.new.self c.args.known.now c.in-Some.line.now c.in_err-from.field-0.0
    c.in-Some.ensures.number c.in-Some.ensures.line refused.line
    (λ run is. inr (inr (inl (c.has_version_word.ensures.0 c.if-has_version_word.true, refused.refused run is, refused.cause)))))

pub returns-in_err-opening-clause-refused : goal.returns-in_err-opening-clause-refused
returns-in_err-opening-clause-refused c =
    let refused = c.in_err-opening.ensures in
    let no_script : c.in-Some.line.now ≢ codes "script" = grind (arith, common_steps) in
    handed_on c.from_residual-in_err-opening.result c.in_err-opening.field-0.0
    (λ refusal. (run : Run) → IsKnown c.args.known.now run → RefusedFrom c.args.tables (place_of c.args.reader.now (Sections run)) refusal)
    c.from_residual-in_err-opening.ensures.1
    (part_refused c.args.tables c.args.reader.now c.next_line.new.self c.args.known.now c.in-Some.line.now c.in_err-opening.field-0.0
    c.in-Some.ensures.number c.in-Some.ensures.line refused.line
    (λ run is. refused.refused (length (lines_of c.next_line.new.self.rest.now)) run
    (λ word. let yes = c.has_zone_word.ensures.1 word in cc (yes, c.if-has_zone_word.false))
    (λ word. let yes = c.has_version_word.ensures.1 word in cc (yes, c.if-has_version_word.false)) no_script))

pub returns-in_err-section-clause-refused : goal.returns-in_err-section-clause-refused
returns-in_err-section-clause-refused c =
    let passes : PassesOpening c.args.reader.now c.next_line.new.self c.in_ok-opening.opening = record {
      line = c.in-Some.line.now;
      lines = c.in-Some.ensures.line;
      number = c.in-Some.ensures.number;
      is = c.in_ok-opening.ensures.read;
    } in
    handed_on c.from_residual-in_err-section.result c.in_err-section.field-0.0
    (λ refusal. (run : Run) → IsKnown c.args.known.now run → RefusedFrom c.args.tables (place_of c.args.reader.now (Sections run)) refusal)
    c.from_residual-in_err-section.ensures.1
    (λ run is. opening_refused c.args.tables c.args.reader.now c.next_line.new.self c.in_ok-opening.opening c.in_err-section.field-0.0 passes c.in_err-section.ensures.refused run)

pub returns-clause-part : goal.returns-clause-part
returns-clause-part c =
    let passes : PassesOpening c.args.reader.now c.next_line.new.self c.in_ok-opening.opening = record {
      line = c.in-Some.line.now;
      lines = c.in-Some.ensures.line;
      number = c.in-Some.ensures.number;
      is = c.in_ok-opening.ensures.read;
    } in
    let table = c.in_ok-section.ensures.read in
    record {
      leads = λ run is. goes_on _ _ _ (opening_leads c.args.reader.now c.next_line.new.self c.in_ok-opening.opening passes table.whole run) (table.leads run);
      keeps = λ run is. known_section _ run _ is;
    }

pub returns-then-has_version_word-clause-part : goal.returns-then-has_version_word-clause-part
returns-then-has_version_word-clause-part c =
    version_passes c.args.reader.now c.next_line.new.self c.args.known.now c.read_version_line.new.known c.in-Some.line.now c.in_ok-from.from
    c.in-Some.ensures.number c.in-Some.ensures.line c.in_ok-from.ensures.read c.in_ok-from.ensures.known
