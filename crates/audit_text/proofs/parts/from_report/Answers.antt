use Rattle.std.proofs.Common.{sym, refl, ◌∙◌, true≢false}
use Rattle.std.proofs.lemmas.Slice.Eq.{bytes_eq-Decides}
use Rattle.audit_text.specs.Parts.{report_head}
use Rattle.audit_text.proofs.PartLemmas.{found_last, found_none, searches_from, searches_none, searches_on}
use Rattle.audit_text.proofs.parts.from_report.Goals as goal

pub lines-init : goal.lines-init
lines-init c = searches_none c.args.input.now

pub lines-preserved-then-eq : goal.lines-preserved-then-eq
lines-preserved-then-eq c = searches_from c.args.input.now c.lines.rest.now c.in-Some.line.now c.in-Some.after.now c.lines.found c.lines.rest c.lines.invariant c.in-Some.ensures.line
    ((bytes_eq-Decides c.in-Some.line.now report_head).0 (sym c.eq.ensures ∙ c.if-eq.true)) refl

pub lines-preserved : goal.lines-preserved
lines-preserved c = searches_on c.args.input.now c.lines.rest.now c.in-Some.line.now c.in-Some.after.now c.lines.found c.lines.invariant c.in-Some.ensures.line
    (λ same. true≢false (sym ((bytes_eq-Decides c.in-Some.line.now report_head).1 same) ∙ (sym c.eq.ensures ∙ c.if-eq.false)))

pub returns-clause-found : goal.returns-clause-found
returns-clause-found c = found_last c.args.input.now c.lines.rest.now c.lines.found c.lines.invariant c.in_default.ensures.none

pub returns-clause-none : goal.returns-clause-none
returns-clause-none c = found_none c.args.input.now c.lines.rest.now c.lines.found c.lines.invariant c.in_default.ensures.none
