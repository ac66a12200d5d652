use Rattle.std.proofs.Common.{sym, ◌∙◌, true≢false}
use Rattle.std.proofs.lemmas.Slice.Eq.{bytes_eq-Decides}
use Rattle.audit_text.specs.Parts.{report_end}
use Rattle.audit_text.proofs.PartLemmas.{passes_all, passes_end, passes_none, passes_on}
use Rattle.audit_text.proofs.parts.behind_report.Goals as goal

pub lines-init : goal.lines-init
lines-init c = passes_none c.args.text.now

pub returns-then-eq : goal.returns-then-eq
returns-then-eq c = passes_end c.args.text.now c.lines.rest.now c.in-Some.line.now c.in-Some.after.now c.lines.invariant c.in-Some.ensures.line
    ((bytes_eq-Decides c.in-Some.line.now report_end).0 (sym c.eq.ensures ∙ c.if-eq.true))

pub lines-preserved : goal.lines-preserved
lines-preserved c = passes_on c.args.text.now c.lines.rest.now c.in-Some.line.now c.in-Some.after.now c.lines.invariant c.in-Some.ensures.line
    (λ same. true≢false (sym ((bytes_eq-Decides c.in-Some.line.now report_end).1 same) ∙ (sym c.eq.ensures ∙ c.if-eq.false)))

pub returns : goal.returns
returns c = passes_all c.args.text.now c.lines.rest.now c.lines.invariant c.in_default.ensures.none
