use Rattle.std.proofs.Common.{sym, subst, ◌≡◌, ◌<◌, ◌∙◌, [], length, true≢false, IfNone, arith}
use Rattle.std.proofs.lemmas.Slice.Eq.{bytes_eq-Decides}
use Rattle.std.proofs.lemmas.Bool.Decides.{nat_tests}
use Rattle.crontab_text.specs.Lines.{BeginsWithLine}
use Rattle.audit_text.proofs.difference.first_other_line.Goals as goal
use Rattle.audit_text.proofs.ReadLemmas.{differs_here, ends_here, misses_here, same_more}

pub returns-in_default-cut_first-clause-other : goal.returns-in_default-cut_first-clause-other
returns-in_default-cut_first-clause-other c =
    differs_here c.args.text.now c.args.expected.now c.lines.rest.now c.lines.wanted.now c.in-Some.line.now c.in-Some.after.now c.in-Some-cut_first.other.now c.in-Some-cut_first.behind.now c.lines.number
    c.lines.invariant c.in-Some.ensures.line c.in-Some-cut_first.ensures.line
    (λ same. true≢false (sym ((bytes_eq-Decides c.in-Some.line.now c.in-Some-cut_first.other.now).1 same) ∙ (sym c.eq.ensures ∙ c.if-eq.false)))

pub returns-in_default-cut_first-2-clause-other : goal.returns-in_default-cut_first-2-clause-other
returns-in_default-cut_first-2-clause-other c =
    ends_here c.args.text.now c.args.expected.now c.lines.rest.now c.lines.wanted.now c.in-Some.line.now c.in-Some.after.now c.lines.number c.lines.invariant c.in-Some.ensures.line
    (subst (λ r. IfNone r (c.lines.wanted.now ≡ [])) c.in_default-cut_first.is c.cut_first-in-Some.ensures.none)

pub lines-preserved : goal.lines-preserved
lines-preserved c =
    let same : c.in-Some.line.now ≡ c.in-Some-cut_first.other.now = (bytes_eq-Decides c.in-Some.line.now c.in-Some-cut_first.other.now).0 (sym c.eq.ensures ∙ c.if-eq.true) in
    same_more c.args.text.now c.args.expected.now c.lines.rest.now c.lines.wanted.now c.in-Some.line.now c.in-Some.after.now c.in-Some-cut_first.behind.now c.lines.number c.lines.invariant
    c.in-Some.ensures.line (subst (λ line. BeginsWithLine c.lines.wanted.now line c.in-Some-cut_first.behind.now) (sym same) c.in-Some-cut_first.ensures.line) c.in-Some.ensures.shorter

pub returns-else-is_empty-clause-other : goal.returns-else-is_empty-clause-other
returns-else-is_empty-clause-other c =
    let some : 0 < length c.lines.wanted.now = grind (arith, nat_tests) in
    misses_here c.args.text.now c.args.expected.now c.lines.rest.now c.lines.wanted.now c.lines.number c.lines.invariant c.in_default.ensures.none some
