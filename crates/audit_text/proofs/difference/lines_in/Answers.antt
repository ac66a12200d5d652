use Rattle.std.proofs.Common.{◌≡◌, ℕ, List, ◌∷◌, length, ap, ◌∙◌, arith}
use Rattle.crontab_text.specs.Lines.{lines_of}
use Rattle.crontab_text.proofs.LineLemmas.{lines_at_most, lines_of-begins, lines_of-none}
use Rattle.audit_text.proofs.difference.lines_in.Goals as goal

pub overflow_add-count : goal.overflow_add-count
overflow_add-count c =
    let begins : length (lines_of c.lines.rest.now) ≡ length (c.in-Some.field-0-0.now ∷ lines_of c.in-Some.after.now) =
    ap length (lines_of-begins c.lines.rest.now c.in-Some.field-0-0.now c.in-Some.after.now c.in-Some.ensures.line) in
    let so_far = c.lines.invariant in
    let most = lines_at_most c.args.text.now in
    let short = c.requires in
    omega arith

pub lines-preserved : goal.lines-preserved
lines-preserved c =
    let begins : length (lines_of c.lines.rest.now) ≡ length (c.in-Some.field-0-0.now ∷ lines_of c.in-Some.after.now) =
    ap length (lines_of-begins c.lines.rest.now c.in-Some.field-0-0.now c.in-Some.after.now c.in-Some.ensures.line) in
    let so_far = c.lines.invariant in
    omega arith

pub returns : goal.returns
returns c =
    let rest : length (lines_of c.lines.rest.now) ≡ 0 = ap (λ (t : List ℕ). length (lines_of t)) c.in_default.ensures.none ∙ ap length lines_of-none in
    let so_far = c.lines.invariant in
    omega arith
