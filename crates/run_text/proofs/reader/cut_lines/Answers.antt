use Rattle.std.proofs.Common.{◌≡◌, ◌-◌, [], ◌++◌, length, refl, sym, subst, arith, rules}
use Rattle.std.proofs.lemmas.Str.{IsCharBoundary-from_drop}
use Rattle.run_text.specs.Steps.{IsCut}
use Rattle.run_text.proofs.CutLemmas.{cut_none, cut_next, too_few, cut_size, cut_at, cut_rest}
use Rattle.run_text.proofs.reader.cut_lines.Goals as goal
use Rattle.crontab_text.proofs.VariantLemmas.{if_none}

pub lines-init : goal.lines-init
lines-init c = (c.utf8.text, ([], cut_none c.args.text.now))

pub lines-preserved : goal.lines-preserved
lines-preserved c =
    let back = c.in_ok-rest.ensures.back in
    let cut = c.lines.invariant.1 in
    (search rules, (cut.0 ++ back.0, cut_next c.args.text.now cut.0 c.lines.rest.now back.0 c.in_ok-rest.field-0-0.now c.in_ok-rest.field-0-1.now c.lines.counter cut.1 back.1 c.in_ok-rest.ensures.lines))

pub returns-in_err-rest-clause-none : goal.returns-in_err-rest-clause-none
returns-in_err-rest-clause-none c =
    let cut = c.lines.invariant.1 in
    if_none _ (too_few c.args.text.now cut.0 c.lines.rest.now c.lines.counter c.args.count cut.1 (c.in_err-rest.ensures.none.0 refl) (omega arith))

pub overflow_sub-text : goal.overflow_sub-text
overflow_sub-text c =
    let cut = c.lines.invariant.1 in
    omega (arith, cut_size c.args.text.now cut.0 c.lines.rest.now c.lines.counter cut.1)

pub split_at-requires : goal.split_at-requires
split_at-requires c =
    let cut = c.lines.invariant.1 in
    let back = cut_rest c.args.text.now cut.0 c.lines.rest.now c.lines.counter cut.1 in
    IsCharBoundary-from_drop c.args.text.now (length c.args.text.now - length c.lines.rest.now) (omega arith) (rw back c.lines.invariant.0)

pub returns-clause-cut : goal.returns-clause-cut
returns-clause-cut c =
    let cut = c.lines.invariant.1 in
    let counted : c.lines.counter ≡ c.args.count = omega arith in
    let front = cut_at c.args.text.now cut.0 c.lines.rest.now c.split_at.result.0.now c.lines.counter cut.1 c.split_at.ensures.front in
    subst (λ n. IsCut c.args.text.now n c.split_at.result.0.now c.lines.rest.now) counted
    (subst (λ t. IsCut c.args.text.now c.lines.counter t c.lines.rest.now) (sym front) cut.1)
