use Rattle.std.proofs.Common.{◌≡◌, ◌+◌, ◌<◌, length, drop, refl, ap, ◌∙◌, arith, lit<}
use Rattle.std.proofs.lemmas.Bool.Decides.{nat_tests}
use Rattle.std.proofs.lemmas.Str.Pattern.{strip_prefix_char}
use Rattle.anacron_text.proofs.LogicalLemmas.{begins_logical, after_logical}
use Rattle.anacron_text.proofs.logical.next_logical_line.Goals as goal

pub returns-clause-line : goal.returns-clause-line
returns-clause-line c =
    let some : 0 < length c.args.text.now = grind (arith, nat_tests) in
    let stripped = strip_prefix_char 10 c.split_at.result.1.now c.strip_prefix.result c.strip_prefix.ensures.cases (lit< tt) in
    let cases = rw c.split_at.ensures.back at stripped in
    let after : c.unwrap_or.result.now ≡ drop (c.logical_end.result + 1) c.args.text.now =
    ap (λ rest. rest.now) c.unwrap_or.ensures ∙ after_logical c.args.text.now c.logical_end.result c.strip_prefix.result _ c.logical_end.ensures refl cases in
    rw (c.split_at.ensures.front, after) (begins_logical c.args.text.now c.logical_end.result some c.logical_end.ensures)
