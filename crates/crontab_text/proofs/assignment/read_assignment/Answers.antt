use Rattle.std.proofs.Common.{Some, None, refl, subst, lit<}
use Rattle.std.proofs.lemmas.Str.Pattern.{strip_prefix_char}
use Rattle.crontab_text.specs.Blanks.{SkipsBlanks}
use Rattle.crontab_text.proofs.VariantLemmas.{if_none}
use Rattle.crontab_text.proofs.AssignmentLemmas.{assignment_from_steps, no_name_no_assignment, no_equals_no_assignment}
use Rattle.crontab_text.proofs.assignment.read_assignment.Goals as goal

pub returns-then-not-is_name-clause-none : goal.returns-then-not-is_name-clause-none
returns-then-not-is_name-clause-none c =
    no_name_no_assignment c.args.text.now _ _ c.cut_behind_name.ensures
    (λ name. let yes = c.is_name.ensures.1 name in cc)

pub returns-in_err-behind-clause-none : goal.returns-in_err-behind-clause-none
returns-in_err-behind-clause-none c =
    if_none _ (no_equals_no_assignment c.args.text.now _ _ _ c.cut_behind_name.ensures c.skip_blanks.ensures
    (strip_prefix_char 61 c.skip_blanks.result.now None c.in_err-behind.ensures.cases (lit< tt)))

pub returns-clause-read : goal.returns-clause-read
returns-clause-read c =
    let equals = strip_prefix_char 61 c.skip_blanks.result.now (Some c.in_ok-behind.behind) c.in_ok-behind.ensures.cases (lit< tt) in
    assignment_from_steps c.args.text.now c.cut_behind_name.result.0.now c.value_of.result.now (record {
      after = c.cut_behind_name.result.1.now;
      behind = c.in_ok-behind.behind.now;
      cut = c.cut_behind_name.ensures;
      is_name = c.if-not-is_name.ensures.0 refl;
      between = subst (SkipsBlanks c.cut_behind_name.result.1.now) equals c.skip_blanks.ensures;
      value_is = c.value_of.ensures;
    })
