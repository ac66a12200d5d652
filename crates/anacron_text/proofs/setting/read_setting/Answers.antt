use Rattle.std.proofs.Common.{Some, None, refl, lit<}
use Rattle.std.proofs.lemmas.Str.Pattern.{strip_prefix_char}
use Rattle.crontab_text.proofs.VariantLemmas.{if_none}
use Rattle.anacron_text.proofs.SettingLemmas.{setting_from_steps, no_name_no_setting, no_equals_no_setting}
use Rattle.anacron_text.proofs.setting.read_setting.Goals as goal

pub returns-then-not-is_name-clause-none : goal.returns-then-not-is_name-clause-none
returns-then-not-is_name-clause-none c =
    no_name_no_setting c.args.text.now _ _ c.cut_behind_name.ensures
    (λ name. let yes = c.is_name.ensures.1 name in cc)

pub returns-in_err-behind-clause-none : goal.returns-in_err-behind-clause-none
returns-in_err-behind-clause-none c =
    if_none _ (no_equals_no_setting c.args.text.now _ _ _ c.cut_behind_name.ensures c.skip_blanks.ensures.skips
    (strip_prefix_char 61 c.skip_blanks.result.now None c.in_err-behind.ensures.cases (lit< tt)))

pub returns-clause-read : goal.returns-clause-read
returns-clause-read c =
    let equals = strip_prefix_char 61 c.skip_blanks.result.now (Some c.in_ok-behind.behind) c.in_ok-behind.ensures.cases (lit< tt) in
    setting_from_steps c.args.text.now c.cut_behind_name.result.0.now c.cut_behind_name.result.1.now c.skip_blanks.result.now c.in_ok-behind.behind.now c.value_of.result.text.now c.value_of.result.left
    c.cut_behind_name.ensures (c.if-not-is_name.ensures.0 refl) c.skip_blanks.ensures.skips c.skip_blanks.ensures.stands equals c.value_of.ensures
