use Rattle.std.proofs.Common.{Some, None, arith}
use Rattle.std.proofs.lemmas.Str.Pattern.{split_parts}
use Rattle.crontab_text.proofs.VariantLemmas.{if_none}
use Rattle.anacron_text.proofs.SettingsLemmas.{no_hours, no_first_hour, no_last_hour, hours_same}
use Rattle.anacron_text.proofs.settings.read_hours.Goals as goal

pub returns-in_err-first-clause-none : goal.returns-in_err-first-clause-none
returns-in_err-first-clause-none c =
    if_none _ (no_hours c.args.text.now (split_parts 45 c.args.text.now None c.in_err-first.ensures.cases (omega arith)))

pub returns-in_err-first-2-clause-none : goal.returns-in_err-first-2-clause-none
returns-in_err-first-2-clause-none c =
    let (is, lacks) = split_parts 45 c.args.text.now (Some (c.in_ok-first.first, c.in_ok-first.last)) c.in_ok-first.ensures.cases (omega arith) in
    if_none _ (no_first_hour c.args.text.now c.in_ok-first.first.now c.in_ok-first.last.now is lacks c.in_err-first-2.ensures.none)

pub returns-in_err-last-clause-none : goal.returns-in_err-last-clause-none
returns-in_err-last-clause-none c =
    let (is, lacks) = split_parts 45 c.args.text.now (Some (c.in_ok-first.first, c.in_ok-first.last)) c.in_ok-first.ensures.cases (omega arith) in
    if_none _ (no_last_hour c.args.text.now c.in_ok-first.first.now c.in_ok-first.last.now is lacks c.in_err-last.ensures.none)

pub returns-else-first-last-clause-none : goal.returns-else-first-last-clause-none
returns-else-first-last-clause-none c first last hours =
    let (is, lacks) = split_parts 45 c.args.text.now (Some (c.in_ok-first.first, c.in_ok-first.last)) c.in_ok-first.ensures.cases (omega arith) in
    let rise = hours_same c.args.text.now c.in_ok-first.first.now c.in_ok-first.last.now c.in_ok-first-2.first c.in_ok-last.last first last is lacks
    c.in_ok-first-2.ensures.read.1 c.in_ok-last.ensures.read.1 c.in_ok-first-2.ensures.read.0 c.in_ok-last.ensures.read.0 hours in
    omega (arith, rise, c.if-first-last.false)
