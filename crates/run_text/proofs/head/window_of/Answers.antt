use Rattle.std.proofs.Common.{None, codes, arith}
use Rattle.std.proofs.lemmas.Str.Pattern.{split_parts}
use Rattle.run_text.proofs.PhraseLemmas.{lacks_space}
use Rattle.run_text.proofs.WindowLemmas.{window_cut, no_window_without_space, no_window_without_from, no_window_without_until, no_window_past_limits, window_from_parts}
use Rattle.run_text.proofs.head.window_of.Goals as goal
use Rattle.crontab_text.proofs.VariantLemmas.{if_none}
use Rattle.script_text.proofs.CutLemmas.{strips}

pub returns-in_err-from-clause-none : goal.returns-in_err-from-clause-none
returns-in_err-from-clause-none c =
    if_none _
    (no_window_without_space c.args.line.now c.in_ok-stamps.stamps.now (strips (codes "window ") _ _ c.in_ok-stamps.ensures.cases)
    (lacks_space _ (split_parts 32 c.in_ok-stamps.stamps.now None c.in_err-from.ensures.cases (omega arith))))

pub returns-in_err-from-2-clause-none : goal.returns-in_err-from-2-clause-none
returns-in_err-from-2-clause-none c =
    let cut = window_cut c.args.line.now c.in_ok-stamps.stamps.now (c.in_ok-from.from, c.in_ok-from.until) c.in_ok-stamps.ensures.cases c.in_ok-from.ensures.cases in
    if_none _ (no_window_without_from c.args.line.now _ _ cut c.in_err-from-2.ensures.none)

pub returns-in_err-until-clause-none : goal.returns-in_err-until-clause-none
returns-in_err-until-clause-none c =
    let cut = window_cut c.args.line.now c.in_ok-stamps.stamps.now (c.in_ok-from.from, c.in_ok-from.until) c.in_ok-stamps.ensures.cases c.in_ok-from.ensures.cases in
    if_none _ (no_window_without_until c.args.line.now _ _ cut c.in_err-until.ensures.none)

pub returns-then-not-is_within_limits-clause-none : goal.returns-then-not-is_within_limits-clause-none
returns-then-not-is_within_limits-clause-none c =
    let cut = window_cut c.args.line.now c.in_ok-stamps.stamps.now (c.in_ok-from.from, c.in_ok-from.until) c.in_ok-stamps.ensures.cases c.in_ok-from.ensures.cases in
    let from = c.in_ok-from-2.ensures.read in
    let until = c.in_ok-until.ensures.read in
    no_window_past_limits c.args.line.now _ _ _ cut from.0 until.0 from.1 until.1
    (λ limits. let yes = c.is_within_limits.ensures.1 limits in cc (yes, c.if-not-is_within_limits.true))

pub returns-clause-read : goal.returns-clause-read
returns-clause-read c =
    let cut = window_cut c.args.line.now c.in_ok-stamps.stamps.now (c.in_ok-from.from, c.in_ok-from.until) c.in_ok-stamps.ensures.cases c.in_ok-from.ensures.cases in
    let from = c.in_ok-from-2.ensures.read in
    let until = c.in_ok-until.ensures.read in
    window_from_parts c.args.line.now _ _ _ cut from.1 until.1 (c.is_within_limits.ensures.0 c.if-not-is_within_limits.false)
