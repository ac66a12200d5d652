use Rattle.std.proofs.Common.{◌≢◌, ◌∙◌, sym, codes}
use Rattle.script_text.proofs.CutLemmas.{if_none}
use Rattle.journal_line.proofs.SpacedLemmas.{differ}
use Rattle.journal_line.proofs.LineLemmas.{no_line}
use Rattle.journal_line.proofs.read.read_line.Goals as goal

pub returns-in_err-number-clause-none : goal.returns-in_err-number-clause-none
returns-in_err-number-clause-none c =
    let head : c.args.line.now ≢ codes "cron journal 1" = differ _ _ (sym c.eq.ensures ∙ c.if-eq.false) in
    let end : c.args.line.now ≢ codes "end" = differ _ _ (sym c.eq-2.ensures ∙ c.if-eq-2.false) in
    let walk : c.args.line.now ≢ codes "command end" = differ _ _ (sym c.eq-3.ensures ∙ c.if-eq-3.false) in
    if_none _ (no_line c.args.line.now head end walk c.in_default.ensures.none c.in_default-read_arrival.ensures.none c.in_err-number.ensures.none)
