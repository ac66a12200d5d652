use Rattle.std.proofs.Common.{◌≢◌, ◌∙◌, sym, codes}
use Rattle.script_text.proofs.CutLemmas.{if_none}
use Rattle.journal_line.proofs.SpacedLemmas.{differ}
use Rattle.journal_line.proofs.TurnLemmas.{no_turn}
use Rattle.journal_line.proofs.turn.read_turn.Goals as goal

pub returns-in_err-now-clause-none : goal.returns-in_err-now-clause-none
returns-in_err-now-clause-none c =
    let restart : c.args.text.now ≢ codes "restart" = differ _ _ (sym c.eq.ensures ∙ c.if-eq.false) in
    let stop : c.args.text.now ≢ codes "stop" = differ _ _ (sym c.eq-2.ensures ∙ c.if-eq-2.false) in
    if_none _ (no_turn c.args.text.now restart stop c.in_default.ensures.none c.in_default-read_stop.ensures.none c.in_err-now.ensures.none)
