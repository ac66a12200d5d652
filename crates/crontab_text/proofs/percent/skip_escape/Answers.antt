use Rattle.std.proofs.Common.{refl, inr, lit<}
use Rattle.std.proofs.lemmas.Option.{MatchOption-at_none}
use Rattle.std.proofs.lemmas.Str.Pattern.{strip_prefix_char}
use Rattle.crontab_text.proofs.PercentLemmas.{not_escape}
use Rattle.crontab_text.proofs.percent.skip_escape.Goals as goal

pub returns-in_default-2 : goal.returns-in_default-2
returns-in_default-2 c =
    let cases = strip_prefix_char 92 c.args.command.now c.strip_prefix.result c.strip_prefix.ensures.cases (lit< tt) in
    inr (refl, not_escape c.args.command.now (MatchOption-at_none _ _ c.in_default.is cases))
