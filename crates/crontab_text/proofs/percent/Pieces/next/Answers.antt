use Rattle.std.proofs.Common.{None, lit<}
use Rattle.std.proofs.lemmas.Str.Pattern.{strip_prefix_char}
use Rattle.crontab_text.proofs.PercentLemmas.{not_bare}
use Rattle.crontab_text.proofs.percent.Pieces.next.Goals as goal

pub take_text-requires-clause-text : goal.take_text-requires-clause-text
take_text-requires-clause-text c =
    not_bare c.self.inside.rest.now (strip_prefix_char 37 c.self.inside.rest.now None c.in_default.ensures.cases (lit< tt))
