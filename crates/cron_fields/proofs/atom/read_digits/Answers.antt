use Rattle.std.proofs.Common.{◌≢◌, get_or, lit<, arith}
use Rattle.std.proofs.lemmas.Str.Pattern.{starts_char}
use Rattle.cron_fields.proofs.AtomLemmas.{number_parsed, no_number_parsed}
use Rattle.cron_fields.proofs.atom.read_digits.Goals as goal

pub returns-clause-none : goal.returns-clause-none
returns-clause-none c =
    let text = c.args.text.now in
    let plus = starts_char 43 text c.starts_with.result c.starts_with.ensures.cases (lit< tt) (lit< tt) in
    let plain : get_or text 0 0 ≢ 43 = λ is. let yes = plus.1 is in cc in
    no_number_parsed text c.parse.result c.ok.result c.parse.ensures.value.0 plain c.ok.ensures.value

pub returns-clause-some : goal.returns-clause-some
returns-clause-some c =
    let text = c.args.text.now in
    let plus = starts_char 43 text c.starts_with.result c.starts_with.ensures.cases (lit< tt) (lit< tt) in
    let plain : get_or text 0 0 ≢ 43 = λ is. let yes = plus.1 is in cc in
    number_parsed text c.parse.result c.ok.result c.parse.ensures.value.0 plain (omega arith) c.ok.ensures.value
