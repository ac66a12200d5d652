use Rattle.std.proofs.Common.{Some, None, arith}
use Rattle.std.proofs.lemmas.Str.Pattern.{split_parts}
use Rattle.run_text.proofs.WordLemmas.{first_word-cut, first_word-whole}
use Rattle.run_text.proofs.words.first_word.Goals as goal

pub returns-in-Some : goal.returns-in-Some
returns-in-Some c =
    let (is, lacks) = split_parts 32 c.args.text.now (Some (c.in-Some.word, c.in-Some.field-0-1)) c.in-Some.ensures.cases (omega arith) in
    first_word-cut c.args.text.now _ _ is lacks

pub returns-in-None : goal.returns-in-None
returns-in-None c = first_word-whole c.args.text.now (split_parts 32 c.args.text.now None c.in-None.ensures.cases (omega arith))
