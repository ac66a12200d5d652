use Rattle.std.proofs.Common.{◌∙◌, Some, None, [], ◌∷◌, ◌++◌, ◌<◌, length, sym, append_assoc, arith}
use Rattle.std.proofs.lemmas.Bool.Decides.{nat_tests}
use Rattle.std.proofs.lemmas.List.{append-nil}
use Rattle.std.proofs.lemmas.Str.Pattern.{split_parts}
use Rattle.crontab_text.proofs.LineLemmas.{line_before_newline, whole_line, lines_of-begins}
use Rattle.crontab_text.proofs.reader.first_line.Goals as goal

pub returns-in-Some-clause-line : goal.returns-in-Some-clause-line
returns-in-Some-clause-line c =
    let (is, lacks) = split_parts 10 c.args.text.now (Some c.in-Some.parts) c.in-Some.ensures.cases (omega arith) in
    line_before_newline c.args.text.now _ _ is lacks

pub returns-in-Some-clause-lines : goal.returns-in-Some-clause-lines
returns-in-Some-clause-lines c = lines_of-begins c.args.text.now _ _ (returns-in-Some-clause-line c)

pub returns-in-Some-clause-back : goal.returns-in-Some-clause-back
returns-in-Some-clause-back c =
    let (is, lacks) = split_parts 10 c.args.text.now (Some c.in-Some.parts) c.in-Some.ensures.cases (omega arith) in
    (c.in-Some.parts.0.now ++ 10 ∷ [], is ∙ sym (append_assoc c.in-Some.parts.0.now (10 ∷ []) c.in-Some.parts.1.now))

pub returns-in-None-2-clause-line : goal.returns-in-None-2-clause-line
returns-in-None-2-clause-line c =
    let some : 0 < length c.args.text.now = grind (arith, nat_tests) in
    whole_line c.args.text.now some (split_parts 10 c.args.text.now None c.in-None.ensures.cases (omega arith))

pub returns-in-None-2-clause-lines : goal.returns-in-None-2-clause-lines
returns-in-None-2-clause-lines c = lines_of-begins c.args.text.now c.args.text.now [] (returns-in-None-2-clause-line c)

pub returns-in-None-2-clause-back : goal.returns-in-None-2-clause-back
returns-in-None-2-clause-back c = (c.args.text.now, sym (append-nil c.args.text.now))
