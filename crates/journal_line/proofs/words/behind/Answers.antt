use Rattle.std.proofs.Common.{lit<}
use Rattle.std.proofs.lemmas.Str.Pattern.{strip_prefix_char}
use Rattle.script_text.proofs.CutLemmas.{strips}
use Rattle.journal_line.proofs.SpacedLemmas.{no_space_behind}
use Rattle.journal_line.proofs.words.behind.Goals as goal

pub returns-clause-none : goal.returns-clause-none
returns-clause-none c =
    no_space_behind c.args.word.now c.args.text.now c.in_ok-strip_prefix.field-0.now c.strip_prefix-2.result
    (strips c.args.word.now _ _ c.in_ok-strip_prefix.ensures.cases)
    (strip_prefix_char 32 c.in_ok-strip_prefix.field-0.now c.strip_prefix-2.result c.strip_prefix-2.ensures.cases (lit< tt))
