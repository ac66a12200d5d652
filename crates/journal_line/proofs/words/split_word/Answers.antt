use Rattle.journal_line.proofs.SpacedLemmas.{cut_of, lacks_of}
use Rattle.journal_line.proofs.words.split_word.Goals as goal

pub returns-clause-cut : goal.returns-clause-cut
returns-clause-cut c = cut_of c.args.text.now c.split_once.result c.split_once.ensures.cases

pub returns-clause-none : goal.returns-clause-none
returns-clause-none c = lacks_of c.args.text.now c.split_once.result c.split_once.ensures.cases
