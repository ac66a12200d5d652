use Rattle.crontab_text.proofs.EntryLemmas.{word_within}
use Rattle.crontab_text.proofs.tail.take_word.Goals as goal

pub returns-clause-within : goal.returns-clause-within
returns-clause-within c = word_within _ _ _ c.first_word.ensures
