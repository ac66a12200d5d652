use Rattle.journal_text.proofs.PartLemmas.{all_parts}
use Rattle.journal_text.proofs.laws.a_journal_has_each_turn_once.Goals as goal

pub returns : goal.returns
returns c = all_parts
