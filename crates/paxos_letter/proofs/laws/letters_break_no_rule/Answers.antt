use Rattle.paxos_letter.proofs.LetterLemmas.{letters_break_no_rule}
use Rattle.paxos_letter.proofs.laws.letters_break_no_rule.Goals as goal

pub returns : goal.returns
returns c = letters_break_no_rule
