use Rattle.journal_text.proofs.TurnLemmas.{same_turn, same_turns}
use Rattle.journal_text.proofs.laws.two_turns_have_two_lines.Goals as goal

pub returns-clause-next : goal.returns-clause-next
returns-clause-next c = same_turn

pub returns-clause-books : goal.returns-clause-books
returns-clause-books c = same_turns
