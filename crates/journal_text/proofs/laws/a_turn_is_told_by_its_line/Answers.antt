use Rattle.journal_text.proofs.LineLemmas.{head_line, line_of_turn, read_back, written, written_head}
use Rattle.journal_text.proofs.laws.a_turn_is_told_by_its_line.Goals as goal

pub returns-clause-line : goal.returns-clause-line
returns-clause-line c = line_of_turn

pub returns-clause-read : goal.returns-clause-read
returns-clause-read c = read_back

pub returns-clause-written : goal.returns-clause-written
returns-clause-written c = written

pub returns-clause-part : goal.returns-clause-part
returns-clause-part c = head_line

pub returns-clause-written_part : goal.returns-clause-written_part
returns-clause-written_part c = written_head
