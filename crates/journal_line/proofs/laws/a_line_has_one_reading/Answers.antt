use Rattle.journal_line.proofs.UniqueLine.{same_line}
use Rattle.journal_line.proofs.laws.a_line_has_one_reading.Goals as goal

pub returns : goal.returns
returns c = same_line
