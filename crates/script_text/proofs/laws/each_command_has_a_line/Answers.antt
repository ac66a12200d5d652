use Rattle.script_text.proofs.LineLemmas.{ascii_line, one_line}
use Rattle.script_text.proofs.laws.each_command_has_a_line.Goals as goal

pub returns-clause-ascii : goal.returns-clause-ascii
returns-clause-ascii c = λ members window command small range. ascii_line members window command small range

pub returns-clause-one_line : goal.returns-clause-one_line
returns-clause-one_line c = λ members window command small range. one_line members window command small range
