use Rattle.journal_line.proofs.FormLemmas.{line_text, line_in_range}
use Rattle.journal_line.proofs.laws.each_form_has_a_line.Goals as goal

pub returns-clause-there : goal.returns-clause-there
returns-clause-there c = line_text

pub returns-clause-only : goal.returns-clause-only
returns-clause-only c = line_in_range
