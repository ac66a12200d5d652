use Rattle.run_audit.proofs.JournalLemmas.{line_less}
use Rattle.run_audit.proofs.laws.a_journal_is_judged_line_by_line.Goals as goal

pub returns : goal.returns
returns c = line_less
