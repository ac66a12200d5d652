use Rattle.journal_text.proofs.StartLemmas.{are_starts, one_start, there}
use Rattle.journal_text.proofs.laws.a_script_begins_its_parts_once.Goals as goal

pub returns-clause-there : goal.returns-clause-there
returns-clause-there c = there

pub returns-clause-one : goal.returns-clause-one
returns-clause-one c = one_start

pub returns-clause-starts : goal.returns-clause-starts
returns-clause-starts c = are_starts
