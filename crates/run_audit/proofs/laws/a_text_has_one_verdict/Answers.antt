use Rattle.run_audit.proofs.OneLemmas.{one_list, one_reason}
use Rattle.run_audit.proofs.VerdictLemmas.{not_both, one_line}
use Rattle.run_audit.proofs.laws.a_text_has_one_verdict.Goals as goal

pub returns-clause-not_both : goal.returns-clause-not_both
returns-clause-not_both c = not_both

pub returns-clause-line : goal.returns-clause-line
returns-clause-line c = one_line

pub returns-clause-turns : goal.returns-clause-turns
returns-clause-turns c = λ members table script text rows others few limits. one_list members table script few limits text rows others

pub returns-clause-why : goal.returns-clause-why
returns-clause-why c = λ members table script text number other why whether few limits. one_reason members table script few limits text number other why whether
