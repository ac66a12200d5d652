use Rattle.audit_finding.proofs.OneLemmas.{found_or_refused, one_finding, one_refusal}
use Rattle.audit_finding.proofs.laws.an_input_has_one_finding.Goals as goal

pub returns-clause-one : goal.returns-clause-one
returns-clause-one c = one_finding

pub returns-clause-not_both : goal.returns-clause-not_both
returns-clause-not_both c = found_or_refused

pub returns-clause-one_refusal : goal.returns-clause-one_refusal
returns-clause-one_refusal c = one_refusal
