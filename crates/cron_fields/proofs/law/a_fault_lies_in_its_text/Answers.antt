use Rattle.cron_fields.proofs.FaultLemmas.{field_cause, field_fault_within}
use Rattle.cron_fields.proofs.law.a_fault_lies_in_its_text.Goals as goal

pub returns : goal.returns
returns c = record { cause = field_cause; place = field_fault_within }
