use Rattle.cron_fields.proofs.FieldReading.{field_exists, field_fault_same, field_or_fault, field_same}
use Rattle.cron_fields.proofs.law.a_field_has_one_reading.Goals as goal

pub returns : goal.returns
returns c = record {
  some = field_exists;
  not_both = field_or_fault;
  one_set = field_same;
  one_fault = field_fault_same;
}
