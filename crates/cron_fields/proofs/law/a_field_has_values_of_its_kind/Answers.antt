use Rattle.cron_fields.proofs.FieldText.{field_values}
use Rattle.cron_fields.proofs.law.a_field_has_values_of_its_kind.Goals as goal

pub returns : goal.returns
returns c = field_values
