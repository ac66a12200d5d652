use Rattle.cron_fields.proofs.FieldText.{field_bytes}
use Rattle.cron_fields.proofs.law.a_field_has_no_blank.Goals as goal

pub returns : goal.returns
returns c = field_bytes
