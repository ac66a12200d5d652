use Rattle.std.proofs.lemmas.Bool.{false≢true}
use Rattle.store_format.proofs.FormatLemmas.{not_in_format_1}
use Rattle.store_format.proofs.reading.begins_in_format_1.Goals as goal

pub returns-in_default-record_in-2 : goal.returns-in_default-record_in-2
returns-in_default-record_in-2 c = (
  λ wrong. absurd (false≢true wrong),
  λ begins. absurd (not_in_format_1 c.args.size c.args.bodies.now c.in-Some.body.now c.body.inside.bytes c.record_in.result c.in-Some.ensures.value c.body.view_is c.record_in.ensures.only (λ slot is. absurd (cc (c.in_default-record_in.is, is))) begins),
)
