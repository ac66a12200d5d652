use Rattle.std.proofs.Common.{◌∙◌}
use Rattle.cron_serve.proofs.note.write_note.Goals as goal

pub returns-in-Some : goal.returns-in-Some
returns-in-Some g c =
    let text = c.as_str.ensures.value ∙ c.refusal_note.ensures in
    rw c.in-Some.is (rw text at c.write_text.ensures)
