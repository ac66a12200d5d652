use Rattle.std.proofs.Common.{◌≡◌, ◌∙◌, refl}
use Rattle.cron_serve.specs.Audit.{audit_line}
use Rattle.cron_serve.proofs.AuditLemmas.{told_front, told_whole}
use Rattle.cron_serve.proofs.auditing.tell.Goals as goal
use Rattle.cron_serve.proofs.auditing.tell.Goals.{in-Ok, in-Err}

pub returns : goal.returns
returns g c =
    let end = c.end_of_audit.ensures in
    let line : c.as_bytes.result.now ≡ audit_line c.args.finding = c.as_bytes.ensures.value ∙ c.deref.ensures.0 ∙ c.audit_line.ensures in
    let wrote = c.write_all-written.ensures in
    elim c.match-written.branch [
      | in-Ok w ↦
          let gained = rw w.in-Ok.is at wrote.bytes in
          let room = rw w.in-Ok.is at wrote.by_room in
          told_whole _ _ c.args.finding c.end_of_audit.result _ line end.refusal end.left (end.status ∙ w.status-is ∙ w.audit_status-status.ensures) gained wrote.prefix wrote.cause.later
          (λ room' tells. room.taken room' tells)
      | in-Err w ↦
          let cause = rw w.in-Err.is at wrote.cause in
          let room = rw w.in-Err.is at wrote.by_room in
          told_front _ _ c.args.finding c.end_of_audit.result _ line end.refusal end.left (end.status ∙ w.status-is) wrote.prefix wrote.cause.later (cause.fault refl)
          (λ room' tells. room.refused room' tells)
    ]
