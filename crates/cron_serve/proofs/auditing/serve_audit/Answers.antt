use Rattle.std.proofs.Common.{Err, ap}
use Rattle.program_options.specs.declared.words.Request.TheVariants.{Audit}
use Rattle.cron_serve.proofs.AuditLemmas.{audit_stopped, completes_stopped_audit, serving_found}
use Rattle.cron_serve.proofs.ServeLemmas.{EndsStopped, serving_stopped}
use Rattle.cron_serve.proofs.auditing.serve_audit.Goals as goal

pub returns-in-Ok : goal.returns-in-Ok
returns-in-Ok g c =
    serving_found _ _ _ _ _ _ c.in-Ok.finding c.tell.result c.in-Ok.ensures.found c.judge.ensures.read_on c.tell.ensures c.judge.ensures.lasting

pub returns-in-Err : goal.returns-in-Err
returns-in-Err g c =
    let stopped = c.stopped.ensures in
    let stop = c.in-Err.stop in
    let e : EndsStopped stop c.stopped.result = record { status = stopped.status; refusal = stopped.refusal; no_run = stopped.no_run } in
    let ends = audit_stopped _ _ _ stop c.stopped.result e c.judge.ensures.read_on c.in-Err.ensures.stop in
    let complete = completes_stopped_audit _ _ _ stop c.stopped.result e c.in-Err.ensures.stop in
    serving_stopped Audit _ _ _ _ _ stop c.stopped.result e ends complete c.in-Err.ensures.stop (λ sure is. c.in-Err.ensures.reliable sure (ap Err is)) c.judge.ensures.lasting
