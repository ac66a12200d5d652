use Rattle.std.proofs.Common.{Err, ap}
use Rattle.program_options.specs.declared.words.Request.TheVariants.{Text}
use Rattle.cron_serve.proofs.CompleteLemmas.{completes_stopped}
use Rattle.cron_serve.proofs.ServeLemmas.{EndsStopped, ends_stopped, serving_stopped}
use Rattle.cron_serve.proofs.serve.serve_input.Goals as goal

pub returns-in-Err : goal.returns-in-Err
returns-in-Err g c =
    let stopped = c.stopped.ensures in
    let stop = c.in-Err.stop in
    let e : EndsStopped stop c.stopped.result = record { status = stopped.status; refusal = stopped.refusal; no_run = stopped.no_run } in
    let ends = ends_stopped c.args.output _ _ _ stop c.stopped.result e c.answer.ensures.read_on c.in-Err.ensures.stop in
    let complete = completes_stopped c.args.output _ _ _ stop c.stopped.result c.requires.input stopped.status stopped.refusal c.in-Err.ensures.stop in
    rw c.in-Err.ensures.unwritten (serving_stopped (Text c.args.output) _ _ _ _ _ stop c.stopped.result e ends complete c.in-Err.ensures.stop
    (λ sure is. c.in-Err.ensures.reliable sure (ap Err is)) c.answer.ensures.lasting)
