use Rattle.std.proofs.Common.{inr, refl}
use Rattle.generated_run.specs.Made.{made_text}
use Rattle.program_options.specs.declared.words.Output.TheVariants.{Summary}
use Rattle.cron_serve.specs.declared.stop.Stop.TheVariants.{OutOfMemory}
use Rattle.cron_serve.proofs.CompleteLemmas.{completes_made, completes_summary}
use Rattle.cron_serve.proofs.ServeLemmas.{ends_stopped, ends_text, none_read}
use Rattle.cron_serve.proofs.serve.serve_made.Goals as goal

pub returns-in-Ok-clause-ends : goal.returns-in-Ok-clause-ends
returns-in-Ok-clause-ends g c = λ source.
    ends_text (Summary c.args.seed) source source _ _ (made_text c.args.seed) c.in-Ok.end (refl, refl) (none_read source) c.in-Ok.ensures.end

pub returns-in-Ok-clause-complete : goal.returns-in-Ok-clause-complete
returns-in-Ok-clause-complete g c = λ source. completes_summary c.args.seed source _ _ (made_text c.args.seed) c.in-Ok.end c.in-Ok.ensures.end

pub returns-in-Ok-clause-statuses : goal.returns-in-Ok-clause-statuses
returns-in-Ok-clause-statuses g c = c.in-Ok.ensures.end.statuses

pub returns-in-Err-clause-ends : goal.returns-in-Err-clause-ends
returns-in-Err-clause-ends g c = λ source.
    rw c.in-Err.ensures.unwritten (ends_stopped (Summary c.args.seed) source source _ OutOfMemory c.stopped.result
    (record { status = c.stopped.ensures.status; refusal = c.stopped.ensures.refusal; no_run = c.stopped.ensures.no_run }) (none_read source) tt)

pub returns-in-Err-clause-complete : goal.returns-in-Err-clause-complete
returns-in-Err-clause-complete g c = λ source. completes_made c.args.seed source _ _ c.stopped.result (λ kept. inr c.stopped.ensures.status)

pub returns-in-Err-clause-statuses : goal.returns-in-Err-clause-statuses
returns-in-Err-clause-statuses g c = inr (inr c.stopped.ensures.status)
