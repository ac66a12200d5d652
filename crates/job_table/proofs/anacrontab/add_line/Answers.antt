use Rattle.std.proofs.Common.{◌≡◌, ◌+◌, ◌*◌, ◌++◌, ◌∷◌, [], ap, ◌∙◌, subst, sym}
use Rattle.anacron_text.specs.LineBody.{anacron_body_of}
use Rattle.anacron_text.specs.declared.answer.AnaBody.TheVariants.{Job}
use Rattle.due_set.specs.declared.job.JobKind.TheVariants.{Anacron}
use Rattle.job_table.specs.Collect.{RefusesMarks, AddsMarks}
use Rattle.job_table.specs.Jobs.{named_job, HasJob}
use Rattle.job_table.specs.Marks.{anacron_mark, anacron_name, period_of}
use Rattle.job_table.specs.Table.{at_line}
use Rattle.job_table.proofs.MarkLemmas.{adds_job, refuses_job}
use Rattle.job_table.proofs.VariantLemmas.{both_lead, err_leads}
use Rattle.cron_fields.specs.declared.cause.Cause.TheVariants.{DuplicateJob}
use Rattle.job_table.proofs.anacrontab.add_line.Goals as goal

pub returns-in-Job-clause-added : goal.returns-in-Job-clause-added
returns-in-Job-clause-added c =
    let name = anacron_name c.args.label.now c.in-Job.identifier.now in
    let kind = Anacron (period_of c.in-Job.period) (60 * c.in-Job.first_hour + c.in-Job.delay + c.in-Job.added) (60 * c.in-Job.last_hour) in
    both_lead c.add_named.result
    (λ added none zones.
    subst (λ b. AddsMarks zones c.args.jobs.now c.add_named.new.jobs (anacron_mark c.args.label.now c.args.zone c.args.at (anacron_body_of b))) (sym c.in-Job.is)
    (subst (λ new. AddsMarks zones c.args.jobs.now new (anacron_mark c.args.label.now c.args.zone c.args.at (anacron_body_of (Job c.in-Job.period c.in-Job.delay c.in-Job.added c.in-Job.first_hour c.in-Job.last_hour c.in-Job.identifier c.in-Job.command))))
    (sym (added ∙ ap (λ k. c.args.jobs.now ++ named_job name c.args.zone k ∷ []) c.kind_of-kind.ensures))
    (adds_job zones c.args.jobs.now c.args.at name c.args.zone kind none)))
    c.add_named.ensures.added c.add_named.ensures.new

pub returns-in-Job-clause-refused : goal.returns-in-Job-clause-refused
returns-in-Job-clause-refused c =
    let name = anacron_name c.args.label.now c.in-Job.identifier.now in
    let kind = Anacron (period_of c.in-Job.period) (60 * c.in-Job.first_hour + c.in-Job.delay + c.in-Job.added) (60 * c.in-Job.last_hour) in
    err_leads c.add_named.result (λ refusal. HasJob name c.args.jobs.now × (refusal ≡ at_line c.args.at DuplicateJob))
    (λ refusal. (zones : _) → RefusesMarks zones c.args.jobs.now (anacron_mark c.args.label.now c.args.zone c.args.at (anacron_body_of c.args.body)) refusal)
    (λ refusal fault zones.
    subst (λ b. RefusesMarks zones c.args.jobs.now (anacron_mark c.args.label.now c.args.zone c.args.at (anacron_body_of b)) refusal) (sym c.in-Job.is)
    (refuses_job zones c.args.jobs.now c.args.at name c.args.zone kind refusal fault.0 fault.1))
    c.add_named.ensures.refused
