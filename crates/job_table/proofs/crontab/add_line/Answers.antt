use Rattle.std.proofs.Common.{◌≡◌, ◌+◌, ◌++◌, ◌∷◌, [], map, ap, ◌∙◌, subst, sym}
use Rattle.crontab_text.specs.LineBody.{body_of}
use Rattle.crontab_text.specs.declared.answer.Body.TheVariants.{Entry, Nick}
use Rattle.due_set.specs.declared.job.JobKind.TheVariants.{Crontab}
use Rattle.run_text.specs.Run.{zone_of}
use Rattle.job_table.specs.Collect.{RefusesMarks, AddsMarks, line_marks}
use Rattle.job_table.specs.Jobs.{named_job, HasJob}
use Rattle.job_table.specs.Marks.{crontab_job_name, kind_of}
use Rattle.job_table.specs.Table.{at_line}
use Rattle.job_table.proofs.MarkLemmas.{adds_job, refuses_job}
use Rattle.job_table.proofs.VariantLemmas.{both_lead, err_leads}
use Rattle.cron_fields.specs.declared.cause.Cause.TheVariants.{DuplicateJob}
use Rattle.job_table.proofs.crontab.add_line.Goals as goal
use Rattle.run_text.proofs.VariantLemmas.{refused_on}

pub returns-in_err-zone-in-Assign-clause-refused :
    goal.returns-in_err-zone-in-Assign-clause-refused
returns-in_err-zone-in-Assign-clause-refused c =
    let zones = map zone_of c.args.zones.now in
    refused_on c.from_residual.result c.in_err-zone-in-Assign.field-0.0 (RefusesMarks zones c.args.jobs.now (line_marks zones c.args.label.now c.args.above.zone c.args.at (c.args.above.entries + 1) (body_of c.args.body))) c.from_residual.ensures.1
    (subst (λ b. RefusesMarks zones c.args.jobs.now (line_marks zones c.args.label.now c.args.above.zone c.args.at (c.args.above.entries + 1) (body_of b)) c.in_err-zone-in-Assign.field-0.0) (sym c.in-Assign.is)
    (c.in_err-zone-in-Assign.ensures.refused c.args.label.now (c.args.above.entries + 1) c.args.jobs.now))

pub returns-in_ok-zone-in-Assign-clause-added : goal.returns-in_ok-zone-in-Assign-clause-added
returns-in_ok-zone-in-Assign-clause-added c =
    let zones = map zone_of c.args.zones.now in
    subst (λ b. AddsMarks zones c.args.jobs.now c.args.jobs.now (line_marks zones c.args.label.now c.args.above.zone c.args.at (c.args.above.entries + 1) (body_of b))) (sym c.in-Assign.is)
    (c.in_ok-zone-in-Assign.ensures.ok c.args.label.now (c.args.above.entries + 1) c.args.jobs.now)

pub returns-in-Entry-clause-added : goal.returns-in-Entry-clause-added
returns-in-Entry-clause-added c =
    let zones = map zone_of c.args.zones.now in
    let name = crontab_job_name c.args.label.now (c.args.above.entries + 1) in
    both_lead c.add_entry.result
    (λ added none.
    subst (λ b. AddsMarks zones c.args.jobs.now c.add_entry.new.jobs (line_marks zones c.args.label.now c.args.above.zone c.args.at (c.args.above.entries + 1) (body_of b))) (sym c.in-Entry.is)
    (subst (λ new. AddsMarks zones c.args.jobs.now new (line_marks zones c.args.label.now c.args.above.zone c.args.at (c.args.above.entries + 1) (body_of (Entry c.in-Entry.fields c.in-Entry.user c.in-Entry.command)))) (sym added)
    (adds_job zones c.args.jobs.now c.args.at name c.args.above.zone (Crontab c.in-Entry.fields) none)))
    c.add_entry.ensures.added c.add_entry.ensures.new

pub returns-in-Entry-clause-refused : goal.returns-in-Entry-clause-refused
returns-in-Entry-clause-refused c =
    let zones = map zone_of c.args.zones.now in
    let name = crontab_job_name c.args.label.now (c.args.above.entries + 1) in
    err_leads c.add_entry.result (λ refusal. HasJob name c.args.jobs.now × (refusal ≡ at_line c.args.at DuplicateJob))
    (RefusesMarks zones c.args.jobs.now (line_marks zones c.args.label.now c.args.above.zone c.args.at (c.args.above.entries + 1) (body_of c.args.body)))
    (λ refusal fault.
    subst (λ b. RefusesMarks zones c.args.jobs.now (line_marks zones c.args.label.now c.args.above.zone c.args.at (c.args.above.entries + 1) (body_of b)) refusal) (sym c.in-Entry.is)
    (refuses_job zones c.args.jobs.now c.args.at name c.args.above.zone (Crontab c.in-Entry.fields) refusal fault.0 fault.1))
    c.add_entry.ensures.refused

pub returns-in-Nick-clause-added : goal.returns-in-Nick-clause-added
returns-in-Nick-clause-added c =
    let zones = map zone_of c.args.zones.now in
    let name = crontab_job_name c.args.label.now (c.args.above.entries + 1) in
    both_lead c.add_entry-in-Nick.result
    (λ added none.
    subst (λ b. AddsMarks zones c.args.jobs.now c.add_entry-in-Nick.new.jobs (line_marks zones c.args.label.now c.args.above.zone c.args.at (c.args.above.entries + 1) (body_of b))) (sym c.in-Nick.is)
    (subst (λ new. AddsMarks zones c.args.jobs.now new (line_marks zones c.args.label.now c.args.above.zone c.args.at (c.args.above.entries + 1) (body_of (Nick c.in-Nick.fields c.in-Nick.user c.in-Nick.command))))
    (sym (added ∙ ap (λ k. c.args.jobs.now ++ named_job name c.args.above.zone k ∷ []) c.kind_of.ensures))
    (adds_job zones c.args.jobs.now c.args.at name c.args.above.zone (kind_of c.in-Nick.fields) none)))
    c.add_entry-in-Nick.ensures.added c.add_entry-in-Nick.ensures.new

pub returns-in-Nick-clause-refused : goal.returns-in-Nick-clause-refused
returns-in-Nick-clause-refused c =
    let zones = map zone_of c.args.zones.now in
    let name = crontab_job_name c.args.label.now (c.args.above.entries + 1) in
    err_leads c.add_entry-in-Nick.result (λ refusal. HasJob name c.args.jobs.now × (refusal ≡ at_line c.args.at DuplicateJob))
    (RefusesMarks zones c.args.jobs.now (line_marks zones c.args.label.now c.args.above.zone c.args.at (c.args.above.entries + 1) (body_of c.args.body)))
    (λ refusal fault.
    subst (λ b. RefusesMarks zones c.args.jobs.now (line_marks zones c.args.label.now c.args.above.zone c.args.at (c.args.above.entries + 1) (body_of b)) refusal) (sym c.in-Nick.is)
    (refuses_job zones c.args.jobs.now c.args.at name c.args.above.zone (kind_of c.in-Nick.fields) refusal fault.0 fault.1))
    c.add_entry-in-Nick.ensures.refused
