use Rattle.std.proofs.Common.{◌≡◌, length, string_bytes, arith}
use Rattle.due_list.specs.DueText.{AreLinesOfJob}
use Rattle.due_list.proofs.LineLemmas.{parts_none, parts_more, version_lines}
use Rattle.due_list.proofs.due.put_jobs.Goals as goal

pub loop-job-init : goal.loop-job-init
loop-job-init c = parts_none (AreLinesOfJob c.args.table.now c.args.version) (string_bytes c.args.into.now)

pub loop-job-preserved : goal.loop-job-preserved
loop-job-preserved c =
    parts_more (AreLinesOfJob c.args.table.now c.args.version) c.loop-job.job (string_bytes c.args.into.now) (string_bytes c.loop-job.into)
    (string_bytes c.put_job.new.into) c.loop-job.invariant c.in_ok-put_job.ensures

pub returns : goal.returns
returns c =
    let all : c.loop-job.job ≡ length c.args.table.now.jobs = omega (arith, c.jobs-job-end.ensures.count, c.loop-job-test.false, c.loop-job.auto.job-end) in
    version_lines c.args.table.now c.args.version c.loop-job.job (string_bytes c.args.into.now) (string_bytes c.loop-job.into)
    c.jobs-job-end.ensures.sound c.requires all c.loop-job.invariant
