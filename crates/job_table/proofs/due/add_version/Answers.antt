use Rattle.std.proofs.Common.{◌+◌, ◌≤◌, arith}
use Rattle.job_table.proofs.DueCountLemmas.{CountsFirst, CountsFirst-none, CountsFirst-next, CountsFirst-all, counts_at_least}
use Rattle.job_table.proofs.due.add_version.Goals as goal

pub loop-job-init : goal.loop-job-init
loop-job-init c = record { count = 0; counted = CountsFirst-none c.args.table.now c.args.version; total_is = omega arith; few = c.requires.before }

pub returns-then-share-total-clause-many : goal.returns-then-share-total-clause-many
returns-then-share-total-clause-many c all counted =
    let so_far = c.loop-job.invariant in
    let known : CountsFirst c.args.table.now c.args.version (c.loop-job.job + 1) (so_far.count + c.count_due-share.result) =
    CountsFirst-next c.args.table.now c.args.version c.loop-job.job so_far.count c.count_due-share.result so_far.counted c.count_due-share.ensures.share in
    let least : so_far.count + c.count_due-share.result ≤ all =
    counts_at_least c.args.table.now c.args.version (c.loop-job.job + 1) (so_far.count + c.count_due-share.result) all known (omega arith) counted in
    omega (arith, least, so_far.total_is)

pub loop-job-preserved : goal.loop-job-preserved
loop-job-preserved c =
    let so_far = c.loop-job.invariant in
    record {
      count = so_far.count + c.count_due-share.result;
      counted = CountsFirst-next c.args.table.now c.args.version c.loop-job.job so_far.count c.count_due-share.result so_far.counted c.count_due-share.ensures.share;
      total_is = omega (arith, so_far.total_is);
      few = omega arith;
    }

pub returns-clause-counted : goal.returns-clause-counted
returns-clause-counted c =
    let so_far = c.loop-job.invariant in
    (so_far.count, CountsFirst-all c.args.table.now c.args.version c.loop-job.job so_far.count so_far.counted (omega arith), so_far.total_is)
