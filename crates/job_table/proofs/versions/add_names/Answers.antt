use Rattle.std.proofs.Common.{arith, take}
use Rattle.job_table.proofs.VersionJobLemmas.{names_of_all, no_names, still_distinct, jobs_more, all_jobs_more}
use Rattle.job_table.proofs.versions.add_names.Goals as goal

pub loop-jobs-init : goal.loop-jobs-init
loop-jobs-init c = no_names c.args.first.now c.requires

pub add_names_of-requires : goal.add_names_of-requires
add_names_of-requires c =
    still_distinct c.args.first.now c.loop-jobs.first (names_of_all (take c.loop-jobs.jobs-index c.args.later.now)) c.requires c.loop-jobs.invariant

pub loop-jobs-preserved : goal.loop-jobs-preserved
loop-jobs-preserved c =
    jobs_more c.args.first.now c.loop-jobs.first c.add_names_of.new.first c.jobs-item.result c.args.later.now c.loop-jobs.jobs-index c.requires c.loop-jobs-test.true
    c.jobs-item.is c.loop-jobs.invariant c.in_ok-add_names_of.ensures

pub returns : goal.returns
returns c = all_jobs_more c.args.first.now c.loop-jobs.first c.args.later.now c.loop-jobs.jobs-index c.requires (omega arith) c.loop-jobs.invariant
