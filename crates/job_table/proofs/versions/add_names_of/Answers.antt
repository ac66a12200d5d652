use Rattle.std.proofs.Common.{arith}
use Rattle.job_table.proofs.VersionJobLemmas.{no_names, next_name_more, own_jobs_more}
use Rattle.job_table.proofs.versions.add_names_of.Goals as goal

pub loop-place-init : goal.loop-place-init
loop-place-init c = no_names c.args.first.now c.requires

pub loop-place-preserved : goal.loop-place-preserved
loop-place-preserved c =
    next_name_more c.args.first.now c.loop-place.first c.add_name.new.self c.args.jobs.now c.loop-place.place c.name.result.now c.name.ensures c.loop-place.invariant
    c.in_ok-add_name.ensures

pub returns : goal.returns
returns c = own_jobs_more c.args.first.now c.loop-place.first c.args.jobs.now c.loop-place.place c.requires (omega arith) c.loop-place.invariant
