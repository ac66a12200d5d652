use Rattle.std.proofs.Common.{List, length, map, sym, subst, arith}
use Rattle.due_set.specs.Table.{AreZonesBelow, Job, job_of}
use Rattle.due_set.proofs.SoundLemmas.{jobs_of_version}
use Rattle.due_set.proofs.TableLemmas.{spec_zone_below}
use Rattle.due_set.proofs.table.JobTable.spec.Goals as goal

pub returns-clause-zone : goal.returns-clause-zone
returns-clause-zone c =
    let has = jobs_of_version c.args.self.now c.args.version c.jobs_in.ensures.sound c.requires.version in
    let below : AreZonesBelow (length c.args.self.now.zones) (map job_of c.jobs_in.result.now) =
    subst (λ (jobs : List Job). AreZonesBelow (length c.args.self.now.zones) jobs) (sym c.jobs_in.ensures.jobs) has.zone_numbers in
    spec_zone_below (length c.args.self.now.zones) c.jobs_in.result.now c.args.job c.index-jobs_in-job.result (omega (arith, c.requires.job, c.jobs_in.ensures.count)) c.index-jobs_in-job.is below
