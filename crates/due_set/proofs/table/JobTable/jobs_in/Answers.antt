use Rattle.std.proofs.Common.{◌-◌, ◌∙◌, length, sym, ap}
use Rattle.std.proofs.lemmas.List.{length-map}
use Rattle.due_set.specs.Table.{job_of, version_of}
use Rattle.due_set.proofs.SoundLemmas.{count_of_later}
use Rattle.due_set.proofs.table.JobTable.jobs_in.Goals as goal

pub returns-else-version-eq0-clause-count : goal.returns-else-version-eq0-clause-count
returns-else-version-eq0-clause-count c =
    let spec = c.later_version.result.now in
    ap length c.deref-else-version-eq0.ensures.value ∙ sym (length-map spec.jobs.items job_of)
    ∙ count_of_later c.args.self.now (c.args.version - 1) (version_of spec) c.later_version.ensures.sound c.later_version.ensures.version
