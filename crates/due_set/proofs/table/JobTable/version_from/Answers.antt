use Rattle.std.proofs.Common.{◌-◌}
use Rattle.due_set.specs.Table.{version_of}
use Rattle.due_set.proofs.SoundLemmas.{version_is}
use Rattle.due_set.proofs.table.JobTable.version_from.Goals as goal

pub returns-else-version-eq0-clause-inside : goal.returns-else-version-eq0-clause-inside
returns-else-version-eq0-clause-inside c =
    (version_is c.args.self.now (c.args.version - 1) (version_of c.later_version.result.now) c.later_version.ensures.sound c.later_version.ensures.version).inside
