use Rattle.std.proofs.Common.{string_bytes}
use Rattle.due_list.specs.DueText.{AreLinesOfVersion}
use Rattle.due_list.proofs.LineLemmas.{parts_none, parts_more}
use Rattle.due_list.proofs.due.put_versions.Goals as goal

pub loop-version-init : goal.loop-version-init
loop-version-init c = parts_none (AreLinesOfVersion c.args.table.now) (string_bytes c.args.into.now)

pub loop-version-preserved : goal.loop-version-preserved
loop-version-preserved c =
    parts_more (AreLinesOfVersion c.args.table.now) c.loop-version.version (string_bytes c.args.into.now) (string_bytes c.loop-version.into)
    (string_bytes c.put_jobs.new.into) c.loop-version.invariant c.in_ok-put_jobs.ensures
