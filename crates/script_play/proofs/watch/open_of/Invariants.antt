use Rattle.std.proofs.Common.{◌≡◌, ◌≤◌, take}
use Rattle.script_play.specs.Watch.{open_jobs}
use Rattle.script_play.proofs.watch.open_of.Given as goal

abbrev pub invariant-jobs : goal.invariant-jobs
invariant-jobs l = (l.count ≡ open_jobs (take l.job l.writer.machine.rows)) × (l.count ≤ l.job)
