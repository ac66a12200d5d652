use Rattle.std.proofs.Common.{◌≡◌, ℕ, ◌<◌, false, Some}
use Rattle.std.specs.List.{slice_get}
use Rattle.world_free.specs.declared.job.FreeJob.{FreeJob}
use Rattle.world_free.proofs.jobs.had_memory.Given as goal

abbrev pub invariant-jobs : goal.invariant-jobs
invariant-jobs g l = (who : ℕ) (job : FreeJob g.row.D.Denot) → who < l.job-index → slice_get l.jobs who ≡ Some job → job.short ≡ false
