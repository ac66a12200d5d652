use Rattle.std.proofs.Common.{◌≡◌, ℕ, ◌<◌, None, Some}
use Rattle.std.specs.List.{slice_get}
use Rattle.paxos_base.specs.declared.rows.JobRow.{JobRow}
use Rattle.world_rounds.proofs.walking.is_any_open.Given as goal

abbrev pub invariant-jobs : goal.invariant-jobs
invariant-jobs l = (job : ℕ) (row : JobRow) → job < l.job → slice_get l.replica.machine.rows job ≡ Some row → row.open_now ≡ None
