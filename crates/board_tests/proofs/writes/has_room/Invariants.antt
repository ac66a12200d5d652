use Rattle.std.proofs.Common.{◌≡◌, ℕ, ◌<◌, ◌^◌, Some, slice_get}
use Rattle.paxos_base.specs.declared.rows.JobRow.{JobRow}
use Rattle.board_tests.proofs.writes.has_room.Given as goal

abbrev pub invariant-jobs : goal.invariant-jobs
invariant-jobs l = (k : ℕ) (row : JobRow) → k < l.job → slice_get l.writer.machine.rows k ≡ Some row → (row.launched < 2 ^ 31) × (row.voided < 2 ^ 31)
