use Rattle.std.proofs.Common.{◌≡◌, ◌<◌, ℕ, None, length, get_or, sym, subst, arith}
use Rattle.paxos_base.specs.declared.rows.JobRow.{JobRow}
use Rattle.std.proofs.lemmas.Option.{slice_get-get_or}
use Rattle.paxos_base.specs.Rows.{fresh_row}
use Rattle.launch_machine.specs.Clerk.{in_force}
use Rattle.launch_machine.specs.Machine.{IsCallBeside}
use Rattle.launch_machine.proofs.MachineLemmas.{beside_built, beside_push, beside_table, table_calls}
use Rattle.launch_machine.proofs.next.calls_of.Goals as goal

pub loop-job-preserved : goal.loop-job-preserved
loop-job-preserved c =
    let lt : c.loop-job.job < length c.args.rows.now = omega (arith, c.requires.numbered.count, c.jobs-job-end.ensures.count, c.loop-job-test.true) in
    rw c.in_ok-push.ensures.items
    (beside_push (IsCallBeside c.args.table.now (in_force c.args.table.now c.args.rows.now)) c.args.rows.now c.loop-job.calls.items c.loop-job.job (get_or c.args.rows.now c.loop-job.job (fresh_row 0)) c.call_beside.result
    c.loop-job.invariant (slice_get-get_or c.args.rows.now c.loop-job.job (fresh_row 0) lt) (c.call_beside.ensures (in_force c.args.table.now c.args.rows.now)))

pub returns : goal.returns
returns c =
    let table = c.args.table.now in
    let rows = c.args.rows.now in
    let last : c.loop-job.job ≡ length table.jobs = omega (arith, c.jobs-job-end.ensures.count) in
    let none : (row : JobRow) → IsCallBeside table (in_force table rows) c.loop-job.job row None = λ row. subst (λ (k : ℕ). IsCallBeside table (in_force table rows) k row None) (sym last) (table_calls table (in_force table rows) row) in
    let known = beside_table (IsCallBeside table (in_force table rows)) rows c.loop-job.calls.items c.loop-job.job c.loop-job.invariant (omega (arith, c.requires.numbered.count, last)) none in
    beside_built (IsCallBeside table (in_force table rows)) rows c.deref.result.now c.build.result c.build.ensures (rw c.deref.ensures.value (rw c.in_ok-push-2.ensures.items known))
