use Rattle.std.proofs.Common.{◌≡◌, ◌+◌, ◌<◌, ℕ, None, length, get_or, sym, subst, arith}
use Rattle.paxos_base.specs.declared.rows.JobRow.{JobRow}
use Rattle.std.proofs.lemmas.Option.{slice_get-get_or}
use Rattle.paxos_base.specs.Rows.{fresh_row}
use Rattle.launch_machine.specs.Machine.{IsStartBeside}
use Rattle.launch_machine.proofs.MachineLemmas.{set_all, set_next, set_none, table_starts}
use Rattle.launch_machine.proofs.next.set_starts.Goals as goal

pub loop-job-init : goal.loop-job-init
loop-job-init c =
    set_none (IsStartBeside c.args.table.now c.args.force) c.args.rows.now c.args.starts.now (length c.args.table.now.jobs) c.requires.rows c.requires.count c.requires.own

pub loop-job-preserved : goal.loop-job-preserved
loop-job-preserved c =
    let lt : c.loop-job.job + 1 < length c.args.rows.now = omega (arith, c.requires.rows, c.jobs-job-end.ensures.count, c.loop-job-test.true) in
    let lower : c.loop-job.job < length c.args.rows.now = omega (arith, lt) in
    rw c.set.ensures
    (set_next (IsStartBeside c.args.table.now c.args.force) c.args.rows.now c.loop-job.starts c.loop-job.job (get_or c.args.rows.now c.loop-job.job (fresh_row 0)) c.start_beside.result
    c.loop-job.invariant lt (slice_get-get_or c.args.rows.now c.loop-job.job (fresh_row 0) lower) c.start_beside.ensures)

pub returns : goal.returns
returns c =
    let table = c.args.table.now in
    let rows = c.args.rows.now in
    let last : c.loop-job.job ≡ length table.jobs = omega (arith, c.jobs-job-end.ensures.count, c.loop-job-test.false, c.loop-job.auto.job-end) in
    let none : (row : JobRow) → IsStartBeside table c.args.force c.loop-job.job row None =
    λ row. subst (λ (k : ℕ). IsStartBeside table c.args.force k row None) (sym last) (table_starts table c.args.force row) in
    set_all (IsStartBeside table c.args.force) rows c.loop-job.starts c.loop-job.job c.loop-job.invariant (omega (arith, c.requires.rows, last)) none
