use Rattle.std.proofs.Common.{◌≡◌, ◌<◌, length, get_or, FitsSigned, w64, refl, subst, arith, IsTrue}
use Rattle.std.proofs.lemmas.Int.{to_z-of_z}
use Rattle.std.proofs.lemmas.Option.{slice_get-get_or}
use Rattle.paxos_base.specs.Rows.{fresh_row}
use Rattle.paxos_base.specs.declared.rows.JobRow.{JobRow}
use Rattle.launch_machine.specs.Clerk.{IsEndedRow}
use Rattle.launch_machine.proofs.EndedLemmas.{AreEndedBelow, ended_all, ended_next}
use Rattle.launch_machine.proofs.adoption.are_ended_by.Goals as goal

pub loop-job-preserved : goal.loop-job-preserved
loop-job-preserved c =
    let now_fits : FitsSigned w64 c.args.now = c.ranges.now in
    let row : JobRow = get_or c.args.rows.now c.loop-job.job (fresh_row 0) in
    let lt : c.loop-job.job < length c.args.rows.now = omega (arith, c.requires.numbered.count, c.jobs-job-end.ensures.count, c.loop-job-test.true) in
    let ended : IsEndedRow c.args.table.now c.args.now c.loop-job.job row = simp to_z-of_z at (c.is_ended.ensures.0 c.if-not-is_ended.false) in
    let known : AreEndedBelow c.args.table.now c.args.rows.now c.args.now c.loop-job.job = simp to_z-of_z at c.loop-job.invariant in
    simp to_z-of_z (ended_next c.args.table.now c.args.rows.now c.args.now c.loop-job.job row known (slice_get-get_or c.args.rows.now c.loop-job.job (fresh_row 0) lt) ended)

pub returns-then-not-is_ended : goal.returns-then-not-is_ended
returns-then-not-is_ended c =
    let now_fits : FitsSigned w64 c.args.now = c.ranges.now in
    let row : JobRow = get_or c.args.rows.now c.loop-job.job (fresh_row 0) in
    let below : c.loop-job.job < length c.args.table.now.jobs = omega (arith, c.jobs-job-end.ensures.count, c.loop-job-test.true) in
    let lt : c.loop-job.job < length c.args.rows.now = omega (arith, c.requires.numbered.count, below) in
    let told : IsEndedRow c.args.table.now c.args.now c.loop-job.job row → IsTrue c.is_ended.result = simp to_z-of_z at c.is_ended.ensures.1 in
    (λ e. absurd cc, λ ended. absurd (cc (told (ended c.loop-job.job row (slice_get-get_or c.args.rows.now c.loop-job.job (fresh_row 0) lt)), c.if-not-is_ended.true)))

pub returns : goal.returns
returns c =
    let last : c.loop-job.job ≡ length c.args.table.now.jobs = omega (arith, c.jobs-job-end.ensures.count, c.loop-job-test.false, c.loop-job.auto.job-end) in
    let now_fits : FitsSigned w64 c.args.now = c.ranges.now in
    let ended : AreEndedBelow c.args.table.now c.args.rows.now c.args.now c.loop-job.job = simp to_z-of_z at c.loop-job.invariant in
    let known = subst (AreEndedBelow c.args.table.now c.args.rows.now c.args.now) last ended in
    (λ h. ended_all c.args.table.now c.args.rows.now c.args.now c.requires known, λ e. refl)
