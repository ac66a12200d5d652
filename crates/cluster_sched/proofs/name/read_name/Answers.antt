use Rattle.std.proofs.Common.{rules, ◌≡◌, ◌∙◌, sym, true≢false, w64, FitsSigned}
use Rattle.std.proofs.lemmas.Int.{to_z-of_z}
use Rattle.zone_minutes.specs.Window.{IsWithinLimits}
use Rattle.due_set.specs.Table.{is_by_period, job_name}
use Rattle.cluster_sched.specs.Names.{IsCalendarTime, IsTimeNear, time_text}
use Rattle.cluster_sched.proofs.NameLemmas.{IsCalendarTime-name, not_parted, parts_of_name, time_text-injective}
use Rattle.cluster_sched.proofs.name.read_name.Goals as goal

pub returns-in_err-job-clause-none : goal.returns-in_err-job-clause-none
returns-in_err-job-clause-none c = rw c.from_residual.ensures (λ name is_in e.
    not_parted c.args.text.now (job_name c.args.table.now name.job) (time_text (is_by_period c.args.table.now name.job) name.at) c.in_err-job.ensures.none e)

pub returns-in_err-job-2-clause-none : goal.returns-in_err-job-2-clause-none
returns-in_err-job-2-clause-none c = rw c.from_residual-in_err-job-2.ensures (λ name is_in e.
    let limits : IsWithinLimits c.args.table.now.window = c.job_named.ensures.sound.limits in
    let parts = parts_of_name c.args.table.now name c.args.text.now c.in_ok-job.job.now c.in_ok-job.time.now limits is_in c.in_ok-job.ensures.parts c.in_ok-job.ensures.last e in
    c.in_err-job-2.ensures.none name.job is_in.job (sym parts.0))

pub returns-in_err-at-clause-none : goal.returns-in_err-at-clause-none
returns-in_err-at-clause-none c = rw c.from_residual-in_err-at.ensures (λ name is_in e.
    let table = c.args.table.now in
    let limits : IsWithinLimits table.window = c.job_named.ensures.sound.limits in
    let parts = parts_of_name table name c.args.text.now c.in_ok-job.job.now c.in_ok-job.time.now limits is_in c.in_ok-job.ensures.parts c.in_ok-job.ensures.last e in
    let same : name.job ≡ c.in_ok-job-2.job = c.in_ok-job-2.ensures.one name.job is_in.job (sym parts.0) in
    let calendar : IsCalendarTime (is_by_period table c.in_ok-job-2.job) name.at = rw same at (IsCalendarTime-name table name limits is_in) in
    c.in_err-at.ensures.none name.at calendar (rw same at parts.1))

pub returns-else-is_time_near-clause-none : goal.returns-else-is_time_near-clause-none
returns-else-is_time_near-clause-none c = λ name is_in e.
    let table = c.args.table.now in
    let by_period = is_by_period table c.in_ok-job-2.job in
    let limits : IsWithinLimits table.window = c.job_named.ensures.sound.limits in
    let parts = parts_of_name table name c.args.text.now c.in_ok-job.job.now c.in_ok-job.time.now limits is_in c.in_ok-job.ensures.parts c.in_ok-job.ensures.last e in
    let same : name.job ≡ c.in_ok-job-2.job = c.in_ok-job-2.ensures.one name.job is_in.job (sym parts.0) in
    let calendar : IsCalendarTime by_period name.at = rw same at (IsCalendarTime-name table name limits is_in) in
    let time : c.in_ok-job.time.now ≡ time_text by_period name.at = rw same at parts.1 in
    let read = c.in_ok-at.ensures.read in
    let same_at : name.at ≡ c.in_ok-at.at = time_text-injective by_period name.at c.in_ok-at.at calendar read.0 (sym time ∙ read.1) in
    let inside : IsTimeNear table.window by_period c.in_ok-at.at = rw (same, same_at) at is_in.inside in
    let fits : FitsSigned w64 c.in_ok-at.at = search rules in
    true≢false (sym (c.if-is_time_near.ensures.1 (rw (to_z-of_z w64 c.in_ok-at.at fits) inside)))
