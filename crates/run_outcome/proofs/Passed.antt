-- Where a date is barred, the job's zone showed a later one at an earlier instant.
use Rattle.std.proofs.Common.{◌≡◌, ℕ, ◌≤◌, List, ℤ, ◌≤ℤ◌, ◌<ℤ◌, refl, sym, inl, inr, subst, arith}
use Rattle.std.proofs.lemmas.Int.{ints}
use Rattle.zone_minutes.specs.Civil.{day_number}
use Rattle.zone_minutes.specs.Zone.{local_of}
use Rattle.due_set.specs.Calls.{HasCome, IsOnTime}
use Rattle.due_set.specs.Table.{IsAnacron, IsJobIn, IsRunByPeriod, Table}
use Rattle.due_set.proofs.TableLemmas.{IsRunByPeriod-kind}
use Rattle.due_set.specs.declared.job.JobKind.{JobKind}
use Rattle.due_set.specs.declared.job.JobKind.TheVariants.{Anacron}
use Rattle.paxos_base.specs.declared.entry.Entry.{Entry}
use Rattle.paxos_base.specs.declared.entry.Kind.TheVariants.{Void}
use Rattle.cluster_sched.specs.declared.row.SchedRow.{SchedRow}
use Rattle.launch_machine.proofs.MachineLemmas.{may_start_on}
use Rattle.history.specs.Book.{Row}
use Rattle.history.specs.Legal.{IsLegal}
use Rattle.history.proofs.Agreement.{book_log}
use Rattle.launch_safety.specs.Fitting.{held_in}
use Rattle.launch_safety.proofs.Whole.{IsFirstBacked, effective_may, held_first}
use Rattle.run_outcome.specs.Whole.{AdoptsNone}
use Rattle.run_outcome.specs.Barred.{IsBarred, IsStartedLater, IsVoidedSooner, ShowedLater}
use Rattle.run_outcome.proofs.DateLemmas.{after_day, not_both}

started_passed : (members : ℕ) (table : Table) (rows : List Row) (job : ℕ) (now date : ℤ) → members ≤ 7 → IsLegal members table rows → AdoptsNone members table rows → IsRunByPeriod table job
    → IsStartedLater members table rows job now date → ShowedLater table job now date
started_passed members table rows job now date few legal adopts by started =
    let opens = may_start_on table job started.start.takes.2.row started.day started.then by
    (effective_may members table rows few legal started.log started.is_log (adopts started.log started.is_log) job started.day started.then started.start) in
    let later = started.later in
    let is = opens.is_date in
    record { spec = opens.job; zone = opens.zone; is_in = opens.is_in; then = started.then; sooner = started.sooner; later = omega (arith, ints, later, is) }

-- a launch that was void was called at an instant at which its job's zone showed a later date
module _ (table : Table) (log : List Entry) (row : SchedRow) (backed : IsFirstBacked table log row) (void : row.kind ≡ Void) where
  abbrev shown : ℤ
  shown = day_number (local_of backed.zone row.now.0)

  void_shown : (kind : JobKind) → backed.spec.kind ≡ kind → IsAnacron kind → row.name.at <ℤ shown
  void_shown (Anacron period first last) is by =
      let come : row.name.at ≤ℤ shown = subst (λ (k : JobKind). HasCome k backed.zone row.name.at row.now.0) is backed.come in
      after_day row.name.at row.name.at shown refl come
      (λ same. not_both row.kind void ((backed.kind backed.spec backed.zone backed.is_in).1
      (subst (λ (k : JobKind). IsOnTime k backed.zone table.grace row.name.at row.now.0) (sym is) same)))
  void_shown other is by = absurd by

voided_passed : (members : ℕ) (table : Table) (rows : List Row) (job : ℕ) (now date : ℤ) → members ≤ 7 → IsLegal members table rows → AdoptsNone members table rows → IsRunByPeriod table job
    → IsVoidedSooner (held_in members table rows) job now date → ShowedLater table job now date
voided_passed members table rows job now date few legal adopts by voided =
    let row = voided.void.row in
    let (log, is_log) = book_log members table rows few legal in
    let backed : IsFirstBacked table log row = held_first members table rows log row few legal is_log (adopts log is_log) voided.void.among in
    let runs : IsRunByPeriod table row.name.job = subst (IsRunByPeriod table) (sym voided.void.of_job) by in
    let shown = void_shown table log row backed voided.void.of_kind backed.spec.kind refl (IsRunByPeriod-kind table row.name.job backed.spec backed.is_in.is_job runs) in
    let day = voided.void.due_at in
    let reached = voided.reached in
    let read = voided.void.called in
    let sooner = voided.sooner in
    record {
      spec = backed.spec;
      zone = backed.zone;
      is_in = subst (λ number. IsJobIn table 0 number backed.spec backed.zone) voided.void.of_job backed.is_in;
      then = row.now.0;
      sooner = omega (arith, ints, read, sooner);
      later = omega (arith, ints, shown, day, reached);
    }

pub barred_passed : (members : ℕ) (table : Table) (rows : List Row) (job : ℕ) (now date : ℤ) → members ≤ 7 → IsLegal members table rows → AdoptsNone members table rows → IsRunByPeriod table job
    → IsBarred members table rows job now date → ShowedLater table job now date
barred_passed members table rows job now date few legal adopts by (inl started) = started_passed members table rows job now date few legal adopts by started
barred_passed members table rows job now date few legal adopts by (inr voided) = voided_passed members table rows job now date few legal adopts by voided
