-- What the parts of the fit say of books in which they are at work.
use Rattle.std.proofs.Common.{◌≡◌, ℕ, ◌≤◌, List, ℤ, ◌<ℤ◌, sym, ◌∙◌, subst}
use Rattle.std.specs.List.{Contains}
use Rattle.paxos_base.specs.declared.entry.Entry.{Entry}
use Rattle.paxos_base.specs.declared.entry.Kind.{Kind}
use Rattle.paxos_base.specs.declared.entry.Kind.TheVariants.{Launch, Void}
use Rattle.due_set.specs.Table.{Table}
use Rattle.cluster_sched.specs.declared.row.Name.{Name}
use Rattle.cluster_sched.specs.declared.row.SchedRow.{SchedRow}
use Rattle.launch_safety.specs.Fits.{HasEnd, IsHeld, IsPeriodApart, IsStartedUnder}
use Rattle.launch_safety.proofs.FitLemmas.{end_kind}
use Rattle.agreement.specs.Log.{IsLog}
use Rattle.history.specs.Book.{Row, votes_in}
use Rattle.history.specs.Legal.{IsLegal}
use Rattle.history.proofs.Agreement.{book_log}
use Rattle.launch_safety.specs.Fitting.{held_in}
use Rattle.launch_safety.specs.Parts.{ArrivesTooLate, EndsAs, HasTwoDates}
use Rattle.launch_safety.proofs.Whole.{whole}

-- where a launch ends, a row of that kind is held for it
pub ended_held : (n : ℕ) (table : Table) (book : List Row) (job : ℕ) (at : ℤ) (kind : Kind) → n ≤ 7 → IsLegal n table book
    → EndsAs n table book job at kind → IsHeld (held_in n table book) job at kind
ended_held n table book job at kind few legal ends =
    let log = book_log n table book few legal in
    (whole n table book few legal log.0 log.1).ended job at kind (ends log.0 log.1)

-- the void stays what is held
pub void_stays : (n : ℕ) (table : Table) (book : List Row) (late : ArrivesTooLate n table book) (row : SchedRow) → n ≤ 7 → IsLegal n table book
    → Contains (held_in n table book) row → row.name ≡ late.call.name → row.kind ≡ Void
void_stays n table book late row few legal has named =
    let log = book_log n table book few legal in
    end_kind table log.0 (held_in n table book) row Void (whole n table book few legal log.0 log.1) has
    (subst (λ (name : Name). HasEnd table log.0 name.job name.at Void) (sym named) (late.void log.0 log.1))

-- the dates are a period apart, by the version under which the later one was started
pub dates_apart : (n : ℕ) (table : Table) (book : List Row) (log : List Entry) (dates : HasTwoDates n table book) (version : ℕ) → n ≤ 7 → IsLegal n table book
    → IsLog n (votes_in book) log → IsStartedUnder table log version dates.job dates.second → IsPeriodApart table version dates.job dates.first dates.second
dates_apart n table book log dates version few legal is_log start =
    let fits = whole n table book few legal log is_log in
    let a = fits.ended dates.job dates.first Launch (dates.first_ended log is_log) in
    let b = fits.ended dates.job dates.second Launch (dates.second_ended log is_log) in
    let began : IsStartedUnder table log version b.row.name.job b.row.name.at =
    subst (λ job. IsStartedUnder table log version job b.row.name.at) (sym b.of_job) (subst (IsStartedUnder table log version dates.job) (sym b.due_at) start) in
    let between : a.row.name.at <ℤ b.row.name.at = subst (λ at. at <ℤ b.row.name.at) (sym a.due_at) (subst (λ at. dates.first <ℤ at) (sym b.due_at) dates.later) in
    let apart = fits.apart a.row b.row a.among b.among (a.of_job ∙ sym b.of_job) a.of_kind b.of_kind between version began in
    subst (λ job. IsPeriodApart table version job dates.first dates.second) b.of_job
    (subst (λ at. IsPeriodApart table version b.row.name.job at dates.second) a.due_at (subst (λ at. IsPeriodApart table version b.row.name.job a.row.name.at at) b.due_at apart))
