-- A report's counts are those of the rows that it lists.
use Rattle.std.proofs.Common.{◌≡◌, ℕ, ◌+◌, Bool, true, false, cond, ◌&&◌, ◌==◌, List, [], ◌∷◌, length, refl, sym, ap, ◌∙◌, ℤ}
use Rattle.std.specs.Prelude.{All, filter, count_by}
use Rattle.std.proofs.lemmas.List.{length-map}
use Rattle.std.proofs.lemmas.List.Elements.{All-head, All-tail, All-weaker}
use Rattle.std.proofs.lemmas.List.Sorted.{sum_by-IsPermutation}
use Rattle.std.proofs.lemmas.List.Sums.{length-filter, sum_by-cons}
use Rattle.due_set.specs.Table.{Table, IsJobDueList, IsRunByPeriod}
use Rattle.due_set.proofs.TableLemmas.{IsJobDueList-same}
use Rattle.paxos_base.specs.declared.entry.Kind.{Kind}
use Rattle.paxos_base.specs.declared.entry.Kind.TheVariants.{Launch, Void}
use Rattle.cluster_sched.specs.Held.{AreNamedOnce}
use Rattle.cluster_sched.specs.declared.row.SchedRow.{SchedRow}
use Rattle.launch_safety.specs.Launched.{IsWanted, LaunchesEachDue}
use Rattle.report_text.specs.Listing.{instants_of, rows_of_kind}
use Rattle.report_text.specs.Report.{IsInOrder, count_of_kind, is_same_kind}
use Rattle.report_text.proofs.ListingLemmas.{each_due_listed}
use Rattle.report_text.proofs.OrderLemmas.{some_order}

abbrev is_counted : ℕ → Kind → SchedRow → Bool
is_counted job kind row = (row.name.job == job) && is_same_kind row.kind kind

abbrev is_of : ℕ → SchedRow → Bool
is_of job row = row.name.job == job

abbrev one_if : (SchedRow → Bool) → SchedRow → ℕ
one_if p row = cond (p row) 1 0

-- a count is how many rows of the job and the kind are listed
pub counts_listed : (held rows : List SchedRow) (job : ℕ) (kind : Kind) → IsInOrder held rows → count_of_kind held job kind ≡ length (rows_of_kind rows job kind)
counts_listed held rows job kind x =
    sym (sum_by-IsPermutation (one_if (is_counted job kind)) held rows x.same) ∙ sym (length-filter (is_counted job kind) rows)

abbrev AreLaunches : List SchedRow → Type 0
AreLaunches rows = All (λ row. row.kind ≡ Launch) rows

launch_counts : (of_job : Bool) (kind : Kind) → kind ≡ Launch → (of_job && is_same_kind kind Launch) ≡ of_job
launch_counts true kind e = ap (λ (k : Kind). is_same_kind k Launch) e
launch_counts false kind e = refl

launch_is_no_void : (of_job : Bool) (kind : Kind) → kind ≡ Launch → (of_job && is_same_kind kind Void) ≡ false
launch_is_no_void true kind e = ap (λ (k : Kind). is_same_kind k Void) e
launch_is_no_void false kind e = refl

-- where all rows are launches, each of the job's counts as one
all_counted : (rows : List SchedRow) (job : ℕ) → AreLaunches rows → count_of_kind rows job Launch ≡ count_by (is_of job) rows
all_counted [] job all = refl
all_counted (row ∷ rows) job all =
    let first : is_counted job Launch row ≡ is_of job row = launch_counts (is_of job row) row.kind (All-head (λ r. r.kind ≡ Launch) row rows all) in
    sum_by-cons (one_if (is_counted job Launch)) row rows
    ∙ ap (λ (b : Bool). cond b 1 0 + count_of_kind rows job Launch) first
    ∙ ap (λ (n : ℕ). cond (is_of job row) 1 0 + n) (all_counted rows job (All-tail (λ r. r.kind ≡ Launch) row rows all))
    ∙ sym (sum_by-cons (one_if (is_of job)) row rows)

-- and none counts as a void
none_voided : (rows : List SchedRow) (job : ℕ) → AreLaunches rows → count_of_kind rows job Void ≡ 0
none_voided [] job all = refl
none_voided (row ∷ rows) job all =
    let first : is_counted job Void row ≡ false = launch_is_no_void (is_of job row) row.kind (All-head (λ r. r.kind ≡ Launch) row rows all) in
    sum_by-cons (one_if (is_counted job Void)) row rows
    ∙ ap (λ (b : Bool). cond b 1 0 + count_of_kind rows job Void) first
    ∙ ap (λ (n : ℕ). 0 + n) (none_voided rows job (All-tail (λ r. r.kind ≡ Launch) row rows all))

all_launches : (table : Table) (held : List SchedRow) → LaunchesEachDue table held → AreLaunches held
all_launches table held launches =
    All-weaker (λ (row : SchedRow). IsWanted table held row × (row.kind ≡ Launch)) (λ row. row.kind ≡ Launch) (λ row both. both.1) held launches.no_other

pub launches_counted : (table : Table) (held : List SchedRow) (job : ℕ) (dues : List ℤ) → AreNamedOnce held → LaunchesEachDue table held
    → (IsRunByPeriod table job → ⊥) → IsJobDueList table 0 job dues → count_of_kind held job Launch ≡ length dues
launches_counted table held job dues once launches other list =
    let order = some_order held in
    let rows = order.0 in
    let listed : IsJobDueList table 0 job (instants_of rows job) = each_due_listed table held rows job once launches order.1 other in
    let at_of : SchedRow → ℤ = λ row. row.name.at in
    all_counted held job (all_launches table held launches)
    ∙ sym (sum_by-IsPermutation (one_if (is_of job)) held rows order.1.same)
    ∙ sym (length-filter (is_of job) rows)
    ∙ sym (length-map (filter (is_of job) rows) at_of)
    ∙ ap length (IsJobDueList-same table 0 job (instants_of rows job) dues listed list)

pub no_void_counted : (table : Table) (held : List SchedRow) (job : ℕ) → LaunchesEachDue table held → count_of_kind held job Void ≡ 0
no_void_counted table held job launches = none_voided held job (all_launches table held launches)
