-- The rows of a job in a report's order are its due instants in order.
use Rattle.std.proofs.Common.{◌≡◌, ◌≢◌, ◌↔◌, inl, inr, ℕ, suc, Bool, true, ◌==◌, List, [], ◌∷◌, get_or, map, sym, ◌∙◌, subst, arith, ℤ, ◌<ℤ◌}
use Rattle.std.specs.Prelude.{All, AllPairs, Contains, filter, ◌≤ℤ◌}
use Rattle.std.proofs.lemmas.Bool.{eqb-true, eq-eqb}
use Rattle.std.proofs.lemmas.Int.{ints}
use Rattle.std.proofs.lemmas.List.Elements.{All-contains, All-map, All-head, All-tail, filter_passes, recursion_from_All}
use Rattle.std.proofs.lemmas.List.Kept.{AllPairs-filter}
use Rattle.std.proofs.lemmas.List.Sorted.{IsPermutation-sym, Contains-permutation}
use Rattle.due_set.specs.Due.{IsRising}
use Rattle.due_set.specs.Table.{Table, IsJobDue, IsJobDueList, IsRunByPeriod}
use Rattle.due_set.proofs.Rising.{Contains-map}
use Rattle.paxos_base.specs.declared.entry.Kind.TheVariants.{Launch}
use Rattle.cluster_sched.specs.Held.{AreNamedOnce}
use Rattle.cluster_sched.specs.declared.row.SchedRow.{SchedRow}
use Rattle.launch_machine.proofs.MachineLemmas.{due_by_instant}
use Rattle.launch_safety.specs.Launched.{IsWanted, LaunchesEachDue, OpensBy}
use Rattle.launch_safety.proofs.FitLemmas.{launched_due, name_is as same_name}
use Rattle.report_text.specs.Report.{IsInOrder, IsNotAfter}
use Rattle.report_text.specs.Listing.{instants_of}
use Rattle.report_text.proofs.OneOrder.{AreNamedOnce-permutation}
use Rattle.step_spec.proofs.ListLemmas.{from_filter as Contains-from_filter, in_filter as Contains-filter, from_map}

-- where both are of one job, the first is earlier
abbrev IsBefore : SchedRow → SchedRow → Type 0
IsBefore a b = a.name.job ≡ b.name.job → a.name.at <ℤ b.name.at

strictly_before : (a b : SchedRow) → IsNotAfter a.name b.name → a.name ≢ b.name → IsBefore a b
strictly_before a b (inl less) differ same = absurd (omega arith)
strictly_before a b (inr upto) differ same = strictly upto.1 (λ e. differ (same_name a.name b.name same e))
  where
    strictly : a.name.at ≤ℤ b.name.at → (a.name.at ≡ b.name.at → ⊥) → a.name.at <ℤ b.name.at
    strictly le ne = omega (arith, ints)

all_before : (held rows : List SchedRow) → AreNamedOnce held → IsInOrder held rows → AllPairs IsBefore rows
all_before held rows once x i j d less within =
    strictly_before (get_or rows i d) (get_or rows j d) (x.sorted i j d less within) (AreNamedOnce-permutation held rows x.same once i j d less within)

abbrev is_of : ℕ → SchedRow → Bool
is_of job row = row.name.job == job

abbrev at_of : SchedRow → ℤ
at_of row = row.name.at

-- the instants of rows that are all of one job rise
rising : (job : ℕ) (rows : List SchedRow) → All (λ row. is_of job row ≡ true) rows → AllPairs IsBefore rows → IsRising (map at_of rows)
rising job [] of_job pairs = tt
rising job (row ∷ rows) of_job pairs =
    (recursion_from_All (λ later. row.name.at <ℤ later) (map at_of rows) (All-map (λ later. row.name.at <ℤ later) at_of rows behind), rising job rows rest (λ i j d less within. pairs (suc i) (suc j) d (omega arith) (omega arith)))
  where
    first : row.name.job ≡ job
    first = eqb-true _ _ (All-head (λ row. is_of job row ≡ true) row rows of_job)

    rest : All (λ row. is_of job row ≡ true) rows
    rest = All-tail (λ row. is_of job row ≡ true) row rows of_job

    behind : All (λ other. row.name.at <ℤ other.name.at) rows
    behind k d within = pairs 0 (suc k) d (omega arith) (omega arith) (first ∙ sym (eqb-true _ _ (rest k d within)))

-- a row that is held, of an instant or a date that is listed
record IsListedRow (held : List SchedRow) (job : ℕ) (at : ℤ) : Type 0 where
  row : SchedRow
  among : Contains held row
  of_job : row.name.job ≡ job
  is_at : row.name.at ≡ at

listed_row : (held rows : List SchedRow) (job : ℕ) (at : ℤ) → IsInOrder held rows → Contains (instants_of rows job) at → IsListedRow held job at
listed_row held rows job at x h =
    let made = from_map at_of (filter (is_of job) rows) at h in
    record {
      row = made.origin;
      among = Contains-permutation rows held made.origin (IsPermutation-sym held rows x.same) (Contains-from_filter (is_of job) rows made.origin made.among);
      of_job = eqb-true _ _ (All-contains (λ row. is_of job row ≡ true) (filter (is_of job) rows) made.origin (filter_passes (is_of job) rows) made.among);
      is_at = made.is;
    }

-- and the other way
row_listed : (held rows : List SchedRow) (job : ℕ) (at : ℤ) (row : SchedRow) → IsInOrder held rows → Contains held row → row.name.job ≡ job → row.name.at ≡ at
    → Contains (instants_of rows job) at
row_listed held rows job at row x among of_job is_at =
    let among_rows : Contains rows row = Contains-permutation held rows row x.same among in
    subst (λ t. Contains (instants_of rows job) t) is_at
    (Contains-map at_of (filter (is_of job) rows) row (Contains-filter (is_of job) rows row (eq-eqb _ _ of_job) among_rows))

listed_is_due : (table : Table) (held rows : List SchedRow) (job : ℕ) → (IsRunByPeriod table job → ⊥) → LaunchesEachDue table held → IsInOrder held rows
    → (instant : ℤ) → Contains (instants_of rows job) instant → IsJobDue table 0 job instant
listed_is_due table held rows job other launches x instant h =
    let listed = listed_row held rows job instant x h in
    let due : IsJobDue table 0 listed.row.name.job listed.row.name.at =
    launched_due table held listed.row launches listed.among (λ by. other (subst (IsRunByPeriod table) listed.of_job by)) in
    subst (λ at. IsJobDue table 0 job at) listed.is_at (subst (λ k. IsJobDue table 0 k listed.row.name.at) listed.of_job due)

due_is_listed : (table : Table) (held rows : List SchedRow) (job : ℕ) → LaunchesEachDue table held → IsInOrder held rows
    → (instant : ℤ) → IsJobDue table 0 job instant → Contains (instants_of rows job) instant
due_is_listed table held rows job launches x instant due =
    let h = launches.each job instant due in
    row_listed held rows job instant h.row x h.among h.of_job h.due_at

-- the rows of a job rise
pub listed_rise : (held rows : List SchedRow) (job : ℕ) → AreNamedOnce held → IsInOrder held rows → IsRising (instants_of rows job)
listed_rise held rows job once x =
    rising job (filter (is_of job) rows) (filter_passes (is_of job) rows) (AllPairs-filter IsBefore (is_of job) rows (all_before held rows once x))

pub each_due_listed : (table : Table) (held rows : List SchedRow) (job : ℕ) → AreNamedOnce held → LaunchesEachDue table held → IsInOrder held rows
    → (IsRunByPeriod table job → ⊥) → IsJobDueList table 0 job (instants_of rows job)
each_due_listed table held rows job once launches x other = record {
  rising = listed_rise held rows job once x;
  sound = listed_is_due table held rows job other launches x;
  complete = due_is_listed table held rows job launches x;
}

listed_opens : (table : Table) (held rows : List SchedRow) (job : ℕ) (date : ℤ) → LaunchesEachDue table held → IsInOrder held rows → IsRunByPeriod table job
    → Contains (instants_of rows job) date → (now : ℤ) × OpensBy table held job now date
listed_opens table held rows job date launches x by h =
    let listed = listed_row held rows job date x h in
    elim (All-contains (λ (row : SchedRow). IsWanted table held row × (row.kind ≡ Launch)) held listed.row launches.no_other listed.among).0 [
      | inl due ↦ absurd (due_by_instant table job listed.row.name.at (subst (λ k. IsJobDue table 0 k listed.row.name.at) listed.of_job due) by)
      | inr opens ↦ (
        listed.row.now.0,
        subst (λ at. OpensBy table held job listed.row.now.0 at) listed.is_at
            (subst (λ k. OpensBy table held k listed.row.now.0 listed.row.name.at) listed.of_job opens),
      )
    ]

opens_listed : (table : Table) (held rows : List SchedRow) (job : ℕ) (now date : ℤ) → LaunchesEachDue table held → IsInOrder held rows
    → OpensBy table held job now date → Contains (instants_of rows job) date
opens_listed table held rows job now date launches x opens =
    let h = launches.each_date job now date opens in
    row_listed held rows job date h.row x h.among h.of_job h.due_at

-- the dates that are listed are those on which the job may open
pub each_date_listed : (table : Table) (held rows : List SchedRow) (job : ℕ) (date : ℤ) → LaunchesEachDue table held → IsInOrder held rows → IsRunByPeriod table job
    → (Contains (instants_of rows job) date ↔ ((now : ℤ) × OpensBy table held job now date))
each_date_listed table held rows job date launches x by =
    (listed_opens table held rows job date launches x by, λ (now, opens). opens_listed table held rows job now date launches x opens)
