-- The counts of each job, in one pass over the rows.
use Rattle.std.proofs.Common.{◌≡◌, ℕ, ◌+◌, ◌<◌, Bool, true, false, List, [], length, map, take, get_or, set, replicate, refl, sym, ap, ◌∙◌, arith, ◌^◌, inl, inr, cond}
use Rattle.std.specs.Prelude.{◌==◌, ◌&&◌}
use Rattle.std.specs.List.{range_with_len}
use Rattle.std.proofs.lemmas.Bool.{cases_eq, eq-eqb, ne_eqb}
use Rattle.std.proofs.lemmas.List.{length-take-le, length-replicate, get_or-replicate, get_or-set_same, get_or-set_other, length-set}
use Rattle.std.proofs.lemmas.List.FromFn.{fill_by_all, length-range_with_len, get_or-range_with_len, length-map-range_with_len, get_or-map-range_with_len}
use Rattle.std.proofs.lemmas.List.Sums.{sum_by_more, count_by-le-length}
use Rattle.paxos_base.specs.declared.entry.Kind.{Kind}
use Rattle.paxos_base.specs.declared.entry.Kind.TheVariants.{Launch, Void}
use Rattle.due_set.specs.Table.{Table, job_name}
use Rattle.cluster_sched.specs.declared.row.SchedRow.{SchedRow}
use Rattle.report_text.specs.Counts.{counted, counts_of_job}
use Rattle.report_text.specs.Report.{count_line, count_of_kind, is_same_kind, job_line}
use Rattle.report_text.specs.declared.count.Counts.{Counts}

same_counts : (a b : Counts) → a.launched ≡ b.launched → a.voided ≡ b.voided → a ≡ b
same_counts a b launched voided =
    let with_launched : ℕ → Counts = λ n. record { launched = n; voided = a.voided } in
    let with_voided : ℕ → Counts = λ n. record { launched = b.launched; voided = n } in
    ap with_launched launched ∙ ap with_voided voided

-- the counts before the first row
pub no_counts : (jobs : ℕ) → let none : Counts = record { launched = 0; voided = 0 } in replicate jobs none ≡ map (counts_of_job []) (range_with_len 0 jobs)
no_counts jobs =
    let none : Counts = record { launched = 0; voided = 0 } in
    fill_by_all (counts_of_job []) (replicate jobs none) jobs none (length-replicate jobs none) (λ k lt. get_or-replicate jobs k none none lt)

-- how many rows more are of the job and the kind, after the next row
one_or_none : Bool → ℕ
one_or_none passes = cond passes 1 0

count_more : (held : List SchedRow) (i : ℕ) (d : SchedRow) (job : ℕ) (kind : Kind) → i < length held
    → let row = get_or held i d in count_of_kind (take (i + 1) held) job kind ≡ count_of_kind (take i held) job kind + one_or_none ((row.name.job == job) && is_same_kind row.kind kind)
unfolding one_or_none
count_more held i d job kind lt = sum_by_more (λ (row : SchedRow). cond ((row.name.job == job) && is_same_kind row.kind kind) 1 0) held i d lt

counts_other : (held : List SchedRow) (i : ℕ) (d : SchedRow) (job : ℕ) → i < length held → ((get_or held i d).name.job == job) ≡ false
    → counts_of_job (take (i + 1) held) job ≡ counts_of_job (take i held) job
unfolding one_or_none
counts_other held i d job lt differs =
    let row = get_or held i d in
    let none : (kind : Kind) → one_or_none ((row.name.job == job) && is_same_kind row.kind kind) ≡ 0 = λ kind. ap (λ (b : Bool). one_or_none (b && is_same_kind row.kind kind)) differs in
    let launched = count_more held i d job Launch lt in
    let voided = count_more held i d job Void lt in
    let no_launch = none Launch in
    let no_void = none Void in
    same_counts _ _ (omega arith) (omega arith)

counted_is : (kind : Kind) (counts : Counts) → counted kind counts
    ≡ record { launched = counts.launched + one_or_none (is_same_kind kind Launch); voided = counts.voided + one_or_none (is_same_kind kind Void) }
unfolding one_or_none
counted_is Launch counts = same_counts _ _ refl (omega arith)
counted_is Void counts = same_counts _ _ (omega arith) refl

counts_same : (held : List SchedRow) (i : ℕ) (d : SchedRow) (job : ℕ) → i < length held → ((get_or held i d).name.job == job) ≡ true
    → counts_of_job (take (i + 1) held) job ≡ counted (get_or held i d).kind (counts_of_job (take i held) job)
counts_same held i d job lt same =
    let row = get_or held i d in
    let some : (kind : Kind) → one_or_none ((row.name.job == job) && is_same_kind row.kind kind) ≡ one_or_none (is_same_kind row.kind kind) =
    λ kind. ap (λ (b : Bool). one_or_none (b && is_same_kind row.kind kind)) same in
    let launched = count_more held i d job Launch lt in
    let voided = count_more held i d job Void lt in
    same_counts _ _ (launched ∙ ap (λ (n : ℕ). count_of_kind (take i held) job Launch + n) (some Launch)) (voided ∙ ap (λ (n : ℕ). count_of_kind (take i held) job Void + n) (some Void))
    ∙ sym (counted_is row.kind (counts_of_job (take i held) job))

-- the counts after one more row
pub counts_more : (held : List SchedRow) (i : ℕ) (row : SchedRow) (jobs : ℕ) (old new : List Counts) (d : Counts) → i < length held → row ≡ get_or held i row → row.name.job < jobs
    → old ≡ map (counts_of_job (take i held)) (range_with_len 0 jobs)
    → new ≡ set old row.name.job (counted row.kind (get_or old row.name.job d))
    → new ≡ map (counts_of_job (take (i + 1) held)) (range_with_len 0 jobs)
counts_more held i row jobs old new d lt row_is within known new_is =
    let job = row.name.job in
    let size : length old ≡ jobs = ap length known ∙ length-map-range_with_len (counts_of_job (take i held)) 0 jobs in
    let inside : job < length old = omega arith in
    let before : (k : ℕ) → k < jobs → get_or old k d ≡ counts_of_job (take i held) k =
    λ k below. ap (λ (l : List Counts). get_or l k d) known ∙ get_or-map-range_with_len (counts_of_job (take i held)) 0 jobs k k d below (omega arith) in
    let name_is : (get_or held i row).name.job ≡ job = ap (λ (r : SchedRow). r.name.job) (sym row_is) in
    let kind_is : (get_or held i row).kind ≡ row.kind = ap (λ (r : SchedRow). r.kind) (sym row_is) in
    let value = counted row.kind (get_or old job d) in
    let after : (k : ℕ) → k < jobs → get_or (set old job value) k d ≡ counts_of_job (take (i + 1) held) k =
    λ k below. elim (cases_eq k job) [
      | inl same ↦ ap (λ (n : ℕ). get_or (set old job value) n d) same
          ∙ get_or-set_same old job value d inside
          ∙ ap (counted row.kind) (before job within)
          ∙ ap (λ (kind : Kind). counted kind (counts_of_job (take i held) job)) (sym kind_is)
          ∙ sym (counts_same held i row job lt (ap (λ (n : ℕ). n == job) name_is ∙ eq-eqb job job refl))
          ∙ ap (λ (n : ℕ). counts_of_job (take (i + 1) held) n) (sym same)
      | inr other ↦ get_or-set_other old job k value d other ∙ before k below
          ∙ sym (counts_other held i row k lt (ap (λ (n : ℕ). n == k) name_is ∙ ne_eqb job k (λ e. other (sym e))))
    ] in
    new_is ∙ fill_by_all (counts_of_job (take (i + 1) held)) (set old job value) jobs d (length-set old job value ∙ size) after

-- a count can rise while rows are left
pub room_for_more : (held : List SchedRow) (i jobs job : ℕ) (counts : List Counts) (d : Counts) → i < length held → length held < 2 ^ 64 → job < jobs
    → counts ≡ map (counts_of_job (take i held)) (range_with_len 0 jobs)
    → ((get_or counts job d).launched + 1 < 2 ^ 64) × ((get_or counts job d).voided + 1 < 2 ^ 64)
room_for_more held i jobs job counts d lt few below known =
    let is : get_or counts job d ≡ counts_of_job (take i held) job = ap (λ (l : List Counts). get_or l job d) known ∙ get_or-map-range_with_len (counts_of_job (take i held)) 0 jobs job job d below (omega arith) in
    let size : length (take i held) ≡ i = length-take-le i held (omega arith) in
    let launched = count_by-le-length (λ (row : SchedRow). (row.name.job == job) && is_same_kind row.kind Launch) (take i held) in
    let voided = count_by-le-length (λ (row : SchedRow). (row.name.job == job) && is_same_kind row.kind Void) (take i held) in
    let launched_is = ap (λ (c : Counts). c.launched) is in
    let voided_is = ap (λ (c : Counts). c.voided) is in
    (omega arith, omega arith)

-- the line of a job, by the counts at its place
pub line_of_counts : (table : Table) (held : List SchedRow) (job : ℕ) (counts : List Counts) (d : Counts) → job < length table.jobs
    → counts ≡ map (counts_of_job held) (range_with_len 0 (length table.jobs))
    → job_line (job_name table job) (get_or counts job d).launched (get_or counts job d).voided ≡ count_line table held job
line_of_counts table held job counts d below known =
    let is : get_or counts job d ≡ counts_of_job held job =
    ap (λ (l : List Counts). get_or l job d) known ∙ get_or-map-range_with_len (counts_of_job held) 0 (length table.jobs) job job d below (omega arith) in
    ap (λ (c : Counts). job_line (job_name table job) c.launched c.voided) is

-- a place in a range, and the number there
pub place_in_range : (count place : ℕ) → place < count → (place < length (range_with_len 0 count)) × (place ≡ get_or (range_with_len 0 count) place place)
place_in_range count place below =
    let size = length-range_with_len 0 count in
    (omega arith, sym (get_or-range_with_len 0 count place place below ∙ omega arith))
