-- The jobs of a made run, and their table.
use Rattle.std.proofs.Common.{◌≡◌, inl, inr, ℕ, zero, suc, ◌+◌, ◌*◌, ◌<◌, ◌^◌, List, [], ◌∷◌, ◌++◌, length, map, drop, refl, ap, ◌∙◌, sym, subst, arith, codes, decimal, pos, length-append, append_assoc}
use Rattle.std.specs.Prelude.{All}
use Rattle.std.specs.List.{AllByRecursion, AllZip, range_with_len, sum_by}
use Rattle.std.proofs.Math.Nat.{mul-suc}
use Rattle.std.proofs.lemmas.Fmt.{decimal_injective}
use Rattle.std.proofs.lemmas.Int.{ints}
use Rattle.std.proofs.lemmas.List.{append-nil, map-append}
use Rattle.std.proofs.lemmas.List.Elements.{All-nil, All-cons}
use Rattle.std.proofs.lemmas.List.FromFn.{length-map-range_with_len}
use Rattle.std.proofs.lemmas.List.Sums.{sum_by-cons, sum_by-append}
use Rattle.crontab_text.specs.Answers.{IsLineOf}
use Rattle.crontab_text.specs.LineBody.{LineBody, EntryBody}
use Rattle.crontab_text.specs.declared.answer.Style.TheVariants.{User as UserStyle}
use Rattle.cron_fields.specs.declared.field.Fields.{Fields}
use Rattle.due_set.specs.Table.{Job, Table, IsKindOfName, IsSound, IsBuiltFor, AreNamesDistinct, utc_over}
use Rattle.due_set.proofs.SoundLemmas.{no_later}
use Rattle.job_table.proofs.KindLemmas.{crontab_plain}
use Rattle.due_set.specs.declared.job.JobKind.TheVariants.{Crontab}
use Rattle.zone_minutes.proofs.ZoneLemmas.{IsReadable-fixed}
use Rattle.job_table.specs.Collect.{Collected}
use Rattle.job_table.specs.Jobs.{HasJob, named_job}
use Rattle.job_table.specs.Marks.{Mark, AreMarks, MarksZone, MarksJob, crontab_job_name, marks_from}
use Rattle.job_table.specs.Table.{IsTableOf, jobs_of}
use Rattle.job_table.proofs.DueCountLemmas.{version_due_count}
use Rattle.job_table.proofs.JobLemmas.{distinct_push}
use Rattle.job_table.proofs.MarkLemmas.{adds_zone, adds_job}
use Rattle.job_table.proofs.OneVersionLemmas.{is_table_of_one, table_of_jobs}
use Rattle.generated_run.specs.Draws.{draw}
use Rattle.generated_run.specs.Made.{made_window, hourly_line, daily_line, hourly_lines, daily_lines, table_lines, made_run}
use Rattle.generated_run.proofs.CountLemmas.{IsMadeJob, hourly, daily, most_due, table_with, count_at_most}
use Rattle.generated_run.proofs.EntryLemmas.{hourly_fields, daily_fields}
use Rattle.generated_run.proofs.TextLemmas.{make_label, all_values, all_both, hourly_line_says, daily_line_says, window_limits}

-- an entry: its fields, and its command
abbrev Entry : Type 0
Entry = Fields × List ℕ

abbrev said : Entry → LineBody
said entry = EntryBody entry.0 [] entry.1

abbrev most_of : Entry → ℕ
most_of entry = most_due (Crontab entry.0)

abbrev hourly_entry : (seed number : ℕ) → Entry
hourly_entry seed number = (hourly_fields (draw seed number 60), codes "hourly " ++ decimal (number + 1))

abbrev daily_entry : (seed number : ℕ) → Entry
daily_entry seed number = (daily_fields (draw seed (40 + 2 * number) 60) (draw seed (41 + 2 * number) 24), codes "daily " ++ decimal (number + 41))

-- the entries of the lines of the table
abbrev hourly_entries : (seed : ℕ) → List Entry
hourly_entries seed = map (hourly_entry seed) (range_with_len 0 40)

abbrev daily_entries : (seed : ℕ) → List Entry
daily_entries seed = map (daily_entry seed) (range_with_len 0 160)

-- the fields are those of a job of each hour, or of one of each day
data AreMadeFields (fields : Fields) : Type 0 where
  hourly_so : (m : ℕ) → fields ≡ hourly_fields m → AreMadeFields fields
  daily_so : (m h : ℕ) → fields ≡ daily_fields m h → AreMadeFields fields

-- the marks of some entries, from the line of that number on and that number of a job
abbrev marks_of : (line count : ℕ) → List Entry → List Mark
marks_of line count entries = marks_from [] (codes "make") 0 line count (map said entries)

-- their jobs
made_jobs : (line count : ℕ) (entries : List Entry) → AllByRecursion (λ entry. AreMadeFields entry.0) entries → AllByRecursion IsMadeJob (jobs_of (marks_of line count entries))
made_jobs line count [] all = tt
made_jobs line count (entry ∷ entries) all = (by all.0, made_jobs (line + 1) (count + 1) entries all.1)
  where
    by : AreMadeFields entry.0 → IsMadeJob (record { name = crontab_job_name (codes "make") count; zone = 0; kind = Crontab entry.0 })
    by (hourly_so m is) = hourly m refl (ap Crontab is)
    by (daily_so m h is) = daily m h refl (ap Crontab is)

jobs_length : (line count : ℕ) (entries : List Entry) → length (jobs_of (marks_of line count entries)) ≡ length entries
jobs_length line count [] = refl
jobs_length line count (entry ∷ entries) = ap suc (jobs_length (line + 1) (count + 1) entries)

jobs_most : (line count : ℕ) (entries : List Entry) → sum_by (λ (job : Job). most_due job.kind) (jobs_of (marks_of line count entries)) ≡ sum_by most_of entries
jobs_most line count [] = refl
jobs_most line count (entry ∷ entries) =
    let job : Job = record { name = crontab_job_name (codes "make") count; zone = 0; kind = Crontab entry.0 } in
    sum_by-cons (λ (j : Job). most_due j.kind) job (jobs_of (marks_of (line + 1) (count + 1) entries)) ∙ ap (λ (n : ℕ). most_of entry + n) (jobs_most (line + 1) (count + 1) entries) ∙ sym (sum_by-cons most_of entry entries)

-- jobs that were collected, under names with smaller numbers
record Collects (marks : List Mark) (count : ℕ) : Type 0 where
  jobs : List Job
  collected : Collected [] marks jobs
  distinct : AreNamesDistinct jobs
  below : (name : List ℕ) → HasJob name jobs → (j : ℕ) × (j < count) × (name ≡ crontab_job_name (codes "make") j)

-- names with different numbers differ
same_number : (a b : ℕ) → a < 2 ^ 64 → b < 2 ^ 64 → crontab_job_name (codes "make") a ≡ crontab_job_name (codes "make") b → a ≡ b
same_number a b small also is = decimal_injective a b small also (ap (drop 5) is)

collects : (before : List Mark) (line count : ℕ) (entries : List Entry) → Collects before count → count + length entries < 2 ^ 64 → Collects (before ++ marks_of line count entries) (count + length entries)
collects before line count [] known short = subst (λ n. Collects (before ++ []) n) (no_more count) (subst (λ (ms : List Mark). Collects ms count) (sym (append-nil before)) known)
  where
    no_more : (n : ℕ) → n ≡ n + 0
    no_more n = omega arith
collects before line count (entry ∷ entries) known short =
    let name = crontab_job_name (codes "make") count in
    let job = named_job name 0 (Crontab entry.0) in
    let mark = MarksJob line name 0 (Crontab entry.0) in
    let none : HasJob name known.jobs → ⊥ = λ has. let (j, less, same) = known.below name has in let equal : count ≡ j = same_number count j (omega arith) (omega arith) same in omega arith in
    let next : Collects (before ++ mark ∷ []) (count + 1) = record {
      jobs = known.jobs ++ job ∷ [];
      collected = adds_job [] known.jobs line name 0 (Crontab entry.0) none before known.collected;
      distinct = distinct_push known.jobs job known.distinct none;
      below = λ other has. pushed known.jobs other has known.below;
    } in
    subst (λ n. Collects (before ++ mark ∷ marks_of (line + 1) (count + 1) entries) n) (one_more count (length entries))
    (subst (λ (ms : List Mark). Collects ms (count + 1 + length entries)) (append_assoc before (mark ∷ []) (marks_of (line + 1) (count + 1) entries))
    (collects (before ++ mark ∷ []) (line + 1) (count + 1) entries next (omega arith)))
  where
    one_more : (n m : ℕ) → n + 1 + m ≡ n + suc m
    one_more n m = omega arith

    pushed : (jobs : List Job) (other : List ℕ) → HasJob other (jobs ++ named_job (crontab_job_name (codes "make") count) 0 (Crontab entry.0) ∷ [])
        → ((name : List ℕ) → HasJob name jobs → (j : ℕ) × (j < count) × (name ≡ crontab_job_name (codes "make") j)) → (j : ℕ) × (j < count + 1) × (other ≡ crontab_job_name (codes "make") j)
    pushed [] other (inl is) below = (count, omega arith, sym is)
    pushed [] other (inr none) below = absurd none
    pushed (job ∷ jobs) other (inl is) below = let (j, less, same) = below other (inl is) in (j, omega arith, same)
    pushed (job ∷ jobs) other (inr has) below = pushed jobs other has (λ name later. below name (inr later))

-- the line that opens the table names UTC
opens_table : Collects (MarksZone 5 (codes "UTC") ∷ []) 1
opens_table = record {
  jobs = [];
  collected = adds_zone [] [] 5 (codes "UTC") (inl refl) [] (record { sound = tt; are = refl });
  distinct = λ i j d rises within. absurd (omega arith);
  below = λ name has. absurd has;
}

-- what the lines of the table say
zip_both : {X Y : Type 0} (P : X → Y → Type 0) (a c : List X) (b d : List Y) → AllZip P a b → AllZip P c d → AllZip P (a ++ c) (b ++ d)
zip_both P [] c [] d front back = back
zip_both P [] c (y ∷ b) d front back = absurd front
zip_both P (x ∷ a) c [] d front back = absurd front
zip_both P (x ∷ a) c (y ∷ b) d front back = (front.0, zip_both P a c b d front.1 back)

zip_values : (P : List ℕ → LineBody → Type 0) (f : ℕ → List ℕ) (g : ℕ → Entry) (from count : ℕ) → ((k : ℕ) → k < from + count → P (f k) (said (g k))) → AllZip P (map f (range_with_len from count)) (map said (map g (range_with_len from count)))
zip_values P f g from zero each = tt
zip_values P f g from (suc count) each = (each from (omega arith), zip_values P f g (from + 1) count (λ k below. each k (omega arith)))

table_says : (seed : ℕ) → AllZip (IsLineOf UserStyle (codes "make")) (table_lines seed) (map said (hourly_entries seed ++ daily_entries seed))
unfolding hourly_lines daily_lines
table_says seed =
    subst (λ (bodies : List LineBody). AllZip (IsLineOf UserStyle (codes "make")) (table_lines seed) bodies) (sym (map-append said (hourly_entries seed) (daily_entries seed)))
    (zip_both (IsLineOf UserStyle (codes "make")) (hourly_lines seed 40) (daily_lines seed 160) (map said (hourly_entries seed)) (map said (daily_entries seed))
    (zip_values (IsLineOf UserStyle (codes "make")) (hourly_line seed) (hourly_entry seed) 0 40 (λ k below. hourly_line_says seed k below))
    (zip_values (IsLineOf UserStyle (codes "make")) (daily_line seed) (daily_entry seed) 0 160 (λ k below. daily_line_says seed k below)))

-- values of a function with one bound
sum_values : {X : Type 0} (f : ℕ → X) (most : X → ℕ) (bound from count : ℕ) → ((k : ℕ) → most (f k) ≡ bound) → sum_by most (map f (range_with_len from count)) ≡ bound * count
sum_values f most bound from zero each = omega arith
sum_values f most bound from (suc count) each =
    sum_by-cons most (f from) (map f (range_with_len (from + 1) count)) ∙ both (each from) (sum_values f most bound (from + 1) count each)
  where
    both : {a b : ℕ} → a ≡ bound → b ≡ bound * count → a + b ≡ bound * suc count
    both p q = rw (p, q) (one_more bound count)
      where
        one_more : (n m : ℕ) → n + n * m ≡ n * suc m
        one_more n m = let swap : n + n * m ≡ n * m + n = omega arith in swap ∙ sym (mul-suc n m)

-- the table of the run
pub table_exists : (seed : ℕ) → (table : Table) × IsTableOf (made_run seed) table
table_exists seed =
    let entries : List Entry = hourly_entries seed ++ daily_entries seed in
    let marks : List Mark = MarksZone 5 (codes "UTC") ∷ marks_of 6 1 entries in
    let jobs : List Job = jobs_of marks in
    let hours : length (hourly_entries seed) ≡ 40 = length-map-range_with_len (hourly_entry seed) 0 40 in
    let days : length (daily_entries seed) ≡ 160 = length-map-range_with_len (daily_entry seed) 0 160 in
    let all : length entries ≡ 200 = omega (arith, length-append (hourly_entries seed) (daily_entries seed)) in
    let known = collects (MarksZone 5 (codes "UTC") ∷ []) 6 1 entries opens_table (omega (arith, all)) in
    let many : length jobs ≡ 200 = jobs_length 6 1 entries ∙ all in
    let fields = all_both (λ (e : Entry). AreMadeFields e.0) (hourly_entries seed) (daily_entries seed)
    (all_values (λ (e : Entry). AreMadeFields e.0) (hourly_entry seed) 0 40 (λ k below. hourly_so (draw seed k 60) refl))
    (all_values (λ (e : Entry). AreMadeFields e.0) (daily_entry seed) 0 160 (λ k below. daily_so (draw seed (40 + 2 * k) 60) (draw seed (41 + 2 * k) 24) refl)) in
    let most : sum_by (λ (job : Job). most_due job.kind) jobs ≡ sum_by most_of (hourly_entries seed) + sum_by most_of (daily_entries seed) =
    jobs_most 6 1 entries ∙ sum_by-append most_of (hourly_entries seed) (daily_entries seed) in
    let hourly_most : sum_by most_of (hourly_entries seed) ≡ 240 * 40 = sum_values (hourly_entry seed) most_of 240 0 40 (λ k. refl) in
    let daily_most : sum_by most_of (daily_entries seed) ≡ 10 * 160 = sum_values (daily_entry seed) most_of 10 0 160 (λ k. refl) in
    let sound : IsSound (table_with jobs) = record {
      limits = window_limits;
      grace = omega arith;
      built = All-cons (IsBuiltFor made_window) (utc_over made_window) [] (record { from = refl; until = refl; read = IsReadable-fixed (pos 0) (omega (arith, ints), omega (arith, ints)) }) (All-nil (IsBuiltFor made_window));
      zone_numbers = zones_zero 6 1 entries;
      few = omega (arith, many);
      distinct = subst AreNamesDistinct known.collected.are known.distinct;
      kinds = kinds_made 6 1 entries;
      versions = no_later (table_with jobs);
    } in
    let (count, counted) = version_due_count (table_with jobs) sound 0 (omega arith) in
    let few = count_at_most jobs count (made_jobs 6 1 entries fields) counted in
    let are : AreMarks [] (made_run seed).sections marks =
    (marks, [], record { lines = marks_of 6 1 entries; are = (map said entries, table_says seed, refl); all = refl }, refl, sym (append-nil marks)) in (
      table_of_jobs (made_run seed) jobs,
      is_table_of_one (made_run seed) marks count refl (All-nil _) are known.collected.sound (omega (arith, many)) counted (omega (arith, few, most, hourly_most, daily_most)),
    )
  where
    kinds_made : (line number : ℕ) (others : List Entry) → All (λ (job : Job). IsKindOfName job.name job.kind) (jobs_of (marks_of line number others))
    kinds_made line number [] = All-nil (λ (job : Job). IsKindOfName job.name job.kind)
    kinds_made line number (entry ∷ others) =
        All-cons (λ (job : Job). IsKindOfName job.name job.kind) _ _ (crontab_plain (codes "make") number make_label) (kinds_made (line + 1) (number + 1) others)

    zones_zero : (line number : ℕ) (others : List Entry) → All (λ (job : Job). job.zone < 1) (jobs_of (marks_of line number others))
    zones_zero line number [] = All-nil (λ (job : Job). job.zone < 1)
    zones_zero line number (entry ∷ others) = All-cons (λ (job : Job). job.zone < 1) _ _ (omega arith) (zones_zero (line + 1) (number + 1) others)
