-- How often the jobs of a made run are due.
use Rattle.std.proofs.Common.{◌≡◌, inl, inr, ℕ, zero, suc, ◌+◌, ◌*◌, ◌/◌, ◌%◌, ◌<◌, ◌≤◌, Bool, true, false, List, [], ◌∷◌, length, Option, Some, None, ℤ, pos, ◌<ℤ◌, ◌-ℤ◌, ◌+ℤ◌, refl, ap, ◌∙◌, sym, subst, arith}
use Rattle.std.specs.Prelude.{MatchBool, if◌then◌else◌, Contains, IsSomeAnd, slice_get, sum}
use Rattle.std.specs.List.{AllByRecursion, sum_by}
use Rattle.std.proofs.lemmas.Int.{ints}
use Rattle.std.proofs.lemmas.List.Sums.{sum_by-cons}
use Rattle.jiff.specs.Types.{TimeZone}
use Rattle.jiff_core.proofs.SignedLemmas.{signed_arith}
use Rattle.cron_fields.specs.FieldSet.{Has}
use Rattle.cron_fields.specs.Match.{is_frequent}
use Rattle.cron_fields.specs.declared.field.Fields.{Fields}
use Rattle.cron_fields.proofs.JoinLemmas.{one_bit}
use Rattle.zone_minutes.specs.Civil.{minute_of_day}
use Rattle.zone_minutes.specs.Window.{IsInWindow}
use Rattle.zone_minutes.specs.Zone.{Zone, FixedOffset, IsReadAs, local_of}
use Rattle.zone_minutes.proofs.ZoneLemmas.{local_of-fixed}
use Rattle.due_set.specs.Due.{Matches, IsDue, IsDueOnce, IsRising}
use Rattle.due_set.specs.Table.{Job, Table, IsJobDue, IsShare, utc_over}
use Rattle.due_set.specs.declared.job.JobKind.{JobKind}
use Rattle.due_set.specs.declared.job.JobKind.TheVariants.{Crontab}
use Rattle.due_set.proofs.Rising.{Contains-head, Contains-tail}
use Rattle.job_table.specs.Table.{IsVersionCount}
use Rattle.generated_run.specs.Made.{made_window}
use Rattle.generated_run.proofs.EntryLemmas.{number_set, hourly_fields, daily_fields}

-- the instant is so many steps behind another, from low on and below high
record IsStep (step rest low high : ℕ) (instant : ℤ) : Type 0 where
  steps : ℕ
  is : instant ≡ pos (step * steps + rest)
  least : low ≤ steps
  less : steps < high

-- a rising list of such instants is no longer than there are steps
steps_at_most : (step rest low high : ℕ) (instants : List ℤ) → ((a b : ℕ) → step * a + rest < step * b + rest → a < b) → IsRising instants → AllByRecursion (IsStep step rest low high) instants → low ≤ high → low + length instants ≤ high
steps_at_most step rest low high [] rises rising all ordered = omega arith
steps_at_most step rest low high (instant ∷ instants) rises rising all ordered =
    let here = all.0 in
    let least : low ≤ here.steps = here.least in
    let less : here.steps < high = here.less in
    let others : here.steps + 1 + length instants ≤ high =
    steps_at_most step rest (here.steps + 1) high instants rises rising.1 (later instants rising.0 all.1) (omega arith) in
    omega arith
  where
    later : (others : List ℤ) → AllByRecursion (λ other. instant <ℤ other) others → AllByRecursion (IsStep step rest low high) others
        → AllByRecursion (IsStep step rest (all.0.steps + 1) high) others
    later [] above each = tt
    later (other ∷ others) above each =
        let after : pos (step * all.0.steps + rest) <ℤ pos (step * each.0.steps + rest) = subst (λ (t : ℤ). pos (step * all.0.steps + rest) <ℤ t) each.0.is (subst (λ (t : ℤ). t <ℤ other) all.0.is above.0) in
        let more : all.0.steps < each.0.steps = rises all.0.steps each.0.steps (omega (arith, ints)) in
        (record { steps = each.0.steps; is = each.0.is; least = omega arith; less = each.0.less }, later others above.1 each.1)

each_contained : (P : ℤ → Type 0) (xs : List ℤ) → ((x : ℤ) → Contains xs x → P x) → AllByRecursion P xs
each_contained P [] each = tt
each_contained P (x ∷ xs) each = (each x (Contains-head x xs), each_contained P xs (λ y has. each y (Contains-tail x xs y has)))

-- the minute and the hour of an instant of the window by which the fields match it
matches_minute : (fields : Fields) (instant : ℤ) (m : ℕ) → fields.minute ≡ number_set m → Matches fields instant → minute_of_day instant % 60 ≡ m
matches_minute fields instant m is matches = ((one_bit m).1 (minute_of_day instant % 60)).0 (subst (λ set. Has set (minute_of_day instant % 60)) is matches.time.minute_in)

matches_hour : (fields : Fields) (instant : ℤ) (h : ℕ) → fields.hour ≡ number_set h → Matches fields instant → minute_of_day instant / 60 ≡ h
matches_hour fields instant h is matches = ((one_bit h).1 (minute_of_day instant / 60)).0 (subst (λ set. Has set (minute_of_day instant / 60)) is matches.time.hour_in)

-- an instant of the window as a number
in_window : (instant : ℤ) → IsInWindow made_window instant → (n : ℕ) × (instant ≡ pos n) × (28_487_520 ≤ n) × (n < 28_501_920)
in_window (pos n) inside = let since = inside.since in let before = inside.before in (n, refl, omega (arith, ints), omega (arith, ints))
in_window instant inside = absurd (let since = inside.since in omega (arith, ints))

-- in UTC the clock shows the instant
in_utc : (zone : TimeZone) (instant : ℤ) → IsReadAs (FixedOffset (pos 0)) zone → local_of zone instant ≡ instant
in_utc zone instant read = local_of-fixed (pos 0) instant zone read ∙ no_more instant
  where
    no_more : (t : ℤ) → t +ℤ pos 0 ≡ t
    no_more t = omega (arith, ints)

-- what a fixed offset of none says of a due instant: the fields match it
due_frequent : (fields : Fields) (zone : TimeZone) (instant : ℤ) → is_frequent fields ≡ true → IsReadAs (FixedOffset (pos 0)) zone → IsDue fields zone instant → Matches fields instant
due_frequent fields zone instant frequent read due = subst (Matches fields) (in_utc zone instant read) (subst (λ (b : Bool). MatchBool b (Matches fields (local_of zone instant)) (IsDueOnce fields zone instant)) frequent due)

due_once : (fields : Fields) (zone : TimeZone) (instant : ℤ) → is_frequent fields ≡ false → IsReadAs (FixedOffset (pos 0)) zone → IsDue fields zone instant → Matches fields instant
due_once fields zone instant seldom read due = by (subst (λ (b : Bool). MatchBool b (Matches fields (local_of zone instant)) (IsDueOnce fields zone instant)) seldom due)
  where
    by : IsDueOnce fields zone instant → Matches fields instant
    by (inl (matches, first)) = subst (Matches fields) (in_utc zone instant read) matches
    by (inr (minute, skipped, matches)) =
        let after : (instant -ℤ pos 1) <ℤ minute = subst (λ (t : ℤ). t <ℤ minute) (in_utc zone (instant -ℤ pos 1) read) skipped.after in
        let before : minute <ℤ instant = subst (λ (t : ℤ). minute <ℤ t) (in_utc zone instant read) skipped.before in
        absurd (omega (arith, ints))

-- a job of a made run: of each hour, or of each day
pub data IsMadeJob (job : Job) : Type 0 where
  hourly : (m : ℕ) → job.zone ≡ 0 → job.kind ≡ Crontab (hourly_fields m) → IsMadeJob job
  daily : (m h : ℕ) → job.zone ≡ 0 → job.kind ≡ Crontab (daily_fields m h) → IsMadeJob job

-- how often a job of that kind may be due in ten days
abbrev pub most_due : JobKind → ℕ
most_due (Crontab fields) = if is_frequent fields then 240 else 10
most_due kind = 0

-- a table of these jobs over the ten days
abbrev pub table_with : List Job → Table
table_with jobs = record { window = made_window; grace = 14_400; zones = utc_over made_window ∷ []; jobs = jobs; later = [] }

-- what is due of a job
record IsDueBy (fields : Fields) (instant : ℤ) : Type 0 where
  zone : TimeZone
  read : IsReadAs (FixedOffset (pos 0)) zone
  due : IsDue fields zone instant
  inside : IsInWindow made_window instant

due_by : (jobs : List Job) (number : ℕ) (job : Job) (fields : Fields) (instant : ℤ) → slice_get jobs number ≡ Some job → job.zone ≡ 0 → job.kind ≡ Crontab fields → IsJobDue (table_with jobs) 0 number instant → IsDueBy fields instant
due_by jobs number job fields instant is zone_is kind_is due =
    let same : due.job ≡ job = some_same due.job job (sym due.is_in.is_job ∙ is) in
    let fields_same : due.fields ≡ fields = crontab_same due.fields fields (sym due.kind ∙ ap (λ (j : Job). j.kind) same ∙ kind_is) in
    let source : utc_over made_window ≡ due.is_in.source = zone_same due.is_in.source (subst (λ (n : ℕ). slice_get (utc_over made_window ∷ []) n ≡ Some due.is_in.source) (ap (λ (j : Job). j.zone) same ∙ zone_is) due.is_in.is_zone) in
    record {
      zone = due.zone;
      read = subst (λ (z : Zone). IsReadAs z.source due.zone) (sym source) due.is_in.read;
      due = subst (λ (f : Fields). IsDue f due.zone instant) fields_same due.due;
      inside = due.inside;
    }
  where
    some_same : (a b : Job) → ◌≡◌ {A = Option Job} (Some a) (Some b) → a ≡ b
    some_same a b e = cc

    crontab_same : (a b : Fields) → Crontab a ≡ Crontab b → a ≡ b
    crontab_same a b e = cc

    zone_same : (z : Zone) → ◌≡◌ {A = Option Zone} (Some (utc_over made_window)) (Some z) → utc_over made_window ≡ z
    zone_same z e = cc

of_day : (n : ℕ) → minute_of_day (pos n) ≡ n % 1440
of_day n = omega (arith, signed_arith)

hourly_step : (m : ℕ) (instant : ℤ) → IsDueBy (hourly_fields m) instant → IsStep 60 m 474_792 475_032 instant
hourly_step m instant by =
    let (n, is, since, before) = in_window instant by.inside in
    let minute : n % 1440 % 60 ≡ m = ap (λ (k : ℕ). k % 60) (sym (of_day n)) ∙ ap (λ (t : ℤ). minute_of_day t % 60) (sym is) ∙ matches_minute (hourly_fields m) instant m refl (due_frequent (hourly_fields m) by.zone instant refl by.read by.due) in
    record { steps = n / 60; is = is ∙ ap pos (let whole : n ≡ 60 * (n / 60) + m = omega arith in whole); least = omega arith; less = omega arith }

daily_step : (m h : ℕ) (instant : ℤ) → IsDueBy (daily_fields m h) instant → IsStep 1440 (60 * h + m) 19_783 19_793 instant
daily_step m h instant by =
    let (n, is, since, before) = in_window instant by.inside in
    let matches = due_once (daily_fields m h) by.zone instant refl by.read by.due in
    let minute : n % 1440 % 60 ≡ m = ap (λ (k : ℕ). k % 60) (sym (of_day n)) ∙ ap (λ (t : ℤ). minute_of_day t % 60) (sym is) ∙ matches_minute (daily_fields m h) instant m refl matches in
    let hour : n % 1440 / 60 ≡ h = ap (λ (k : ℕ). k / 60) (sym (of_day n)) ∙ ap (λ (t : ℤ). minute_of_day t / 60) (sym is) ∙ matches_hour (daily_fields m h) instant h refl matches in
    record { steps = n / 1440; is = is ∙ ap pos (let whole : n ≡ 1440 * (n / 1440) + (60 * h + m) = omega arith in whole); least = omega arith; less = omega arith }

-- a job of a made run takes no more of the limit
pub share_at_most : (jobs : List Job) (number share : ℕ) (job : Job) → slice_get jobs number ≡ Some job → IsMadeJob job → IsShare (table_with jobs) 0 number job.kind share → share ≤ most_due job.kind
share_at_most jobs number share job is (hourly m zone_is kind_is) taken =
    let (instants, list, share_is) = subst (λ (k : JobKind). IsShare (table_with jobs) 0 number k share) kind_is taken in
    let each = each_contained (IsStep 60 m 474_792 475_032) instants (λ instant has. hourly_step m instant (due_by jobs number job (hourly_fields m) instant is zone_is kind_is (list.sound instant has))) in
    let most : 474_792 + length instants ≤ 475_032 = steps_at_most 60 m 474_792 475_032 instants (λ a b less. omega arith) list.rising each (omega arith) in
    subst (λ (k : JobKind). share ≤ most_due k) (sym kind_is) (let few : share ≤ 240 = omega (arith, share_is) in few)
share_at_most jobs number share job is (daily m h zone_is kind_is) taken =
    let (instants, list, share_is) = subst (λ (k : JobKind). IsShare (table_with jobs) 0 number k share) kind_is taken in
    let each = each_contained (IsStep 1440 (60 * h + m) 19_783 19_793) instants (λ instant has. daily_step m h instant (due_by jobs number job (daily_fields m h) instant is zone_is kind_is (list.sound instant has))) in
    let most : 19_783 + length instants ≤ 19_793 = steps_at_most 1440 (60 * h + m) 19_783 19_793 instants (λ a b less. omega arith) list.rising each (omega arith) in
    subst (λ (k : JobKind). share ≤ most_due k) (sym kind_is) (let few : share ≤ 10 = omega (arith, share_is) in few)

-- all together take no more than the sum
sum_at_most : (table : Table) (first : ℕ) (jobs : List Job) (shares : List ℕ)
    → ((number share : ℕ) → slice_get shares number ≡ Some share → IsSomeAnd (slice_get jobs number) (λ job. share ≤ most_due job.kind)) → sum shares ≤ sum_by (λ (job : Job). most_due job.kind) jobs
sum_at_most table first jobs [] each = omega arith
sum_at_most table first [] (share ∷ shares) each = absurd (each 0 share refl)
sum_at_most table first (job ∷ jobs) (share ∷ shares) each =
    let here : share ≤ most_due job.kind = each 0 share refl in
    let others : sum shares ≤ sum_by (λ (j : Job). most_due j.kind) jobs = sum_at_most table first jobs shares (λ number other is. each (suc number) other is) in
    omega (arith, here, others, sum_by-cons (λ (n : ℕ). n) share shares, sum_by-cons (λ (j : Job). most_due j.kind) job jobs)

-- how many due instants a table of such jobs has at most
pub count_at_most : (jobs : List Job) (count : ℕ) → AllByRecursion IsMadeJob jobs → IsVersionCount (table_with jobs) 0 count → count ≤ sum_by (λ (job : Job). most_due job.kind) jobs
count_at_most jobs count made counted =
    let most : sum counted.shares ≤ sum_by (λ (job : Job). most_due job.kind) jobs = sum_at_most (table_with jobs) 0 jobs counted.shares (λ number share is. each number share (counted.each number share is)) in
    omega (arith, most, counted.total)
  where
    made_at : (others : List Job) (number : ℕ) (job : Job) → AllByRecursion IsMadeJob others → slice_get others number ≡ Some job → IsMadeJob job
    made_at [] number job all is = absurd (cc)
    made_at (other ∷ others) zero job all is = subst IsMadeJob (cc) all.0
    made_at (other ∷ others) (suc number) job all is = made_at others number job all.1 is

    each : (number share : ℕ) → IsSomeAnd (slice_get jobs number) (λ job. IsShare (table_with jobs) 0 number job.kind share) → IsSomeAnd (slice_get jobs number) (λ job. share ≤ most_due job.kind)
    each number share here = by (slice_get jobs number) refl here
      where
        by : (found : Option Job) → slice_get jobs number ≡ found → IsSomeAnd found (λ job. IsShare (table_with jobs) 0 number job.kind share) → IsSomeAnd found (λ job. share ≤ most_due job.kind)
        by None is here = absurd here
        by (Some job) is here = share_at_most jobs number share job is (made_at jobs number job made is) here
