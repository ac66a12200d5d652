-- A job's next due instant and its list of due instants are there.
use Rattle.std.proofs.Common.{◌≡◌, ℕ, zero, suc, ◌<◌, List, [], ◌∷◌, ◌++◌, ◌⊎◌, inl, inr, Bool, true, false, Option, None, Some, ℤ, pos, negsuc, ◌+ℤ◌, ◌-ℤ◌, ◌<ℤ◌, ◌≤ℤ◌, refl, sym, ap, ◌∙◌, subst, arith}
use Rattle.std.specs.Prelude.{Contains, MatchBool, slice_get}
use Rattle.std.proofs.lemmas.Bool.{cases_lt}
use Rattle.std.proofs.lemmas.Int.{ints, by_lt_z}
use Rattle.std.proofs.lemmas.List.Elements.{Contains-append_left, Contains-push, Contains-push_cases}
use Rattle.jiff.specs.Types.{TimeZone}
use Rattle.cron_fields.specs.declared.field.Fields.{Fields}
use Rattle.zone_minutes.specs.Window.{IsInWindow}
use Rattle.zone_minutes.specs.Zone.{Zone, IsReadAs, local_of}
use Rattle.zone_minutes.specs.declared.minute.Window.{Window}
use Rattle.zone_minutes.proofs.ZoneLemmas.{local_of-same}
use Rattle.cron_fields.specs.Match.{is_frequent}
use Rattle.due_set.specs.Due.{IsDue, IsDueIn, IsDueOnce, IsFirstShown, IsRising, IsSkipped, Matches}
use Rattle.due_set.specs.Table.{Table, Job, IsAfter, IsBuiltFor, IsJobDue, IsJobDueList, IsNextDue, IsSound, job_of_version}
use Rattle.due_set.specs.declared.job.JobKind.{JobKind}
use Rattle.due_set.specs.declared.job.JobKind.TheVariants.{Crontab, Anacron, Never}
use Rattle.due_set.proofs.DecideLemmas.{IsDecided, IsLeastBelow, decided_both, decided_due, decided_inside, decided_like, decided_lt, least_below}
use Rattle.due_set.proofs.Rising.{Contains-none, IsRising-push}
use Rattle.due_set.proofs.SteadyLemmas.{gap_of}
use Rattle.due_set.proofs.TableLemmas.{All-slice_get, IsCrontabIn, IsJobDue-from, IsJobDue-in, same_job}

-- two zones whose clocks show the same
abbrev ShowSame : TimeZone → TimeZone → Type 0
ShowSame a b = (t : ℤ) → local_of a t ≡ local_of b t

first_like : (a b : TimeZone) (at : ℤ) → ShowSame a b → IsFirstShown a at → IsFirstShown b at
first_like a b at same first earlier since before shown = first earlier since before (same earlier ∙ shown ∙ sym (same at))

skipped_like : (a b : TimeZone) (at minute : ℤ) → ShowSame a b → IsSkipped a at minute → IsSkipped b at minute
skipped_like a b at minute same skipped = record {
  after = subst (λ (t : ℤ). t <ℤ minute) (same (at -ℤ pos 1)) skipped.after;
  before = subst (λ (t : ℤ). minute <ℤ t) (same at) skipped.before;
  short = subst (λ (t : ℤ). (t -ℤ local_of b (at -ℤ pos 1) -ℤ pos 1) <ℤ pos 180) (same at)
      (subst (λ (t : ℤ). (local_of a at -ℤ t -ℤ pos 1) <ℤ pos 180) (same (at -ℤ pos 1)) skipped.short);
}

-- where two zones show the same, an entry that is due in one is due in the other
due_like : (fields : Fields) (a b : TimeZone) (at : ℤ) → ShowSame a b → IsDue fields a at → IsDue fields b at
due_like fields a b at same due = by_kind (is_frequent fields) due
  where
    by_kind : (frequent : Bool) → MatchBool frequent (Matches fields (local_of a at)) (IsDueOnce fields a at)
        → MatchBool frequent (Matches fields (local_of b at)) (IsDueOnce fields b at)
    by_kind true m = subst (Matches fields) (same at) m
    by_kind false (inl (m, first)) = inl (subst (Matches fields) (same at) m, first_like a b at same first)
    by_kind false (inr (minute, skipped, m)) = inr (minute, skipped_like a b at minute same skipped, m)

-- a crontab job of the table whose zone is read
pub record IsDecidable (table : Table) (version number : ℕ) : Type 0 where
  pub job : Job
  pub fields : Fields
  pub source : Zone
  pub is_in : IsCrontabIn table version number job fields source
  pub zone : TimeZone
  pub read : IsReadAs source.source zone

-- at each instant it is due or it isn't
decided_job : (table : Table) (version number : ℕ) → IsDecidable table version number → (at : ℤ) → IsDecided (IsJobDue table version number at)
decided_job table version number known at =
    decided_like (IsInWindow table.window at × IsDue known.fields known.zone at) (IsJobDue table version number at)
    (λ both. IsJobDue-from table version number known.job known.fields known.source at known.is_in both.0 (known.zone, known.read, both.1))
    (λ due. (due.inside, like (IsJobDue-in table version number known.job known.fields known.source at known.is_in due)))
    (decided_both (IsInWindow table.window at) (IsDue known.fields known.zone at) (decided_inside table.window at)
    (decided_due known.fields known.zone at))
  where
    like : IsDueIn known.fields known.source.source at → IsDue known.fields known.zone at
    like (other, read, due) =
        due_like known.fields other known.zone at (λ t. local_of-same known.source.source other known.zone t read known.read) due

-- a job that is due at some instant is one
pub IsDecidable-due : (table : Table) (version number : ℕ) (at : ℤ) → IsJobDue table version number at → IsDecidable table version number
IsDecidable-due table version number at due = record {
  job = due.job;
  fields = due.fields;
  source = due.is_in.source;
  is_in = record { is_job = due.is_in.is_job; kind = due.kind; is_zone = due.is_in.is_zone };
  zone = due.zone;
  read = due.is_in.read;
}

never_due : (table : Table) (version number : ℕ) (job : Job) → job_of_version table version number ≡ Some job → ((fields : Fields) → job.kind ≡ Crontab fields → ⊥)
    → (at : ℤ) → IsJobDue table version number at → ⊥
never_due table version number job is_job other at due =
    other due.fields (sym (ap (λ (j : Job). j.kind) (same_job table version number due.job job due.is_in.is_job is_job)) ∙ due.kind)

-- a job of a sound table is one, or it is never due
pub decidable_or_never : (table : Table) → IsSound table → (version number : ℕ) → IsDecidable table version number ⊎ ((at : ℤ) → IsJobDue table version number at → ⊥)
decidable_or_never table sound version number = by_job (job_of_version table version number) refl
  where
    by_zone : (job : Job) (fields : Fields) (found : Option Zone) → job_of_version table version number ≡ Some job → job.kind ≡ Crontab fields
        → slice_get table.zones job.zone ≡ found → IsDecidable table version number ⊎ ((at : ℤ) → IsJobDue table version number at → ⊥)
    by_zone job fields (Some source) is_job kind is_zone =
        let built = All-slice_get (IsBuiltFor table.window) table.zones job.zone source sound.built is_zone in
        inl (record {
          job = job;
          fields = fields;
          source = source;
          is_in = record { is_job = is_job; kind = kind; is_zone = is_zone };
          zone = built.read.0;
          read = built.read.1;
        })
    by_zone job fields None is_job kind is_zone = inr no_zone
      where
        no_zone : (at : ℤ) → IsJobDue table version number at → ⊥
        no_zone at due =
            let jobs : due.job ≡ job = same_job table version number due.job job due.is_in.is_job is_job in
            let zones : slice_get table.zones due.job.zone ≡ slice_get table.zones job.zone = ap (λ (j : Job). slice_get table.zones j.zone) jobs in
            absurd (cc (zones, is_zone, due.is_in.is_zone))

    by_kind : (job : Job) (kind : JobKind) → job_of_version table version number ≡ Some job → job.kind ≡ kind
        → IsDecidable table version number ⊎ ((at : ℤ) → IsJobDue table version number at → ⊥)
    by_kind job (Crontab fields) is_job kind = by_zone job fields (slice_get table.zones job.zone) is_job kind refl
    by_kind job (Anacron period first last) is_job kind = inr (never_due table version number job is_job (λ fields e. absurd (cc (kind, e))))
    by_kind job Never is_job kind = inr (never_due table version number job is_job (λ fields e. absurd (cc (kind, e))))

    by_job : (found : Option Job) → job_of_version table version number ≡ found → IsDecidable table version number ⊎ ((at : ℤ) → IsJobDue table version number at → ⊥)
    by_job None none = inr (λ at due. absurd (cc (none, due.is_in.is_job)))
    by_job (Some job) is_job = by_kind job job.kind is_job refl

-- a job is due at an instant or it isn't
pub due_or_not : (table : Table) → IsSound table → (version number : ℕ) (at : ℤ) → IsDecided (IsJobDue table version number at)
due_or_not table sound version number at = elim (decidable_or_never table sound version number) [
  | inl known ↦ decided_job table version number known at
  | inr never ↦ inr (never at)
]

after_or_not : (cursor : Option ℤ) (at : ℤ) → IsDecided (IsAfter cursor at)
after_or_not None at = inl tt
after_or_not (Some before) at = decided_lt before at

-- how many minutes a window has: each of its instants is fewer after its first
window_minutes : (window : Window) → (count : ℕ) × ((t : ℤ) → IsInWindow window t → (k : ℕ) × (t ≡ window.from.0 +ℤ pos k) × (k < count))
window_minutes window = by_gap (window.until.0 -ℤ window.from.0) refl
  where
    by_gap : (gap : ℤ) → gap ≡ window.until.0 -ℤ window.from.0
        → (count : ℕ) × ((t : ℤ) → IsInWindow window t → (k : ℕ) × (t ≡ window.from.0 +ℤ pos k) × (k < count))
    by_gap (pos count) e = (count, λ t inside. at_gap count t e inside)
      where
        at_gap : (count : ℕ) (t : ℤ) → pos count ≡ window.until.0 -ℤ window.from.0 → IsInWindow window t
            → (k : ℕ) × (t ≡ window.from.0 +ℤ pos k) × (k < count)
        at_gap count t e inside =
            let gap = gap_of window.from.0 t inside.since in
            let t_is : t ≡ window.from.0 +ℤ pos gap.0 = gap.1 in
            let before : t <ℤ window.until.0 = inside.before in
            (gap.0, t_is, omega (arith, ints))
    by_gap (negsuc count) e = (0, λ t inside. absurd (backward count t e inside.since inside.before))
      where
        backward : (count : ℕ) (t : ℤ) → negsuc count ≡ window.until.0 -ℤ window.from.0 → window.from.0 ≤ℤ t → t <ℤ window.until.0 → ⊥
        backward count t e since before = omega (arith, ints)

-- a minute of the window, counted from its first
abbrev minute_at : Table → ℕ → ℤ
minute_at table k = table.window.from.0 +ℤ pos k

-- the job is due at that minute, and it is later
abbrev IsLaterDue : Table → ℕ → ℕ → Option ℤ → ℕ → Type 0
IsLaterDue table version number cursor k = IsJobDue table version number (minute_at table k) × IsAfter cursor (minute_at table k)

later_at : (table : Table) (version number : ℕ) (cursor : Option ℤ) (k : ℕ) (at : ℤ) → at ≡ minute_at table k → IsJobDue table version number at → IsAfter cursor at
    → IsLaterDue table version number cursor k
later_at table version number cursor k at e due after = (subst (IsJobDue table version number) e due, subst (IsAfter cursor) e after)

-- the least such minute is the next due instant
next_at : (table : Table) (version number : ℕ) (cursor : Option ℤ) (bound least : ℕ) → IsLeastBelow (IsLaterDue table version number cursor) bound least
    → ((t : ℤ) → IsInWindow table.window t → (k : ℕ) × (t ≡ table.window.from.0 +ℤ pos k) × (k < bound)) → IsNextDue table version number cursor (minute_at table least)
next_at table version number cursor bound least found minutes = record {
  due = found.holds.0;
  later = found.holds.1;
  least = λ other due after. not_before other due after (minutes other due.inside);
}
  where
    not_before : (other : ℤ) → IsJobDue table version number other → IsAfter cursor other → (k : ℕ) × (other ≡ minute_at table k) × (k < bound) → minute_at table least ≤ℤ other
    not_before other due after (k, e, lt) = elim (cases_lt k least) [
      | inl below ↦ absurd (found.first k below (later_at table version number cursor k other e due after))
      | inr le ↦ omega (arith, ints)
    ]

-- after an instant the job has a next due one, or none
next_of : (table : Table) (version number : ℕ) → IsDecidable table version number → (cursor : Option ℤ)
    → ((at : ℤ) × IsNextDue table version number cursor at) ⊎ ((at : ℤ) → IsJobDue table version number at → IsAfter cursor at → ⊥)
next_of table version number known cursor =
    let minutes = window_minutes table.window in
    elim (least_below (IsLaterDue table version number cursor) (λ k. decided_both (IsJobDue table version number (minute_at table k)) (IsAfter cursor (minute_at table k))
    (decided_job table version number known (minute_at table k)) (after_or_not cursor (minute_at table k))) minutes.0) [
      | inl (least, found) ↦ inl (minute_at table least, next_at table version number cursor minutes.0 least found minutes.1)
      | inr none ↦ inr (λ at due after. let k = minutes.1 at due.inside in none k.0 k.2 (later_at table version number cursor k.0 at k.1 due after))
    ]

pub next_or_none : (table : Table) → IsSound table → (version number : ℕ) (cursor : Option ℤ)
    → ((at : ℤ) × IsNextDue table version number cursor at) ⊎ ((at : ℤ) → IsJobDue table version number at → IsAfter cursor at → ⊥)
next_or_none table sound version number cursor = elim (decidable_or_never table sound version number) [
  | inl known ↦ next_of table version number known cursor
  | inr never ↦ inr (λ at due after. never at due)
]

-- a due instant after another has a next due one up to it
pub next_up_to : (table : Table) (version number : ℕ) (cursor : Option ℤ) (at : ℤ) → IsJobDue table version number at → IsAfter cursor at
    → (first : ℤ) × IsNextDue table version number cursor first × (first ≤ℤ at)
next_up_to table version number cursor at due after = elim (next_of table version number (IsDecidable-due table version number at due) cursor) [
  | inl (first, next) ↦ (first, next, next.least at due after)
  | inr none ↦ absurd (none at due after)
]

-- the due instants of the first minutes of the window
record DuesBelow (table : Table) (version number count : ℕ) : Type 0 where
  pub instants : List ℤ
  pub rising : IsRising instants
  pub sound : (t : ℤ) → Contains instants t → IsJobDue table version number t
  pub below : (t : ℤ) → Contains instants t → t <ℤ (table.window.from.0 +ℤ pos count)
  pub complete : (t : ℤ) → IsJobDue table version number t → t <ℤ (table.window.from.0 +ℤ pos count) → Contains instants t

-- one more minute, at which the job is due
dues_push : (table : Table) (version number count : ℕ) → DuesBelow table version number count → IsJobDue table version number (table.window.from.0 +ℤ pos count)
    → DuesBelow table version number (suc count)
dues_push table version number count known due = record {
  instants = known.instants ++ last ∷ [];
  rising = IsRising-push known.instants last known.rising known.below;
  sound = λ t h. elim (Contains-push_cases known.instants last t h) [
    | inl had ↦ known.sound t had
    | inr e ↦ subst (IsJobDue table version number) e due
  ];
  below = λ t h. elim (Contains-push_cases known.instants last t h) [
    | inl had ↦ sooner t (known.below t had)
    | inr e ↦ here t e
  ];
  complete = λ t is_due lt. by_lt_z t last
      (λ before. Contains-append_left known.instants (last ∷ []) t (known.complete t is_due before))
      (λ from. subst (Contains (known.instants ++ last ∷ [])) (is_last t lt from) (Contains-push known.instants last));
}
  where
    last : ℤ
    last = table.window.from.0 +ℤ pos count

    sooner : (t : ℤ) → t <ℤ last → t <ℤ (table.window.from.0 +ℤ pos (suc count))
    sooner t lt = omega (arith, ints)

    here : (t : ℤ) → last ≡ t → t <ℤ (table.window.from.0 +ℤ pos (suc count))
    here t e = omega (arith, ints)

    is_last : (t : ℤ) → t <ℤ (table.window.from.0 +ℤ pos (suc count)) → last ≤ℤ t → last ≡ t
    is_last t lt le = omega (arith, ints)

-- one more minute, at which it isn't
dues_stay : (table : Table) (version number count : ℕ) → DuesBelow table version number count → (IsJobDue table version number (table.window.from.0 +ℤ pos count) → ⊥)
    → DuesBelow table version number (suc count)
dues_stay table version number count known not = record {
  instants = known.instants;
  rising = known.rising;
  sound = known.sound;
  below = λ t h. sooner t (known.below t h);
  complete = λ t due lt. by_lt_z t last (λ before. known.complete t due before)
      (λ from. absurd (not (subst (IsJobDue table version number) (is_last t lt from) due)));
}
  where
    last : ℤ
    last = table.window.from.0 +ℤ pos count

    sooner : (t : ℤ) → t <ℤ last → t <ℤ (table.window.from.0 +ℤ pos (suc count))
    sooner t lt = omega (arith, ints)

    is_last : (t : ℤ) → t <ℤ (table.window.from.0 +ℤ pos (suc count)) → last ≤ℤ t → t ≡ last
    is_last t lt le = omega (arith, ints)

dues_below : (table : Table) (version number : ℕ) → IsDecidable table version number → (count : ℕ) → DuesBelow table version number count
dues_below table version number known zero = record {
  instants = [];
  rising = tt;
  sound = λ t h. absurd (Contains-none t h);
  below = λ t h. absurd (Contains-none t h);
  complete = λ t due lt. absurd (none t due.inside.since lt);
}
  where
    none : (t : ℤ) → table.window.from.0 ≤ℤ t → t <ℤ (table.window.from.0 +ℤ pos 0) → ⊥
    none t since lt = omega (arith, ints)
dues_below table version number known (suc count) = elim (decided_job table version number known (table.window.from.0 +ℤ pos count)) [
  | inl due ↦ dues_push table version number count (dues_below table version number known count) due
  | inr not ↦ dues_stay table version number count (dues_below table version number known count) not
]

-- each job has a list of its due instants
pub due_list : (table : Table) → IsSound table → (version number : ℕ) → (instants : List ℤ) × IsJobDueList table version number instants
due_list table sound version number = elim (decidable_or_never table sound version number) [
  | inl known ↦
      let minutes = window_minutes table.window in
      let dues = dues_below table version number known minutes.0 in (
        dues.instants,
        record {
          rising = dues.rising;
          sound = dues.sound;
          complete = λ t due. let k = minutes.1 t due.inside in dues.complete t due (before t k.0 minutes.0 k.1 k.2);
        },
      )
  | inr never ↦ ([], record { rising = tt; sound = λ t h. absurd (Contains-none t h); complete = λ t due. absurd (never t due) })
]
  where
    before : (t : ℤ) (k count : ℕ) → t ≡ table.window.from.0 +ℤ pos k → k < count → t <ℤ (table.window.from.0 +ℤ pos count)
    before t k count e lt = omega (arith, ints)
