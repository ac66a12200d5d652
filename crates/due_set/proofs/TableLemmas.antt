-- The jobs of a table, and when they are due.
use Rattle.std.proofs.Common.{◌≡◌, ℕ, ◌+◌, ◌<◌, List, length, map, get_or, Option, None, Some, ℤ, pos, negsuc, ◌-ℤ◌, ◌<ℤ◌, ◌≤ℤ◌, ◌⊎◌, inl, inr, Bool, IsTrue, ◌↔◌, refl, sym, ap, ◌∙◌, subst, arith}
use Rattle.std.specs.Prelude.{All, slice_get, IfSome, IfNone}
use Rattle.std.proofs.lemmas.Bool.{cases_lt}
use Rattle.std.proofs.lemmas.Int.{ints}
use Rattle.std.proofs.lemmas.List.{length-map, get_or-map}
use Rattle.std.proofs.lemmas.Option.{slice_get_within, get_or_from_slice_get}
use Rattle.cron_fields.specs.declared.field.Fields.{Fields}
use Rattle.zone_minutes.specs.Window.{IsInWindow}
use Rattle.zone_minutes.specs.Zone.{Zone, Source, IsReadAs}
use Rattle.zone_minutes.specs.declared.minute.Minute.{Minute}
use Rattle.zone_minutes.specs.declared.minute.Window.{Window}
use Rattle.due_set.specs.Due.{IsDue, IsDueIn, IsFirstDue, IsNotDueIn}
use Rattle.due_set.specs.Table.{IsJobDueList, Job, Table, job_of, AreZonesBelow, IsAfter, IsAnacron, IsJobDue, IsNextDue, IsRunByPeriod, job_of_version}
use Rattle.due_set.specs.declared.job.JobKind.TheVariants.{Crontab}
use Rattle.due_set.specs.declared.job.JobSpec.{JobSpec}
use Rattle.due_set.proofs.Rising.{IsRising-same}

pub All-slice_get : {X : Type 0} (P : X → Type 0) (xs : List X) (i : ℕ) (x : X) → All P xs → slice_get xs i ≡ Some x → P x
All-slice_get P xs i x all e = subst P (get_or_from_slice_get xs i x x e) (all i x (slice_get_within xs i x e))

pub spec_zone_below : (count : ℕ) (specs : List JobSpec) (k : ℕ) (spec : JobSpec) → k < length specs → spec ≡ get_or specs k spec
    → AreZonesBelow count (map job_of specs) → spec.zone < count
spec_zone_below count specs k spec lt is below =
    let lt_map : k < length (map job_of specs) = rw length-map lt in
    let at : (get_or (map job_of specs) k (job_of spec)).zone < count = below k (job_of spec) lt_map in
    let same : get_or (map job_of specs) k (job_of spec) ≡ job_of spec = get_or-map job_of specs k spec (job_of spec) lt ∙ ap job_of (sym is) in
    let P : Job → Type 0 = λ job. job.zone < count in
    subst P same at

-- a crontab job of the table, and the source of its zone
pub record IsCrontabIn (table : Table) (version number : ℕ) (job : Job) (fields : Fields) (source : Zone) : Type 0 where
  pub is_job : job_of_version table version number ≡ Some job
  pub kind : job.kind ≡ Crontab fields
  pub is_zone : slice_get table.zones job.zone ≡ Some source

pub IsJobDue-from : (table : Table) (version number : ℕ) (job : Job) (fields : Fields) (source : Zone) (t : ℤ) → IsCrontabIn table version number job fields source
    → IsInWindow table.window t → IsDueIn fields source.source t → IsJobDue table version number t
IsJobDue-from table version number job fields source t known inside (zone, read, due) = record {
  job = job;
  zone = zone;
  is_in = record { is_job = known.is_job; source = source; is_zone = known.is_zone; read = read };
  fields = fields;
  kind = known.kind;
  inside = inside;
  due = due;
}

-- a job's number says the job
pub same_job : (table : Table) (version number : ℕ) (a b : Job) → job_of_version table version number ≡ Some a → job_of_version table version number ≡ Some b → a ≡ b
same_job table version number a b p q = cc

-- whether a job runs by its period is said by its kind
pub IsRunByPeriod-kind : (table : Table) (number : ℕ) (job : Job) → slice_get table.jobs number ≡ Some job → IsRunByPeriod table number → IsAnacron job.kind
IsRunByPeriod-kind table number job is_job (other, is_other, is) = subst (λ (j : Job). IsAnacron j.kind) (same_job table 0 number other job is_other is_job) is

pub IsJobDue-in : (table : Table) (version number : ℕ) (job : Job) (fields : Fields) (source : Zone) (t : ℤ) → IsCrontabIn table version number job fields source
    → IsJobDue table version number t → IsDueIn fields source.source t
IsJobDue-in table version number job fields source t known due =
    let jobs : due.job ≡ job = same_job table version number due.job job due.is_in.is_job known.is_job in
    let kinds : Crontab due.fields ≡ Crontab fields = sym due.kind ∙ ap (λ (j : Job). j.kind) jobs ∙ known.kind in
    let fields_are : due.fields ≡ fields = cc in
    let zones : slice_get table.zones due.job.zone ≡ slice_get table.zones job.zone = ap (λ (j : Job). slice_get table.zones j.zone) jobs in
    let sources : Some due.is_in.source ≡ Some source = sym due.is_in.is_zone ∙ zones ∙ known.is_zone in
    let source_is : due.is_in.source ≡ source = cc in
    let read : IsReadAs source.source due.zone = subst (λ (s : Zone). IsReadAs s.source due.zone) source_is due.is_in.read in
    (due.zone, read, subst (λ (f : Fields). IsDue f due.zone t) fields_are due.due)

pub IsJobDue-iff : (table : Table) (version number : ℕ) (job : Job) (fields : Fields) (source : Zone) (t : ℤ) (result : Bool) → IsCrontabIn table version number job fields source
    → IsInWindow table.window t → (IsTrue result ↔ IsDueIn fields source.source t) → (IsTrue result ↔ IsJobDue table version number t)
IsJobDue-iff table version number job fields source t result known inside tells = (
  λ e. IsJobDue-from table version number job fields source t known inside (tells.0 e),
  λ due. tells.1 (IsJobDue-in table version number job fields source t known due),
)

pub cases_ltℤ : (a b : ℤ) → (a <ℤ b) ⊎ (b ≤ℤ a)
cases_ltℤ a b = by_gap (a -ℤ b) refl
  where
    by_gap : (gap : ℤ) → gap ≡ a -ℤ b → (a <ℤ b) ⊎ (b ≤ℤ a)
    by_gap (pos k) e = inr (omega (arith, ints))
    by_gap (negsuc k) e = inl (omega (arith, ints))

pub IsNextDue-from : (table : Table) (version number : ℕ) (job : Job) (fields : Fields) (source : Zone) (before : Option ℤ) (first t : ℤ)
    → IsCrontabIn table version number job fields source → table.window.from.0 ≤ℤ first
    → ((u : ℤ) → IsInWindow table.window u → (IsAfter before u ↔ first ≤ℤ u))
    → IsFirstDue fields source.source first t → t <ℤ table.window.until.0 → IsNextDue table version number before t
IsNextDue-from table version number job fields source before first t known since tells found lt =
    let inside : IsInWindow table.window t = record { since = ≤ℤ-trans' found.since; before = lt } in
    record {
      due = IsJobDue-from table version number job fields source t known inside found.due;
      later = (tells t inside).1 found.since;
      least = λ u due after. from_not u (found.none_before u ((tells u due.inside).0 after)) (IsJobDue-in table version number job fields source u known due);
    }
  where
    ≤ℤ-trans' : first ≤ℤ t → table.window.from.0 ≤ℤ t
    ≤ℤ-trans' le = omega (arith, ints)

    from_not : (u : ℤ) → (u <ℤ t → IsDueIn fields source.source u → ⊥) → IsDueIn fields source.source u → t ≤ℤ u
    from_not u none due = elim (cases_ltℤ u t) [ inl lt ↦ absurd (none lt due) | inr le ↦ le ]

pub none_next : (table : Table) (version number : ℕ) (job : Job) (fields : Fields) (source : Zone) (before : Option ℤ) (first t : ℤ)
    → IsCrontabIn table version number job fields source → ((u : ℤ) → IsInWindow table.window u → (IsAfter before u ↔ first ≤ℤ u))
    → IsNotDueIn fields source.source first table.window.until.0 → IsJobDue table version number t → IsAfter before t → ⊥
none_next table version number job fields source before first t known tells none due after =
    none t ((tells t due.inside).0 after) due.inside.before (IsJobDue-in table version number job fields source t known due)

-- below one more, or the last
pub split_at : (t : ℤ) (n : ℕ) → t <ℤ pos (n + 1) → (t <ℤ pos n) ⊎ (t ≡ pos n)
split_at (negsuc k) n lt = inl (omega (arith, ints))
split_at (pos k) n lt =
    elim (cases_lt k n) [
      | inl below ↦ inl (omega (arith, ints))
      | inr from ↦ let same : k ≡ n = omega (arith, ints) in inr (ap pos same)
    ]

pub IsNotDueIn-next : (fields : Fields) (source : Source) (first at : ℤ) (n : ℕ) → IsNotDueIn fields source first (pos n) → at ≡ pos n
    → (IsDueIn fields source at → ⊥) → IsNotDueIn fields source first (pos (n + 1))
IsNotDueIn-next fields source first at n known at_is none t since lt due =
    elim (split_at t n lt) [
      | inl below ↦ known t since below due
      | inr same ↦ none (subst (IsDueIn fields source) (same ∙ sym at_is) due)
    ]

-- two facts of a value that may be there give a third
pub IfSome-both : {X : Type 0} (P Q R : X → Type 0) (o : Option X) → IfSome o P → IfSome o Q → ((x : X) → P x → Q x → R x) → IfSome o R
IfSome-both P Q R None p q f = tt
IfSome-both P Q R (Some x) p q f = f x p q

-- what holds of no value implies what follows from it
pub IfNone-map : {X : Type 0} (P Q : Type 0) (o : Option X) → IfNone o P → (P → Q) → IfNone o Q
IfNone-map P Q None p f = f p
IfNone-map P Q (Some x) p f = tt

-- what the search of the window found is the job's next due instant
pub next_found : (table : Table) (version number : ℕ) (job : Job) (fields : Fields) (source : Zone) (window : Window) (before : Option ℤ) (first : ℤ) (result : Option Minute)
    → IsCrontabIn table version number job fields source → window ≡ table.window → window.from.0 ≤ℤ first
    → ((u : ℤ) → IsInWindow window u → (IsAfter before u ↔ first ≤ℤ u))
    → IfSome result (λ t. IsFirstDue fields source.source first t.0) → IfSome result (λ t. t.0 <ℤ window.until.0)
    → IfSome result (λ t. IsNextDue table version number before t.0)
next_found table version number job fields source window before first result known window_is since tells found lt =
    IfSome-both (λ t. IsFirstDue fields source.source first t.0) (λ t. t.0 <ℤ window.until.0) (λ t. IsNextDue table version number before t.0) result found lt
    (λ t found_at lt_at. IsNextDue-from table version number job fields source before first t.0 known
    (subst (λ (w : Window). w.from.0 ≤ℤ first) window_is since)
    (subst (λ (w : Window). (u : ℤ) → IsInWindow w u → (IsAfter before u ↔ first ≤ℤ u)) window_is tells)
    found_at (subst (λ (w : Window). t.0 <ℤ w.until.0) window_is lt_at))

-- where the search of the window found nothing, no later instant is due
pub nothing_next : (table : Table) (version number : ℕ) (job : Job) (fields : Fields) (source : Zone) (window : Window) (before : Option ℤ) (first : ℤ) (result : Option Minute)
    → IsCrontabIn table version number job fields source → window ≡ table.window
    → ((u : ℤ) → IsInWindow window u → (IsAfter before u ↔ first ≤ℤ u))
    → IfNone result (IsNotDueIn fields source.source first window.until.0)
    → IfNone result ((t : ℤ) → IsJobDue table version number t → IsAfter before t → ⊥)
nothing_next table version number job fields source window before first result known window_is tells none =
    IfNone-map (IsNotDueIn fields source.source first window.until.0) ((t : ℤ) → IsJobDue table version number t → IsAfter before t → ⊥) result none
    (λ not t. none_next table version number job fields source before first t known
    (subst (λ (w : Window). (u : ℤ) → IsInWindow w u → (IsAfter before u ↔ first ≤ℤ u)) window_is tells)
    (subst (λ (w : Window). IsNotDueIn fields source.source first w.until.0) window_is not))

-- a job has one list of due instants
pub IsJobDueList-same : (table : Table) (version number : ℕ) (a b : List ℤ) → IsJobDueList table version number a → IsJobDueList table version number b → a ≡ b
IsJobDueList-same table version number a b p q =
    IsRising-same a b p.rising q.rising (λ t. (λ h. q.complete t (p.sound t h), λ h. p.complete t (q.sound t h)))
