-- What follows from what holds of each table.
use Rattle.std.proofs.Common.{◌≡◌, ℕ, zero, suc, ◌<◌, length, map, List, [], Option, None, Some, ℤ, pos, ◌+ℤ◌, ◌≤ℤ◌, inl, inr, ◌↔◌, get_or, refl, sym, ap, ◌∙◌, subst, arith}
use Rattle.std.specs.Prelude.{slice_get, AllPairs}
use Rattle.std.proofs.lemmas.Bool.{cases_lt}
use Rattle.std.proofs.lemmas.List.{length-map}
use Rattle.std.proofs.lemmas.Option.{slice_get_cases, slice_get_within, get_or_from_slice_get}
use Rattle.jiff.specs.Types.{TimeZone}
use Rattle.due_set.specs.Calls.{HasCome, IsOnTime}
use Rattle.due_set.specs.Table.{IsAnacron, IsBuiltFor, IsJobIn, IsJobRead, IsSound, IsVersionOf, AreKindsOfNames, AreVersionsOf, AreZonesBelow, Job, Table, Version, job_of_version, jobs_in, jobs_of_later, own_name, version_count, version_from}
use Rattle.due_set.specs.declared.job.JobKind.{JobKind}
use Rattle.due_set.specs.declared.job.JobKind.TheVariants.{Crontab, Anacron, Never}
use Rattle.due_set.proofs.TableLemmas.{All-slice_get}

-- a name says one job at most
pub one_job_of_name : (table : Table) (a b : ℕ) (first second : Job) → IsSound table → slice_get table.jobs a ≡ Some first
    → slice_get table.jobs b ≡ Some second → first.name ≡ second.name → a ≡ b
one_job_of_name table a b first second sound is_first is_second same =
    elim (cases_lt a b) [
      | inl lt ↦ absurd (sound.distinct a b first lt (slice_get_within table.jobs b second is_second) (names first))
      | inr ge ↦ elim (cases_lt b a) [
        | inl lt ↦ absurd (sound.distinct b a first lt (slice_get_within table.jobs a first is_first) (sym (names first)))
        | inr le ↦ omega arith
      ]
    ]
  where
    names : (d : Job) → (get_or table.jobs a d).name ≡ (get_or table.jobs b d).name
    names d =
        let at_a : get_or table.jobs a d ≡ first = get_or_from_slice_get table.jobs a first d is_first in
        let at_b : get_or table.jobs b d ≡ second = get_or_from_slice_get table.jobs b second d is_second in
        ap (λ (job : Job). job.name) at_a ∙ same ∙ sym (ap (λ (job : Job). job.name) at_b)

come_of_kind : (kind : JobKind) (zone : TimeZone) (at now : ℤ) → (IsAnacron kind → ⊥) → (HasCome kind zone at now ↔ (at ≤ℤ now))
come_of_kind (Crontab fields) zone at now plain = (λ h. h, λ h. h)
come_of_kind (Anacron period first last) zone at now plain = absurd (plain tt)
come_of_kind Never zone at now plain = (λ h. h, λ h. h)

on_time_of_kind : (kind : JobKind) (zone : TimeZone) (grace : ℕ) (at now : ℤ) → (IsAnacron kind → ⊥)
    → (IsOnTime kind zone grace at now ↔ (now ≤ℤ (at +ℤ pos grace)))
on_time_of_kind (Crontab fields) zone grace at now plain = (λ h. h, λ h. h)
on_time_of_kind (Anacron period first last) zone grace at now plain = absurd (plain tt)
on_time_of_kind Never zone grace at now plain = (λ h. h, λ h. h)

pub comes_at_instant : (table : Table) (version number : ℕ) (job : Job) (zone : TimeZone) (at now : ℤ) → IsJobIn table version number job zone → (IsAnacron job.kind → ⊥)
    → (HasCome job.kind zone at now ↔ (at ≤ℤ now))
comes_at_instant table version number job zone at now is_in plain = come_of_kind job.kind zone at now plain

pub on_time_in_grace : (table : Table) (version number : ℕ) (job : Job) (zone : TimeZone) (at now : ℤ) → IsJobIn table version number job zone → (IsAnacron job.kind → ⊥)
    → (IsOnTime job.kind zone table.grace at now ↔ (now ≤ℤ (at +ℤ pos table.grace)))
on_time_in_grace table version number job zone at now is_in plain = on_time_of_kind job.kind zone table.grace at now plain

-- what stands at a place of a list
pub at_place : {X : Type 0} (xs : List X) (i : ℕ) → i < length xs → (x : X) × (slice_get xs i ≡ Some x)
at_place xs i lt = elim ((slice_get_cases xs i).1) [ inl is ↦ (is.0, is.2) | inr past ↦ absurd (omega (arith, past.0)) ]

-- each version has the table's jobs, in their places and under their names, with zones of the table
pub record HasJobsOf (table : Table) (jobs : List Job) : Type 0 where
  pub names : map own_name jobs ≡ map own_name table.jobs
  pub zone_numbers : AreZonesBelow (length table.zones) jobs
  pub kinds : AreKindsOfNames jobs

pub jobs_of_version : (table : Table) (version : ℕ) → IsSound table → version < version_count table → HasJobsOf table (jobs_in table version)
jobs_of_version table zero sound lt = record { names = refl; zone_numbers = sound.zone_numbers; kinds = sound.kinds }
jobs_of_version table (suc place) sound lt =
    let found = at_place table.later place (omega arith) in
    let is : IsVersionOf table found.0 = All-slice_get (IsVersionOf table) table.later place found.0 sound.versions.each found.1 in
    rw found.1 (record { names = is.names; zone_numbers = is.zone_numbers; kinds = is.kinds })

pub length_of_version : (table : Table) (version : ℕ) → IsSound table → version < version_count table → length (jobs_in table version) ≡ length table.jobs
length_of_version table version sound lt =
    let names = (jobs_of_version table version sound lt).names in
    sym (length-map (jobs_in table version) own_name) ∙ ap length names ∙ length-map table.jobs own_name

-- a table of one version
pub no_later : (table : Table) → AreVersionsOf table []
no_later table = record {
  few = omega arith;
  each = λ k d lt. absurd (omega (arith, lt));
  in_order = λ i j d rises within. absurd (omega (arith, within));
}

-- what stands at two places of a list of which each element is so to each later one
pub of_places : {X : Type 0} (R : X → X → Type 0) (xs : List X) (i j : ℕ) (x y : X) → AllPairs R xs → i < j → slice_get xs i ≡ Some x
    → slice_get xs j ≡ Some y → R x y
of_places R xs i j x y all rises is_x is_y =
    subst (λ z. R z y) (get_or_from_slice_get xs i x x is_x)
    (subst (R (get_or xs i x)) (get_or_from_slice_get xs j y x is_y) (all i j x rises (slice_get_within xs j y is_y)))

-- what holds of a version after the first
pub version_is : (table : Table) (place : ℕ) (version : Version) → IsSound table → slice_get table.later place ≡ Some version → IsVersionOf table version
version_is table place version sound is = All-slice_get (IsVersionOf table) table.later place version sound.versions.each is

pub count_of_later : (table : Table) (place : ℕ) (version : Version) → IsSound table → slice_get table.later place ≡ Some version
    → length version.jobs ≡ length table.jobs
count_of_later table place version sound is =
    sym (length-map version.jobs own_name) ∙ ap length (version_is table place version sound is).names ∙ length-map table.jobs own_name

pub zone_is_read : (table : Table) (version number : ℕ) → IsSound table → version < version_count table → number < length table.jobs → IsJobRead table version number
zone_is_read table version number sound known lt =
    let jobs = jobs_in table version in
    let has = jobs_of_version table version sound known in
    let count = length_of_version table version sound known in
    let job = at_place jobs number (omega (arith, count)) in
    let below : job.0.zone < length table.zones =
    All-slice_get (λ j. j.zone < length table.zones) jobs number job.0 has.zone_numbers job.1 in
    let source = at_place table.zones job.0.zone below in
    let built : IsBuiltFor table.window source.0 = All-slice_get (IsBuiltFor table.window) table.zones job.0.zone source.0 sound.built source.1 in
    (job.0, built.read.0, record { is_job = job.1; source = source.0; is_zone = source.1; read = built.read.1 })

-- a job that a version has is the table's by its name
pub has_version : (table : Table) (version number : ℕ) (job : Job) → IsSound table → job_of_version table version number ≡ Some job → version < version_count table
has_version table zero number job sound is_job = omega arith
has_version table (suc place) number job sound is_job = by (slice_get table.later place) refl
  where
    by : (found : Option Version) → slice_get table.later place ≡ found → suc place < version_count table
    by None none = absurd (no_job (subst (λ (v : Option Version). slice_get (jobs_of_later v) number ≡ Some job) none is_job))
      where
        nothing : List Job
        nothing = []

        no_job : slice_get nothing number ≡ Some job → ⊥
        no_job e = let lt : number < length nothing = slice_get_within nothing number job e in omega (arith, lt)
    by (Some version) is = let lt = slice_get_within table.later place version is in omega (arith, lt)

-- a version comes no sooner than those before it
pub comes_in_order : (table : Table) (earlier later : ℕ) → IsSound table → earlier < later → later < version_count table
    → version_from table earlier ≤ℤ version_from table later
comes_in_order table earlier zero sound rises within = absurd (omega arith)
comes_in_order table zero (suc place) sound rises within =
    let found = at_place table.later place (omega arith) in
    rw found.1 ((version_is table place found.0 sound found.1).inside.since)
comes_in_order table (suc before) (suc place) sound rises within =
    let first = at_place table.later before (omega arith) in
    let second = at_place table.later place (omega arith) in
    rw (first.1, second.1) (of_places (λ a b. a.from ≤ℤ b.from) table.later before place first.0 second.0 sound.versions.in_order (omega arith) first.1 second.1)
