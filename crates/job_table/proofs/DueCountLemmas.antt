-- How much a table's jobs take of the limit on due instants, counted one job after the other, and one version after the other.
use Rattle.std.proofs.Common.{◌≡◌, ◌⊎◌, inl, inr, ℕ, zero, suc, ◌+◌, ◌<◌, ◌≤◌, List, [], ◌∷◌, ◌++◌, length, Option, None, Some, refl, ap, ◌∙◌, sym, subst, arith, length-append}
use Rattle.std.specs.Prelude.{IsSomeAnd, slice_get, sum}
use Rattle.std.proofs.lemmas.List.Sums.{sum_by-cons, sum_by-append}
use Rattle.std.proofs.lemmas.Option.{slice_get_cases}
use Rattle.due_set.specs.Table.{Job, Table, IsShare, IsSound, days_counted, job_of_version, jobs_in, version_count}
use Rattle.due_set.specs.declared.job.JobKind.{JobKind}
use Rattle.due_set.specs.declared.job.JobKind.TheVariants.{Crontab, Anacron, Never}
use Rattle.due_set.proofs.ExistLemmas.{due_list}
use Rattle.due_set.proofs.SoundLemmas.{length_of_version}
use Rattle.due_set.proofs.TableLemmas.{IsJobDueList-same}
use Rattle.job_table.specs.Table.{AreShares, IsDueCount, IsVersionCount}

-- the job at the place takes so much of the limit in a version
abbrev IsShareAt : Table → ℕ → ℕ → ℕ → Type 0
IsShareAt table version number share = IsSomeAnd (job_of_version table version number) (λ job. IsShare table version number job.kind share)

-- so many jobs of the table, from the first on, take so much in a version
pub record CountsFirst (table : Table) (version jobs total : ℕ) : Type 0 where
  pub shares : List ℕ
  pub jobs_are : length shares ≡ jobs
  pub each : AreShares table version shares
  pub total_is : total ≡ sum shares

pub CountsFirst-none : (table : Table) (version : ℕ) → CountsFirst table version 0 0
CountsFirst-none table version = record { shares = []; jobs_are = refl; each = λ number share is. cc; total_is = refl }

-- an element of a list with one more at the end
pub slice_get-push : {X : Type 0} (xs : List X) (last x : X) (k : ℕ) → slice_get (xs ++ last ∷ []) k ≡ Some x → (slice_get xs k ≡ Some x) ⊎ ((k ≡ length xs) × (last ≡ x))
slice_get-push [] last x zero is = inr (refl, cc)
slice_get-push [] last x (suc k) is = absurd cc
slice_get-push (y ∷ ys) last x zero is = inl is
slice_get-push (y ∷ ys) last x (suc k) is =
    elim (slice_get-push ys last x k is) [ inl had ↦ inl had | inr both ↦ inr (omega (arith, both.0), both.1) ]

sum_push : (xs : List ℕ) (x : ℕ) → sum (xs ++ x ∷ []) ≡ sum xs + x
sum_push xs x = omega (arith, sum_by-append (λ (n : ℕ). n) xs (x ∷ []), sum_by-cons (λ (n : ℕ). n) x [])

pub CountsFirst-next : (table : Table) (version jobs total share : ℕ) → CountsFirst table version jobs total
    → IsSomeAnd (job_of_version table version jobs) (λ job. IsShare table version jobs job.kind share) → CountsFirst table version (jobs + 1) (total + share)
CountsFirst-next table version jobs total share known here = record {
  shares = known.shares ++ share ∷ [];
  jobs_are = omega (arith, length-append known.shares (share ∷ []), known.jobs_are);
  each = λ number other is. elim (slice_get-push known.shares share other number is) [
    | inl had ↦ known.each number other had
    | inr both ↦ subst (IsShareAt table version number) both.1 (subst (λ (j : ℕ). IsShareAt table version j share) (sym (both.0 ∙ known.jobs_are)) here)
  ];
  total_is = omega (arith, sum_push known.shares share, known.total_is);
}

-- a job has one share
IsShare-same : (table : Table) (version number : ℕ) (kind : JobKind) (a b : ℕ) → IsShare table version number kind a → IsShare table version number kind b → a ≡ b
IsShare-same table version number (Crontab fields) a b (first, listed, is) (second, other, same) =
    is ∙ ap length (IsJobDueList-same table version number first second listed other) ∙ sym same
IsShare-same table version number (Anacron period from until) a b first second = first ∙ sym second
IsShare-same table version number Never a b (first, listed, is) (second, other, same) =
    is ∙ ap length (IsJobDueList-same table version number first second listed other) ∙ sym same

IsShareAt-same : (table : Table) (version number a b : ℕ) → IsShareAt table version number a → IsShareAt table version number b → a ≡ b
IsShareAt-same table version number a b first second = by (job_of_version table version number) first second
  where
    by : (job : Option Job) → IsSomeAnd job (λ j. IsShare table version number j.kind a) → IsSomeAnd job (λ j. IsShare table version number j.kind b) → a ≡ b
    by None first second = absurd first
    by (Some job) first second = IsShare-same table version number job.kind a b first second

-- numbers of which each place has one
abbrev HasOneAt : (ℕ → ℕ → Type 0) → Type 0
HasOneAt P = (place a b : ℕ) → P place a → P place b → a ≡ b

-- the first numbers come to no more than all
sums_le : (P : ℕ → ℕ → Type 0) → HasOneAt P → (first : ℕ) (xs ys : List ℕ) → ((k x : ℕ) → slice_get xs k ≡ Some x → P (first + k) x)
    → ((k x : ℕ) → slice_get ys k ≡ Some x → P (first + k) x) → length xs ≤ length ys → sum xs ≤ sum ys
sums_le P one first [] ys in_xs in_ys short = omega arith
sums_le P one first (x ∷ xs) [] in_xs in_ys short = absurd (omega arith)
sums_le P one first (x ∷ xs) (y ∷ ys) in_xs in_ys short =
    let same : x ≡ y = one (first + 0) x y (in_xs 0 x refl) (in_ys 0 y refl) in
    let moved : (k : ℕ) → first + suc k ≡ first + 1 + k = λ k. omega arith in
    let rest : sum xs ≤ sum ys = sums_le P one (first + 1) xs ys
    (λ k share is. subst (λ (j : ℕ). P j share) (moved k) (in_xs (suc k) share is))
    (λ k share is. subst (λ (j : ℕ). P j share) (moved k) (in_ys (suc k) share is)) (omega arith) in
    omega (arith, rest, same, sum_by-cons (λ (n : ℕ). n) x xs, sum_by-cons (λ (n : ℕ). n) y ys)

first_le : (P : ℕ → ℕ → Type 0) → HasOneAt P → (xs ys : List ℕ) → ((k x : ℕ) → slice_get xs k ≡ Some x → P k x) → ((k x : ℕ) → slice_get ys k ≡ Some x → P k x)
    → length xs ≤ length ys → sum xs ≤ sum ys
first_le P one xs ys in_xs in_ys short =
    let none : (k : ℕ) → k ≡ 0 + k = λ k. omega arith in
    sums_le P one 0 xs ys (λ k x is. subst (λ (j : ℕ). P j x) (none k) (in_xs k x is)) (λ k x is. subst (λ (j : ℕ). P j x) (none k) (in_ys k x is)) short

-- so much has the count of all in a version at least
pub counts_at_least : (table : Table) (version jobs total count : ℕ) → CountsFirst table version jobs total → jobs ≤ length table.jobs → IsVersionCount table version count → total ≤ count
counts_at_least table version jobs total count known some counted =
    let rest : sum known.shares ≤ sum counted.shares =
    first_le (IsShareAt table version) (IsShareAt-same table version) known.shares counted.shares known.each counted.each (omega (arith, known.jobs_are, counted.jobs)) in
    omega (arith, rest, known.total_is, counted.total)

pub CountsFirst-all : (table : Table) (version jobs total : ℕ) → CountsFirst table version jobs total → jobs ≡ length table.jobs → IsVersionCount table version total
CountsFirst-all table version jobs total known all = record { shares = known.shares; jobs = known.jobs_are ∙ all; each = known.each; total = known.total_is }

counts_first : (table : Table) (version count : ℕ) → IsVersionCount table version count → CountsFirst table version (length table.jobs) count
counts_first table version count counted = record { shares = counted.shares; jobs_are = counted.jobs; each = counted.each; total_is = counted.total }

-- a version has one count
IsVersionCount-same : (table : Table) (version a b : ℕ) → IsVersionCount table version a → IsVersionCount table version b → a ≡ b
IsVersionCount-same table version a b first second =
    let le = counts_at_least table version (length table.jobs) a b (counts_first table version a first) (omega arith) second in
    let ge = counts_at_least table version (length table.jobs) b a (counts_first table version b second) (omega arith) first in
    omega (arith, le, ge)

-- ---- versions

-- so many versions of the table, from the first on, take so much in all
pub record CountsVersions (table : Table) (versions total : ℕ) : Type 0 where
  pub counts : List ℕ
  pub versions_are : length counts ≡ versions
  pub each : (version part : ℕ) → slice_get counts version ≡ Some part → IsVersionCount table version part
  pub total_is : total ≡ sum counts

pub CountsVersions-none : (table : Table) → CountsVersions table 0 0
CountsVersions-none table = record { counts = []; versions_are = refl; each = λ version part is. cc; total_is = refl }

pub CountsVersions-next : (table : Table) (versions total part : ℕ) → CountsVersions table versions total → IsVersionCount table versions part
    → CountsVersions table (versions + 1) (total + part)
CountsVersions-next table versions total part known here = record {
  counts = known.counts ++ part ∷ [];
  versions_are = omega (arith, length-append known.counts (part ∷ []), known.versions_are);
  each = λ version other is. elim (slice_get-push known.counts part other version is) [
    | inl had ↦ known.each version other had
    | inr both ↦ subst (IsVersionCount table version) both.1 (subst (λ (v : ℕ). IsVersionCount table v part) (sym (both.0 ∙ known.versions_are)) here)
  ];
  total_is = omega (arith, sum_push known.counts part, known.total_is);
}

pub CountsVersions-all : (table : Table) (versions total : ℕ) → CountsVersions table versions total → versions ≡ version_count table → IsDueCount table total
CountsVersions-all table versions total known all = record { counts = known.counts; versions = known.versions_are ∙ all; each = known.each; total = known.total_is }

-- so much has the count of all versions at least
versions_at_least : (table : Table) (versions total count : ℕ) → CountsVersions table versions total → versions ≤ version_count table → IsDueCount table count → total ≤ count
versions_at_least table versions total count known some counted =
    let rest : sum known.counts ≤ sum counted.counts =
    first_le (IsVersionCount table) (IsVersionCount-same table) known.counts counted.counts known.each counted.each (omega (arith, known.versions_are, counted.versions)) in
    omega (arith, rest, known.total_is, counted.total)

-- a version has its part of the count of all
pub part_of_count : (table : Table) (version total count : ℕ) → CountsVersions table version total → version < version_count table → IsDueCount table count
    → (part : ℕ) × IsVersionCount table version part × (total + part ≤ count)
part_of_count table version total count known within counted = elim (slice_get_cases counted.counts version).1 [
  | inl (part, inside, is, same) ↦
      let here = counted.each version part is in
      (part, here, versions_at_least table (version + 1) (total + part) count (CountsVersions-next table version total part known here) (omega arith) counted)
  | inr past ↦ absurd (omega (arith, past.0, counted.versions))
]

-- a table has one due count
pub one_count : (table : Table) (a b : ℕ) → IsDueCount table a → IsDueCount table b → a ≡ b
one_count table a b first second =
    let versions : (count : ℕ) → IsDueCount table count → CountsVersions table (version_count table) count =
    λ count counted. record { counts = counted.counts; versions_are = counted.versions; each = counted.each; total_is = counted.total } in
    let le = versions_at_least table (version_count table) a b (versions a first) (omega arith) second in
    let ge = versions_at_least table (version_count table) b a (versions b second) (omega arith) first in
    omega (arith, le, ge)

-- ---- each table has a count

share_exists : (table : Table) → IsSound table → (version number : ℕ) (kind : JobKind) → (share : ℕ) × IsShare table version number kind share
share_exists table sound version number (Crontab fields) = let (instants, listed) = due_list table sound version number in (length instants, (instants, listed, refl))
share_exists table sound version number (Anacron period first last) = (days_counted table.window, refl)
share_exists table sound version number Never = let (instants, listed) = due_list table sound version number in (length instants, (instants, listed, refl))

share_at : (table : Table) → IsSound table → (version number : ℕ) → version < version_count table → number < length table.jobs → (share : ℕ) × IsShareAt table version number share
share_at table sound version number inside within = elim (slice_get_cases (jobs_in table version) number).1 [
  | inl (job, below, is, same) ↦
      let (share, taken) = share_exists table sound version number job.kind in
      (share, subst (λ (o : Option Job). IsSomeAnd o (λ j. IsShare table version number j.kind share)) (sym is) taken)
  | inr past ↦ absurd (omega (arith, past.0, length_of_version table version sound inside))
]

counts_exist : (table : Table) → IsSound table → (version jobs : ℕ) → version < version_count table → jobs ≤ length table.jobs → (total : ℕ) × CountsFirst table version jobs total
counts_exist table sound version zero inside within = (0, CountsFirst-none table version)
counts_exist table sound version (suc jobs) inside within =
    let (total, known) = counts_exist table sound version jobs inside (omega arith) in
    let (share, here) = share_at table sound version jobs inside (omega arith) in
    (total + share, subst (λ n. CountsFirst table version n (total + share)) (let e : jobs + 1 ≡ suc jobs = omega arith in e) (CountsFirst-next table version jobs total share known here))

-- each version has a count
pub version_due_count : (table : Table) → IsSound table → (version : ℕ) → version < version_count table → (count : ℕ) × IsVersionCount table version count
version_due_count table sound version inside =
    let (count, first) = counts_exist table sound version (length table.jobs) inside (omega arith) in
    (count, CountsFirst-all table version (length table.jobs) count first refl)

versions_exist : (table : Table) → IsSound table → (versions : ℕ) → versions ≤ version_count table → (total : ℕ) × CountsVersions table versions total
versions_exist table sound zero within = (0, CountsVersions-none table)
versions_exist table sound (suc versions) within =
    let (total, known) = versions_exist table sound versions (omega arith) in
    let (part, here) = version_due_count table sound versions (omega arith) in
    let next : versions + 1 ≡ suc versions = omega arith in
    (total + part, subst (λ n. CountsVersions table n (total + part)) next (CountsVersions-next table versions total part known here))

-- each table has a due count
pub due_count : (table : Table) → IsSound table → (count : ℕ) × IsDueCount table count
due_count table sound =
    let (total, known) = versions_exist table sound (version_count table) (omega arith) in
    (total, CountsVersions-all table (version_count table) total known refl)

-- a table of one version has that one's count
pub count_of_one : (table : Table) (count : ℕ) → table.later ≡ [] → IsVersionCount table 0 count → IsDueCount table count
count_of_one table count none counted =
    let one : 0 + 1 ≡ 1 = omega arith in
    let all : 0 + count ≡ count = omega arith in
    let known = subst (λ n. CountsVersions table n (0 + count)) one (CountsVersions-next table 0 0 count (CountsVersions-none table) counted) in
    CountsVersions-all table 1 count (subst (CountsVersions table 1) all known) (ap (λ l. suc (length l)) (sym none))
