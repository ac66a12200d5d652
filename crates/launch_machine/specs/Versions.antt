-- When jobs are due while versions of their table are adopted.
use Rattle.std.specs.Prelude.{◌≡◌, ℕ, false, List, Some, ℤ, ◌≤ℤ◌, Contains, count_by, int_lt}
use Rattle.due_set.specs.Due.{IsRising}
use Rattle.due_set.specs.Table.{IsAnacron, IsJobDue, Job, Table, is_by_period, job_of_version}

-- the version in force at an instant, where the next one is adopted at each of these: an adoption counts from the minute after it on
abbrev pub version_at : List ℤ → ℤ → ℕ
version_at adoptions instant = count_by (λ now. int_lt now instant) adoptions

-- the job is due at the instant, by the version that is in force then
abbrev pub IsDueUnder : Table → List ℤ → ℕ → ℤ → Type 0
IsDueUnder table adoptions job instant = IsJobDue table (version_at adoptions instant) job instant

-- The instants are the first of the job's due instants, none left out: they rise, each is due by the version that is in force then,
-- and each due instant that isn't after one of them is among them.
pub record IsFrontUnder (table : Table) (adoptions : List ℤ) (job : ℕ) (instants : List ℤ) : Type 0 where
  pub rising : IsRising instants
  pub sound : (instant : ℤ) → Contains instants instant → IsDueUnder table adoptions job instant
  pub complete : (instant last : ℤ) → Contains instants last → IsDueUnder table adoptions job instant → instant ≤ℤ last → Contains instants instant

-- the job's due instants, in order, by the versions that are in force then
pub record IsListUnder (table : Table) (adoptions : List ℤ) (job : ℕ) (instants : List ℤ) : Type 0 where
  pub rising : IsRising instants
  pub sound : (instant : ℤ) → Contains instants instant → IsDueUnder table adoptions job instant
  pub complete : (instant : ℤ) → IsDueUnder table adoptions job instant → Contains instants instant

-- the job runs by its due instants: its name has no `/`, and no version has it run by a period
pub record RunsByInstants (table : Table) (number : ℕ) : Type 0 where
  pub by_name : is_by_period table number ≡ false
  pub by_kind : (version : ℕ) (job : Job) → job_of_version table version number ≡ Some job → IsAnacron job.kind → ⊥
