-- Whether a version is adopted is decided, in a sound table.
use Rattle.std.proofs.Common.{◌≡◌, ℕ, zero, suc, ◌+◌, ◌<◌, ◌≤ℤ◌, ◌⊎◌, inl, inr, false, true≢false, List, [], ◌∷◌, length, Option, None, Some, ℤ, refl, sym, ap, ◌∙◌, subst, arith}
use Rattle.std.specs.Prelude.{slice_get}
use Rattle.std.proofs.lemmas.Bool.{cases_Bool, cases_eq, cases_lt}
use Rattle.std.proofs.lemmas.Int.{ints}
use Rattle.paxos_base.specs.declared.rows.JobRow.{JobRow}
use Rattle.due_set.specs.Anacron.{IsJobOpen}
use Rattle.due_set.specs.Table.{Table, IsNextDue, IsSound, is_by_period, version_count, version_from}
use Rattle.due_set.proofs.DecideLemmas.{IsDecided, decided_both, decided_le, decided_like}
use Rattle.due_set.proofs.ExistLemmas.{next_or_none}
use Rattle.due_set.proofs.OpenLemmas.{open_or_not}
use Rattle.launch_machine.specs.Clerk.{AreEndedBy, IsBy, IsEndedRow, MayStart, NoStart, TakesStart, TakesTable, in_force, later_of}
use Rattle.launch_machine.specs.declared.force.InForce.{InForce}
use Rattle.launch_machine.proofs.MachineLemmas.{same_row}

-- ---- whether some launch may be started

-- there is a launch of the row's job that may be started then, or there is none
abbrev SomeLaunch : Table → InForce → ℕ → JobRow → ℤ → Type 0
SomeLaunch table force job row now = ((at : ℤ) × MayStart table force job row at now) ⊎ ((at : ℤ) → MayStart table force job row at now → ⊥)

-- a launch of a date may be, where none of a due instant may
on_a_date : (table : Table) → IsSound table → (force : InForce) (job : ℕ) (row : JobRow) (now : ℤ)
    → ((at : ℤ) → IsNextDue table force.version job (later_of row.cursor force.since) at → at ≤ℤ now → ⊥) → SomeLaunch table force job row now
on_a_date table sound force job row now none = elim (open_or_not table force.version job row.last row.cursor now sound) [
  | inl (date, opens) ↦ inl (date, inr opens)
  | inr never ↦ inr (neither never)
]
  where
    neither : ((at : ℤ) → IsJobOpen table force.version job row.last row.cursor now at → ⊥) → (at : ℤ) → MayStart table force job row at now → ⊥
    neither never at (inl (next, come)) = none at next come
    neither never at (inr opens) = never at opens

some_launch : (table : Table) → IsSound table → (force : InForce) (job : ℕ) (row : JobRow) (now : ℤ) → SomeLaunch table force job row now
some_launch table sound force job row now = elim (next_or_none table sound force.version job (later_of row.cursor force.since)) [
  | inl (first, next) ↦ elim (decided_le first now) [
    | inl come ↦ inl (first, inl (next, come))
    | inr late ↦ on_a_date table sound force job row now (λ at other come. late (sooner first at next other come))
  ]
  | inr never ↦ on_a_date table sound force job row now (λ at other come. never at other.due other.later)
]
  where
    sooner : (first at : ℤ) → IsNextDue table force.version job (later_of row.cursor force.since) first
        → IsNextDue table force.version job (later_of row.cursor force.since) at → at ≤ℤ now → first ≤ℤ now
    sooner first at next other come = let le : first ≤ℤ at = next.least at other.due other.later in omega (arith, ints)

-- a start of the job takes effect then, or none does
abbrev SomeStart : Table → List JobRow → ℕ → ℤ → Type 0
SomeStart table rows job now = ((at : ℤ) × TakesStart table rows job at now) ⊎ ((at : ℤ) → TakesStart table rows job at now → ⊥)

some_start : (table : Table) → IsSound table → (rows : List JobRow) (job : ℕ) (now : ℤ) → job < length table.jobs → SomeStart table rows job now
some_start table sound rows job now below = by_row (slice_get rows job) refl
  where
    by_open : (row : JobRow) → slice_get rows job ≡ Some row → (open_now : Option ℤ) → row.open_now ≡ open_now → SomeStart table rows job now
    by_open row is_row (Some since) is_open =
        inr (λ at takes. cc (ap (λ (r : JobRow). r.open_now) (same_row rows job takes.row row takes.is_row is_row), takes.idle, is_open))
    by_open row is_row None idle = elim (some_launch table sound (in_force table rows) job row now) [
      | inl (at, may) ↦ inl (at, record { known = below; row = row; is_row = is_row; idle = idle; may = may })
      | inr none ↦ inr (λ at takes.
          none at (subst (λ (r : JobRow). MayStart table (in_force table rows) job r at now) (same_row rows job takes.row row takes.is_row is_row) takes.may))
    ]

    by_row : (found : Option JobRow) → slice_get rows job ≡ found → SomeStart table rows job now
    by_row None none = inr (λ at takes. cc (takes.is_row, none))
    by_row (Some row) is_row = by_open row is_row row.open_now refl

-- of the first jobs
none_below : (table : Table) → IsSound table → (rows : List JobRow) (now : ℤ) (count : ℕ) → count < length table.jobs + 1
    → ((job : ℕ) × (at : ℤ) × TakesStart table rows job at now) ⊎ ((job : ℕ) (at : ℤ) → job < count → TakesStart table rows job at now → ⊥)
none_below table sound rows now zero within = inr (λ job at below takes. omega (arith, below))
none_below table sound rows now (suc count) within = elim (none_below table sound rows now count (omega arith)) [
  | inl found ↦ inl found
  | inr none ↦ elim (some_start table sound rows count now (omega arith)) [
    | inl (at, takes) ↦ inl (count, at, takes)
    | inr never ↦ inr (λ job at below takes. elim (cases_eq job count) [
      | inl same ↦ never at (subst (λ (k : ℕ). TakesStart table rows k at now) same takes)
      | inr other ↦ none job at (omega (arith, below, other)) takes
    ])
  ]
]

decided_no_start : (table : Table) → IsSound table → (rows : List JobRow) (now : ℤ) → IsDecided (NoStart table rows now)
decided_no_start table sound rows now = elim (none_below table sound rows now (length table.jobs) (omega arith)) [
  | inl (job, at, takes) ↦ inr (λ none. none job at takes)
  | inr none ↦ inl (λ job at takes. none job at takes.known takes)
]

-- ---- the rows

-- what is decided of each row is decided of all
decided_rows : (P : ℕ → JobRow → Type 0) → ((k : ℕ) (row : JobRow) → IsDecided (P k row)) → (rows : List JobRow)
    → IsDecided ((k : ℕ) (row : JobRow) → slice_get rows k ≡ Some row → P k row)
decided_rows P each [] = inl (λ k row is. cc)
decided_rows P each (first ∷ rows) = elim (each 0 first) [
  | inr not ↦ inr (λ all. not (all 0 first refl))
  | inl here ↦ elim (decided_rows (λ k. P (suc k)) (λ k. each (suc k)) rows) [
    | inr not ↦ inr (λ all. not (λ k row is. all (suc k) row is))
    | inl rest ↦ inl (by here rest)
  ]
]
  where
    by : P 0 first → ((k : ℕ) (row : JobRow) → slice_get rows k ≡ Some row → P (suc k) row) → (k : ℕ) (row : JobRow) → slice_get (first ∷ rows) k ≡ Some row → P k row
    by here rest zero row is = let same : first ≡ row = cc in subst (P 0) same here
    by here rest (suc k) row is = rest k row is

decided_by : (now : ℤ) (instant : Option ℤ) → IsDecided (IsBy now instant)
decided_by now None = inl tt
decided_by now (Some instant) = decided_le instant now

decided_closed : (open_now : Option ℤ) → IsDecided (open_now ≡ None)
decided_closed None = inl refl
decided_closed (Some since) = inr (λ is. cc)

decided_passed : (table : Table) (now : ℤ) (job : ℕ) (row : JobRow) → IsDecided (job < length table.jobs → is_by_period table job ≡ false → IsBy now row.cursor)
decided_passed table now job row = elim (cases_lt job (length table.jobs)) [
  | inr past ↦ inl (λ below. absurd (omega (arith, below, past)))
  | inl below ↦ elim (cases_Bool (is_by_period table job)) [
    | inl period ↦ inl (λ known not. absurd (true≢false (sym period ∙ not)))
    | inr plain ↦ elim (decided_by now row.cursor) [ inl by ↦ inl (λ known name. by) | inr late ↦ inr (λ all. late (all below plain)) ]
  ]
]

decided_ended : (table : Table) (rows : List JobRow) (now : ℤ) → IsDecided (AreEndedBy table rows now)
decided_ended table rows now =
    decided_rows (IsEndedRow table now) (λ job row.
    decided_like _ (IsEndedRow table now job row) (λ both. record { closed = both.0; passed = both.1 }) (λ ended. (ended.closed, ended.passed))
    (decided_both _ _ (decided_closed row.open_now) (decided_passed table now job row))) rows

-- ---- the adoption

decided_number : (a b : ℕ) → IsDecided (a ≡ b)
decided_number a b = elim (cases_eq a b) [ inl same ↦ inl same | inr other ↦ inr other ]

decided_below : (a b : ℕ) → IsDecided (a < b)
decided_below a b = elim (cases_lt a b) [ inl lt ↦ inl lt | inr ge ↦ inr (λ lt. omega (arith, lt, ge)) ]

pub takes_table_or_not : (table : Table) → IsSound table → (rows : List JobRow) (version : ℕ) (now : ℤ) → IsDecided (TakesTable table rows version now)
takes_table_or_not table sound rows version now =
    decided_like _ (TakesTable table rows version now)
    (λ all. record { own = all.0; next = all.1.0; known = all.1.1.0; come = all.1.1.1.0; since = all.1.1.1.1.0; ended = all.1.1.1.1.1.0; no_start = all.1.1.1.1.1.1 })
    (λ takes. (takes.own, (takes.next, (takes.known, (takes.come, (takes.since, (takes.ended, takes.no_start)))))))
    (decided_both _ _ (decided_below (length table.jobs) (length rows))
    (decided_both _ _ (decided_number version (suc (in_force table rows).version))
    (decided_both _ _ (decided_below version (version_count table))
    (decided_both _ _ (decided_le (version_from table version) now)
    (decided_both _ _ (decided_by now (in_force table rows).since)
    (decided_both _ _ (decided_ended table rows now) (decided_no_start table sound rows now)))))))
