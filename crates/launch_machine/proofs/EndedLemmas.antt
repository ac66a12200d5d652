-- Whether the rows have ended, row by row.
use Rattle.std.proofs.Common.{◌≡◌, ℕ, suc, ◌+◌, ◌<◌, inl, inr, ◌↔◌, Bool, IsTrue, refl, true, false, List, length, Option, None, Some, ℤ, sym, ap, subst, arith, if◌then◌else◌}
use Rattle.std.specs.Prelude.{IfNone, IfSome, is_some, nat_lt, not, slice_get}
use Rattle.std.proofs.lemmas.Bool.{cases_eq, lt-ltb, ltb-true}
use Rattle.std.proofs.lemmas.Option.{slice_get_within}
use Rattle.paxos_base.specs.Rows.{RowsStand}
use Rattle.paxos_base.specs.declared.rows.JobRow.{JobRow}
use Rattle.due_set.specs.Table.{Table, version_count}
use Rattle.launch_machine.specs.Clerk.{AreEndedBy, IsEndedRow, NoStart, in_force, next_version, table_size}
use Rattle.launch_machine.specs.Intent.{IsFirstStart}
use Rattle.launch_machine.proofs.MachineLemmas.{ends_idle, same_row}

-- the first rows are
abbrev pub AreEndedBelow : Table → List JobRow → ℤ → ℕ → Type 0
AreEndedBelow table rows now count = (job : ℕ) (row : JobRow) → job < count → slice_get rows job ≡ Some row → IsEndedRow table now job row

pub ended_next : (table : Table) (rows : List JobRow) (now : ℤ) (count : ℕ) (row : JobRow) → AreEndedBelow table rows now count → slice_get rows count ≡ Some row
    → IsEndedRow table now count row → AreEndedBelow table rows now (count + 1)
ended_next table rows now count row known is_row is job other below at_row = elim (cases_eq job count) [
  | inr apart ↦ known job other (omega (arith, below, apart)) at_row
  | inl same ↦
      let row_is : row ≡ other = same_row rows count row other is_row (subst (λ (k : ℕ). slice_get rows k ≡ Some other) same at_row) in
      subst (λ (k : ℕ). IsEndedRow table now k other) (sym same) (subst (IsEndedRow table now count) row_is is)
]

-- so are all, since the table's own is closed
pub ended_all : (table : Table) (rows : List JobRow) (now : ℤ) → RowsStand rows (table_size table) → AreEndedBelow table rows now (length table.jobs) → AreEndedBy table rows now
ended_all table rows now stand known job row is = elim (cases_eq job (length table.jobs)) [
  | inr other ↦ known job row (omega (arith, slice_get_within rows job row is, stand.numbered.count, other)) is
  | inl own ↦ record {
    closed = ends_idle rows (table_size table) row stand (subst (λ (k : ℕ). slice_get rows k ≡ Some row) own is);
    passed = λ below. absurd (omega (arith, below, own));
  }
]

-- the version that comes next is the one after that in force, and the table has it
pub next_says : (table : Table) (rows : List JobRow) (version : ℕ) → next_version table rows ≡ Some version
    → (version ≡ suc (in_force table rows).version) × (version < version_count table)
next_says table rows version is = by (nat_lt (suc (in_force table rows).version) (version_count table)) refl is
  where
    by : (has : Bool) → nat_lt (suc (in_force table rows).version) (version_count table) ≡ has
        → (if has then Some (suc (in_force table rows).version) else None) ≡ Some version
        → (version ≡ suc (in_force table rows).version) × (version < version_count table)
    by true has same =
        let number : suc (in_force table rows).version ≡ version = cc in
        (sym number, subst (λ (v : ℕ). v < version_count table) number (ltb-true (suc (in_force table rows).version) (version_count table) has))
    by false has same = absurd cc

-- and none else does
pub next_is : (table : Table) (rows : List JobRow) (version : ℕ) → version ≡ suc (in_force table rows).version → version < version_count table
    → next_version table rows ≡ Some version
next_is table rows version is has =
    let below : suc (in_force table rows).version < version_count table = subst (λ (v : ℕ). v < version_count table) is has in
    rw (lt-ltb (suc (in_force table rows).version) (version_count table) below) (ap Some (sym is))

-- where no first start is found none would take effect, and the other way round
pub none_found : (table : Table) (rows : List JobRow) (now : ℤ) (found : Option (ℕ × ℤ)) (none : Bool) → is_some found ≡ not none
    → IfSome found (λ first. IsFirstStart table rows now first.0 first.1) → IfNone found (NoStart table rows now) → IsTrue none ↔ NoStart table rows now
none_found table rows now None true is first no_start = (λ h. no_start, λ h. refl)
none_found table rows now None false is first no_start = absurd cc
none_found table rows now (Some start) true is first no_start = absurd cc
none_found table rows now (Some start) false is first no_start = (λ h. absurd cc, λ all. absurd (all start.0 start.1 first.takes))
