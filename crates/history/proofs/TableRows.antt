-- The rows of the clerk fit the table, and a table without jobs asks for nothing.
use Rattle.std.proofs.Common.{◌≡◌, ℕ, ◌<◌, Some, List, length, ℤ, true, refl, sym, ◌∙◌, subst, arith, inl, inr}
use Rattle.std.specs.List.{Contains, slice_get}
use Rattle.std.proofs.lemmas.Bool.{cases_eq, eq-eqb, ne_eqb}
use Rattle.paxos_base.specs.Rows.{RowsStand, fits_table}
use Rattle.paxos_base.specs.declared.rows.JobRow.{JobRow}
use Rattle.due_set.specs.Table.{Table}
use Rattle.launch_machine.specs.Answers.{IsIntent}
use Rattle.launch_machine.specs.Clerk.{table_size}
use Rattle.launch_machine.specs.declared.machine.Intent.TheVariants.{Rest}
use Rattle.history.proofs.Launched.{place_of}

-- a row that stands there fits the table
fits_there : (table : Table) (rows : List JobRow) (k : ℕ) (row : JobRow) → RowsStand rows (table_size table) → slice_get rows k ≡ Some row → fits_table (table_size table) row ≡ true
fits_there table rows k row stand is = elim (cases_eq row.job (length table.jobs)) [
  | inl same ↦
      let at : k ≡ length table.jobs = sym (stand.numbered.in_order k row is) ∙ same in
      let own = stand.ends row (subst (λ (i : ℕ). slice_get rows i ≡ Some row) at is) in
      rw (eq-eqb row.job (length table.jobs) same) own
  | inr other ↦ rw (ne_eqb row.job (length table.jobs) other) refl
]

-- and so does each of them
pub rows_fit : (table : Table) (rows : List JobRow) → RowsStand rows (table_size table) → (row : JobRow) → Contains rows row → fits_table (table_size table) row ≡ true
rows_fit table rows stand row has =
    let at = place_of rows row has in
    fits_there table rows at.0 row stand at.1

-- a table without jobs and with one version asks for nothing
pub rests_without_jobs : (table : Table) (rows : List JobRow) (now : ℤ) → length table.jobs ≡ 0 → length table.later ≡ 0 → IsIntent table rows now Rest
rests_without_jobs table rows now none one = (
  (λ job at may. none_there job may.known),
  (λ job at takes. none_there job takes.known),
  (λ version takes. absurd (omega (arith, takes.known, takes.next, one))),
)
  where
    none_there : (job : ℕ) → job < length table.jobs → ⊥
    none_there job below = omega (arith, below, none)
