-- What an entry changes in the rows: at most the row of its job, or the table's own.
use Rattle.std.proofs.Common.{◌≡◌, ℕ, zero, suc, inl, inr, List, [], ◌∷◌, length, Some, slice_get, slice_set, sym, ◌∙◌, subst}
use Rattle.paxos_base.specs.declared.entry.Entry.{Entry}
use Rattle.paxos_base.specs.declared.entry.Entry.TheVariants.{Noop, Start, End, Table as TableEntry}
use Rattle.paxos_base.specs.declared.entry.Kind.TheVariants.{Launch, Void}
use Rattle.paxos_base.specs.declared.rows.JobRow.{JobRow}
use Rattle.due_set.specs.Table.{Table}
use Rattle.launch_machine.specs.Clerk.{Applies}
use Rattle.status_board.specs.Change.{row_changed_by}

-- a place that is set has what it was set to
set_same : {X : Type 0} (xs : List X) (k : ℕ) (x y : X) → slice_get (slice_set xs k y) k ≡ Some x → slice_set xs k x ≡ slice_set xs k y
set_same [] k x y at = absurd cc
set_same (z ∷ xs) zero x y at = cc at
set_same (z ∷ xs) (suc k) x y at = cc (set_same xs k x y at)

-- a place that is set to what it has stays
set_kept : {X : Type 0} (xs : List X) (k : ℕ) (x : X) → slice_get xs k ≡ Some x → slice_set xs k x ≡ xs
set_kept [] k x at = absurd cc
set_kept (z ∷ xs) zero x at = cc at
set_kept (z ∷ xs) (suc k) x at = cc (set_kept xs k x at)

-- the new row in its place, where that place was set
set_new : (old new : List JobRow) (own job : ℕ) (row changed : JobRow) → Some own ≡ Some job → new ≡ slice_set old own changed
    → slice_get new job ≡ Some row → slice_set old job row ≡ new
set_new old new own job row changed is done at =
    let same : own ≡ job = cc is in
    let here : new ≡ slice_set old job changed = subst (λ (n : ℕ). new ≡ slice_set old n changed) same done in
    set_same old job row changed (subst (λ (rows : List JobRow). slice_get rows job ≡ Some row) here at) ∙ sym here

pub applied_one : (table : Table) (entry : Entry) (old new : List JobRow) (job : ℕ) (row : JobRow) → row_changed_by table entry ≡ Some job → Applies table old entry new
    → slice_get new job ≡ Some row → slice_set old job row ≡ new
applied_one table Noop old new job row is done at = absurd cc
applied_one table (TableEntry version now) old new job row is (inl done) at = set_new old new (length table.jobs) job row _ is done.1 at
applied_one table (Start own when now) old new job row is (inl done) at = set_new old new own job row _ is done.1 at
applied_one table (End own when Launch) old new job row is (inl done) at = set_new old new own job row _ is done.1 at
applied_one table (End own when Void) old new job row is (inl done) at = set_new old new own job row _ is done.1 at
applied_one table entry old new job row is (inr done) at =
    set_kept old job row (subst (λ (rows : List JobRow). slice_get rows job ≡ Some row) done.1 at) ∙ sym done.1
