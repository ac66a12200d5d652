-- A machine's rows and what stands beside them, and what a change of one place leaves.
use Rattle.std.proofs.Common.{◌≡◌, ◌≢◌, ℕ, zero, suc, ◌+◌, ◌<◌, ◌≤◌, inl, inr, ◌↔◌, List, [], ◌∷◌, ◌++◌, length, get_or, Option, None, Some, ℤ, ◌≤ℤ◌, Bool, IsTrue, true, false, eqb, leb, ◌&&◌, if◌then◌else◌, true≢false, refl, sym, ap, ◌∙◌, subst, arith, length-append}
use Rattle.std.specs.Prelude.{map, not, is_some, IfNone, IfOk, IfSome, IsSome, Result, Ok, Err, slice_get, slice_set}
use Rattle.std.proofs.Math.ListN.{length-set}
use Rattle.std.proofs.lemmas.Bool.{and_parts, cases_eq, false≢true, leb-true}
use Rattle.std.proofs.lemmas.Int.{ints}
use Rattle.std.proofs.lemmas.List.{get_or-set_other}
use Rattle.std.proofs.lemmas.Option.{slice_get_within, get_or_from_slice_get, slice_get-get_or}
use Rattle.std.specs.List.{range_with_len}
use Rattle.std.proofs.lemmas.List.Elements.{All-map}
use Rattle.paxos_base.specs.Rows.{AreNumbered, RowsStand, is_table_row, OpenHasCursor, OpenHaveCursors, fresh_rows, row_count}
use Rattle.paxos_base.specs.declared.rows.TableSize.{TableSize}
use Rattle.paxos_base.specs.declared.rows.JobRow.{JobRow}
use Rattle.paxos_base.specs.declared.entry.Kind.{Kind}
use Rattle.paxos_base.specs.declared.entry.Kind.TheVariants.{Launch, Void}
use Rattle.jiff.specs.Types.{TimeZone}
use Rattle.due_set.specs.Calls.{HasCome}
use Rattle.due_set.specs.declared.job.JobKind.{JobKind}
use Rattle.due_set.specs.declared.job.JobKind.TheVariants.{Anacron, Crontab, Never}
use Rattle.due_set.specs.Anacron.{IsFirstOpening, IsJobOpen}
use Rattle.due_set.specs.Table.{Job, Table, IsAfter, IsAnacron, IsJobDue, IsJobIn, IsNextDue, IsJobRead, IsRunByPeriod, IsKindOfName, IsSound, is_by_period, is_period_name, job_of_version, name_of, version_count}
use Rattle.due_set.proofs.CountLemmas.{IsNextDue-same}
use Rattle.due_set.proofs.NamedLemmas.{due_says, kind_of_name, named_in_table, opening_says}
use Rattle.due_set.proofs.SoundLemmas.{at_place}
use Rattle.due_set.proofs.OpenLemmas.{opens_on_one_date}
use Rattle.due_set.proofs.TableLemmas.{IsRunByPeriod-kind, same_job}
use Rattle.paxos_base.specs.declared.entry.Entry.TheVariants.{Start}
use Rattle.paxos_base.specs.Rows.{fresh_row}
use Rattle.paxos_base.proofs.RowLemmas.{AreNumbered-fresh_rows, RowsStand-fresh_rows, fresh_there}
use Rattle.launch_machine.specs.Clerk.{Applies, MayStart, TakesStart, TakesEnd, first_force, first_rows, force_of, in_force, later_of, opened_row, closed_row, table_size, NoStart}
use Rattle.launch_machine.specs.declared.force.InForce.{InForce}
use Rattle.launch_machine.specs.Intent.{MayCall, NoCall}
use Rattle.launch_machine.specs.Machine.{AreBeside, IsCallBeside, IsFirstStartOf, IsFirstToStart, IsStartBeside}

-- what is at the place that was set
pub set_here : {X : Type 0} (xs : List X) (i : ℕ) (x y : X) → slice_get (slice_set xs i y) i ≡ Some x → y ≡ x
set_here [] i x y e = cc
set_here (z ∷ zs) zero x y e = cc
set_here (z ∷ zs) (suc i) x y e = set_here zs i x y e

-- what is at any other place
pub set_there : {X : Type 0} (xs : List X) (i k : ℕ) (y : X) → k ≢ i → slice_get (slice_set xs i y) k ≡ slice_get xs k
set_there [] i k y ne = refl
set_there (z ∷ zs) zero zero y ne = absurd (ne refl)
set_there (z ∷ zs) zero (suc k) y ne = refl
set_there (z ∷ zs) (suc i) zero y ne = refl
set_there (z ∷ zs) (suc i) (suc k) y ne = set_there zs i k y (λ e. ne (ap suc e))

pub push_last : {X : Type 0} (xs : List X) (x y : X) → slice_get (xs ++ x ∷ []) (length xs) ≡ Some y → x ≡ y
push_last [] x y e = cc
push_last (z ∷ zs) x y e = push_last zs x y e

pub push_before : {X : Type 0} (xs : List X) (x : X) (k : ℕ) → k ≢ length xs → slice_get (xs ++ x ∷ []) k ≡ slice_get xs k
push_before [] x zero ne = absurd (ne refl)
push_before [] x (suc k) ne = refl
push_before (z ∷ zs) x zero ne = refl
push_before (z ∷ zs) x (suc k) ne = push_before zs x k (λ e. ne (ap suc e))

-- a job's place says its row
pub same_row : (rows : List JobRow) (job : ℕ) (a b : JobRow) → slice_get rows job ≡ Some a → slice_get rows job ≡ Some b → a ≡ b
same_row rows job a b p q = cc

-- what stands beside the first rows
pub record AreBesideBelow (holds : ℕ → JobRow → Option ℤ → Type 0) (rows : List JobRow) (values : List (Option ℤ)) (bound : ℕ) : Type 0 where
  pub count : length values ≡ bound
  pub each : (job : ℕ) (row : JobRow) (value : Option ℤ) → slice_get rows job ≡ Some row → slice_get values job ≡ Some value → holds job row value

pub beside_none : (holds : ℕ → JobRow → Option ℤ → Type 0) (rows : List JobRow) → AreBesideBelow holds rows [] 0
beside_none holds rows = record { count = refl; each = λ job row value is_row e. cc }

-- what holds of a place, a row and a value holds of equal ones
moved : (holds : ℕ → JobRow → Option ℤ → Type 0) (job k : ℕ) (row r : JobRow) (value v : Option ℤ) → job ≡ k → row ≡ r → value ≡ v → holds job row value → holds k r v
moved holds job k row r value v jobs rows values is =
    subst (holds k r) values (subst (λ (a : JobRow). holds k a value) rows (subst (λ (i : ℕ). holds i row value) jobs is))

pub beside_push : (holds : ℕ → JobRow → Option ℤ → Type 0) (rows : List JobRow) (values : List (Option ℤ)) (job : ℕ) (row : JobRow) (value : Option ℤ)
    → AreBesideBelow holds rows values job → slice_get rows job ≡ Some row → holds job row value
    → AreBesideBelow holds rows (values ++ value ∷ []) (job + 1)
beside_push holds rows values job row value known is_row is = record {
  count = omega (arith, length-append values (value ∷ []), known.count);
  each = λ k r v at_row at_value. elim (cases_eq k (length values)) [
    | inl e ↦ here k r v at_row at_value e
    | inr ne ↦ known.each k r v at_row (sym (push_before values value k ne) ∙ at_value)
  ];
}
  where
    here : (k : ℕ) (r : JobRow) (v : Option ℤ) → slice_get rows k ≡ Some r → slice_get (values ++ value ∷ []) k ≡ Some v → k ≡ length values → holds k r v
    here k r v at_row at_value e =
        let job_is : job ≡ k = sym known.count ∙ sym e in
        let value_is : value ≡ v = push_last values value v (subst (λ (i : ℕ). slice_get (values ++ value ∷ []) i ≡ Some v) e at_value) in
        let rows_are : Some row ≡ Some r = sym is_row ∙ ap (slice_get rows) job_is ∙ at_row in
        let row_is : row ≡ r = cc in
        moved holds job k row r value v job_is row_is value_is is

pub beside_all : (holds : ℕ → JobRow → Option ℤ → Type 0) (rows : List JobRow) (values : List (Option ℤ)) (count : ℕ) → AreBesideBelow holds rows values count
    → length rows ≡ count → AreBeside holds rows values
beside_all holds rows values count known e = record { count = known.count ∙ sym e; each = known.each }

-- what stands beside the jobs' rows, and nothing beside the table's own
pub beside_table : (holds : ℕ → JobRow → Option ℤ → Type 0) (rows : List JobRow) (values : List (Option ℤ)) (jobs : ℕ) → AreBesideBelow holds rows values jobs
    → length rows ≡ jobs + 1 → ((row : JobRow) → holds jobs row None) → AreBeside holds rows (values ++ None ∷ [])
beside_table holds rows values jobs known count none =
    let row : JobRow = get_or rows jobs (fresh_row 0) in
    let here : slice_get rows jobs ≡ Some row = slice_get-get_or rows jobs (fresh_row 0) (omega (arith, count)) in
    beside_all holds rows (values ++ None ∷ []) (jobs + 1) (beside_push holds rows values jobs row None known here (none row)) count

-- the values beside the first rows are set anew; beside the last row stands none
pub record AreSetBelow (holds : ℕ → JobRow → Option ℤ → Type 0) (rows : List JobRow) (values : List (Option ℤ)) (bound : ℕ) : Type 0 where
  pub count : length values ≡ length rows
  pub own : (last : ℕ) → length rows ≡ last + 1 → slice_get values last ≡ Some None
  pub each : (job : ℕ) (row : JobRow) (value : Option ℤ) → job < bound → slice_get rows job ≡ Some row → slice_get values job ≡ Some value → holds job row value

pub set_none : (holds : ℕ → JobRow → Option ℤ → Type 0) (rows : List JobRow) (values : List (Option ℤ)) (jobs : ℕ) → length rows ≡ jobs + 1
    → length values ≡ length rows → slice_get values jobs ≡ Some None → AreSetBelow holds rows values 0
set_none holds rows values jobs many count own = record {
  count = count;
  own = λ last is. let same : jobs ≡ last = omega (arith, many, is) in subst (λ (k : ℕ). slice_get values k ≡ Some None) same own;
  each = λ job row value below. absurd (omega (arith, below));
}

-- one more is set
pub set_next : (holds : ℕ → JobRow → Option ℤ → Type 0) (rows : List JobRow) (values : List (Option ℤ)) (job : ℕ) (row : JobRow) (value : Option ℤ)
    → AreSetBelow holds rows values job → job + 1 < length rows → slice_get rows job ≡ Some row → holds job row value
    → AreSetBelow holds rows (slice_set values job value) (job + 1)
set_next holds rows values job row value known within is_row is = record {
  count = length-set values job value ∙ known.count;
  own = λ last many. set_there values job last value (λ same. omega (arith, same, many, within)) ∙ known.own last many;
  each = λ k r v below at_row at_value. elim (cases_eq k job) [
    | inr other ↦ known.each k r v (omega (arith, below, other)) at_row (sym (set_there values job k value other) ∙ at_value)
    | inl same ↦
        let value_is : value ≡ v = set_here values job v value (subst (λ (i : ℕ). slice_get (slice_set values job value) i ≡ Some v) same at_value) in
        let row_is : row ≡ r = same_row rows job row r is_row (subst (λ (i : ℕ). slice_get rows i ≡ Some r) same at_row) in
        moved holds job k row r value v (sym same) row_is value_is is
  ];
}

-- all are
pub set_all : (holds : ℕ → JobRow → Option ℤ → Type 0) (rows : List JobRow) (values : List (Option ℤ)) (jobs : ℕ) → AreSetBelow holds rows values jobs
    → length rows ≡ jobs + 1 → ((row : JobRow) → holds jobs row None) → AreBeside holds rows values
set_all holds rows values jobs known many none = record {
  count = known.count;
  each = λ job row value is_row is_value. elim (cases_eq job jobs) [
    | inr other ↦ known.each job row value (omega (arith, slice_get_within rows job row is_row, many, other)) is_row is_value
    | inl same ↦
        let here : slice_get values job ≡ Some None = subst (λ (k : ℕ). slice_get values k ≡ Some None) (sym same) (known.own jobs many) in
        let value_is : None ≡ value = cc in
        moved holds jobs job row row None value (sym same) refl value_is (none row)
  ];
}

-- the tree that is built is the list of the values
pub beside_built : {E : Type 0} (holds : ℕ → JobRow → Option ℤ → Type 0) (rows : List JobRow) (values : List (Option ℤ)) (result : Result (List (Option ℤ)) E)
    → IfOk result (λ tree. tree ≡ values) → AreBeside holds rows values → IfOk result (λ tree. AreBeside holds rows tree)
beside_built holds rows values (Ok tree) e known = subst (AreBeside holds rows) (sym e) known
beside_built holds rows values (Err fault) e known = tt

-- what holds of a value that may be there, by what is known of it
pub IfSome-map : {X : Type 0} (P Q : X → Type 0) (o : Option X) → IfSome o P → ((x : X) → P x → Q x) → IfSome o Q
IfSome-map P Q None p f = tt
IfSome-map P Q (Some x) p f = f x p

-- a row and the value beside it are changed together
pub beside_set : (holds : ℕ → JobRow → Option ℤ → Type 0) (rows : List JobRow) (values : List (Option ℤ)) (job : ℕ) (new : JobRow) (value : Option ℤ)
    → AreBeside holds rows values → holds job new value → AreBeside holds (slice_set rows job new) (slice_set values job value)
beside_set holds rows values job new value known is = record {
  count = length-set values job value ∙ known.count ∙ sym (length-set rows job new);
  each = λ k row v at_row at_value. elim (cases_eq k job) [
    | inl k_is ↦ here k row v at_row at_value k_is
    | inr ne ↦ known.each k row v (sym (set_there rows job k new ne) ∙ at_row) (sym (set_there values job k value ne) ∙ at_value)
  ];
}
  where
    here : (k : ℕ) (row : JobRow) (v : Option ℤ) → slice_get (slice_set rows job new) k ≡ Some row → slice_get (slice_set values job value) k ≡ Some v → k ≡ job → holds k row v
    here k row v at_row at_value e =
        let row_is : new ≡ row = set_here rows job row new (subst (λ (i : ℕ). slice_get (slice_set rows job new) i ≡ Some row) e at_row) in
        let value_is : value ≡ v = set_here values job v value (subst (λ (i : ℕ). slice_get (slice_set values job value) i ≡ Some v) e at_value) in
        moved holds job k new row value v (sym e) row_is value_is is

-- the value that stands beside a row
pub beside_row : (holds : ℕ → JobRow → Option ℤ → Type 0) (rows : List JobRow) (values : List (Option ℤ)) (job : ℕ) (row : JobRow) → AreBeside holds rows values
    → slice_get rows job ≡ Some row → (value : Option ℤ) × (slice_get values job ≡ Some value) × holds job row value
beside_row holds rows values job row known is_row =
    let lt : job < length values = subst (λ (n : ℕ). job < n) (sym known.count) (slice_get_within rows job row is_row) in
    let found = at_place values job lt in
    (found.0, found.1, known.each job row found.0 is_row found.1)

-- ---- when a job may be started

-- a job that may open runs by its period
pub opens_by_period : (table : Table) (job : ℕ) (last cursor : Option ℤ) (now date : ℤ) → IsJobOpen table 0 job last cursor now date → IsRunByPeriod table job
opens_by_period table job last cursor now date opens = (opens.job, opens.is_in.is_job, subst IsAnacron (sym opens.kind) tt)

-- and one that is due at an instant doesn't
pub due_by_instant : (table : Table) (job : ℕ) (at : ℤ) → IsJobDue table 0 job at → IsRunByPeriod table job → ⊥
due_by_instant table job at due by = subst IsAnacron due.kind (IsRunByPeriod-kind table job due.job due.is_in.is_job by)

-- by the first version one that runs by its period may be started on a date alone
pub may_start_on : (table : Table) (job : ℕ) (row : JobRow) (at now : ℤ) → IsRunByPeriod table job → MayStart table first_force job row at now
    → IsJobOpen table 0 job row.last row.cursor now at
may_start_on table job row at now by (inr opens) = opens
may_start_on table job row at now by (inl (next, come)) = absurd (due_by_instant table job at next.due by)

-- no version lets a job open that is due by it
pub due_or_opens : (table : Table) (version job : ℕ) (last cursor : Option ℤ) (at now date : ℤ) → IsJobDue table version job at
    → IsJobOpen table version job last cursor now date → ⊥
due_or_opens table version job last cursor at now date due opens =
    let same : due.job ≡ opens.job = same_job table version job due.job opens.job due.is_in.is_job opens.is_in.is_job in
    let kinds : Crontab due.fields ≡ Anacron opens.period opens.first_minute opens.last_minute =
    sym due.kind ∙ ap (λ (j : Job). j.kind) same ∙ opens.kind in
    absurd cc

-- a job whose name doesn't say that it runs by a period has no such kind in any version
pub not_anacron : (table : Table) (version job : ℕ) (spec : Job) → IsSound table → is_by_period table job ≡ false → job_of_version table version job ≡ Some spec
    → IsAnacron spec.kind → ⊥
not_anacron table version job spec sound not is_job is =
    let first = named_in_table table version job spec sound is_job in
    let says : is_by_period table job ≡ is_period_name spec.name = ap (λ found. is_period_name (name_of found)) first.1 ∙ ap is_period_name first.2 in
    true≢false (sym (named spec.kind (kind_of_name table version job spec sound is_job) is) ∙ sym says ∙ not)
  where
    named : (kind : JobKind) → IsKindOfName spec.name kind → IsAnacron kind → is_period_name spec.name ≡ true
    named (Anacron period first last) says is = says
    named (Crontab fields) says is = absurd is
    named Never says is = absurd is

-- and its launch has come at its instant
pub come_by_instant : (table : Table) (version job : ℕ) (spec : Job) (zone : TimeZone) (at now : ℤ) → IsSound table → is_by_period table job ≡ false
    → IsJobIn table version job spec zone → HasCome spec.kind zone at now → at ≤ℤ now
come_by_instant table version job spec zone at now sound not is_in come = by spec.kind (not_anacron table version job spec sound not is_in.is_job) come
  where
    by : (kind : JobKind) → (IsAnacron kind → ⊥) → HasCome kind zone at now → at ≤ℤ now
    by (Anacron period first last) none come = absurd (none tt)
    by (Crontab fields) none come = come
    by Never none come = come

-- the instant after which a launch of the row's job is the next
abbrev pub started_after : InForce → JobRow → Option ℤ
started_after force row = later_of row.cursor force.since

-- the first instant at which it may be started is its next due one
pub first_is_next : (table : Table) (force : InForce) (job : ℕ) (row : JobRow) (first : ℤ) → IsNextDue table force.version job (started_after force row) first
    → IsFirstToStart table force job row first
first_is_next table force job row first next = record { at = first; may = inl (next, omega (arith, ints)); least = least }
  where
    least : (other now : ℤ) → MayStart table force job row other now → first ≤ℤ now
    least other now (inl (again, come)) = let le : first ≤ℤ other = next.least other again.due again.later in omega (arith, ints)
    least other now (inr opens) = absurd (due_or_opens table force.version job row.last row.cursor first now other next.due opens)

-- by its name a job is started on a date, or at its next due instant
pub may_start_by : (table : Table) (force : InForce) (job : ℕ) (row : JobRow) (at now : ℤ) → IsSound table → is_by_period table job ≡ true
    → MayStart table force job row at now → IsJobOpen table force.version job row.last row.cursor now at
may_start_by table force job row at now sound by (inr opens) = opens
may_start_by table force job row at now sound by (inl (next, come)) = absurd (true≢false (sym by ∙ due_says table force.version job at sound next.due))

may_start_next : (table : Table) (force : InForce) (job : ℕ) (row : JobRow) (at now : ℤ) → IsSound table → is_by_period table job ≡ false
    → MayStart table force job row at now → IsNextDue table force.version job (started_after force row) at × (at ≤ℤ now)
may_start_next table force job row at now sound not (inl next) = next
may_start_next table force job row at now sound not (inr opens) =
    absurd (true≢false (sym (opening_says table force.version job row.last row.cursor now at sound opens) ∙ not))

-- and where none is left it may not be started
no_next_start : (table : Table) (force : InForce) (job : ℕ) (row : JobRow) → IsSound table → is_by_period table job ≡ false
    → ((t : ℤ) → IsJobDue table force.version job t → IsAfter (started_after force row) t → ⊥) → (at now : ℤ) → MayStart table force job row at now → ⊥
no_next_start table force job row sound not none at now may =
    let next = (may_start_next table force job row at now sound not may).0 in
    none at next.due next.later

-- the first instant at which it may open
pub first_is_opening : (table : Table) (force : InForce) (job : ℕ) (row : JobRow) (first : ℤ) → IsFirstOpening table force.version job row.last row.cursor first
    → IsFirstToStart table force job row first
first_is_opening table force job row first opening = record { at = opening.date; may = inr opening.opens; least = least }
  where
    least : (other now : ℤ) → MayStart table force job row other now → first ≤ℤ now
    least other now (inr opens) = opening.least now other opens
    least other now (inl (next, come)) = absurd (due_or_opens table force.version job row.last row.cursor other first opening.date next.due opening.opens)

no_opening_start : (table : Table) (force : InForce) (job : ℕ) (row : JobRow) → IsSound table → is_by_period table job ≡ true
    → ((now date : ℤ) → IsJobOpen table force.version job row.last row.cursor now date → ⊥) → (at now : ℤ) → MayStart table force job row at now → ⊥
no_opening_start table force job row sound by none at now may = none now at (may_start_by table force job row at now sound by may)

-- what was found is the first instant
pub first_by_due : (table : Table) (force : InForce) (job : ℕ) (row : JobRow) (found : Option ℤ) → IsSound table → is_by_period table job ≡ false
    → IfSome found (IsNextDue table force.version job (started_after force row))
    → IfNone found ((t : ℤ) → IsJobDue table force.version job t → IsAfter (started_after force row) t → ⊥) → IsFirstStartOf table force job row found
first_by_due table force job row (Some first) sound not next none = first_is_next table force job row first next
first_by_due table force job row None sound not next none = no_next_start table force job row sound not none

pub first_by_opening : (table : Table) (force : InForce) (job : ℕ) (row : JobRow) (found : Option ℤ) → IsSound table → is_by_period table job ≡ true
    → IfSome found (IsFirstOpening table force.version job row.last row.cursor)
    → IfNone found ((now date : ℤ) → IsJobOpen table force.version job row.last row.cursor now date → ⊥) → IsFirstStartOf table force job row found
first_by_opening table force job row (Some first) sound by opening none = first_is_opening table force job row first opening
first_by_opening table force job row None sound by opening none = no_opening_start table force job row sound by none

-- at the first instant an entry's launch is that of the instant
pub first_may_start : (table : Table) (force : InForce) (job : ℕ) (row : JobRow) (first now : ℤ) → IsFirstToStart table force job row first → IsSound table
    → is_by_period table job ≡ false → first ≤ℤ now → MayStart table force job row first now
first_may_start table force job row first now is sound not come =
    let next = may_start_next table force job row is.at first sound not is.may in
    let le : first ≤ℤ is.at = is.least is.at is.at (inl (next.0, omega (arith, ints))) in
    let ge : is.at ≤ℤ first = next.1 in
    let same : is.at ≡ first = omega (arith, ints) in
    inl (subst (IsNextDue table force.version job (started_after force row)) same next.0, come)

-- the launch that may be started at an instant is one
pub MayStart-same : (table : Table) (force : InForce) (job : ℕ) (row : JobRow) (a b now : ℤ) → MayStart table force job row a now
    → MayStart table force job row b now → a ≡ b
MayStart-same table force job row a b now (inl p) (inl q) = IsNextDue-same table force.version job (started_after force row) a b p.0 q.0
MayStart-same table force job row a b now (inr p) (inr q) = opens_on_one_date table force.version job row.last row.cursor now a b p q
MayStart-same table force job row a b now (inl p) (inr q) = absurd (due_or_opens table force.version job row.last row.cursor a now b p.0.due q)
MayStart-same table force job row a b now (inr p) (inl q) = absurd (due_or_opens table force.version job row.last row.cursor b now a q.0.due p)

pub TakesStart-same : (table : Table) (rows : List JobRow) (job : ℕ) (a b now : ℤ) → TakesStart table rows job a now → TakesStart table rows job b now → a ≡ b
TakesStart-same table rows job a b now p q =
    let row : q.row ≡ p.row = same_row rows job q.row p.row q.is_row p.is_row in
    MayStart-same table (in_force table rows) job p.row a b now p.may (subst (λ (r : JobRow). MayStart table (in_force table rows) job r b now) row q.may)

-- no launch is the table's own
pub table_starts : (table : Table) (force : InForce) (row : JobRow) → IsStartBeside table force (length table.jobs) row None
table_starts table force row = record { own = λ past. refl; opened = λ since is. refl; idle = λ below is. absurd (omega (arith, below)) }

pub table_calls : (table : Table) (force : InForce) (row : JobRow) → IsCallBeside table force (length table.jobs) row None
table_calls table force row at now since spec zone below inside is_open cursor is_in come = absurd (omega (arith, below))

-- ---- what is in force

-- a row of a job that is put in its place leaves what is in force
pub force_put : (table : Table) (rows : List JobRow) (job : ℕ) (new : JobRow) → job < length table.jobs
    → in_force table (slice_set rows job new) ≡ in_force table rows
force_put table rows job new below =
    let own : ℕ = length table.jobs in
    ap force_of (get_or-set_other rows job own new (fresh_row own) (λ same. omega (arith, same, below)))

-- a table's own row is one of a version up to the last
table_row_known : (last_version : ℕ) (row : JobRow) → is_table_row last_version row ≡ true → row.launched ≤ last_version
table_row_known last_version row is =
    let own : Bool = if eqb row.launched 0 then not (is_some row.cursor) else is_some row.cursor in
    let known : Bool = leb row.launched last_version && own in
    let counts : Bool = eqb row.voided 0 && known in
    let ended = and_parts (not (is_some row.open_now)) (not (is_some row.last) && counts) is in
    let counted = and_parts (not (is_some row.last)) counts ended.1 in
    let last = and_parts (eqb row.voided 0) known counted.1 in
    leb-true row.launched last_version (and_parts (leb row.launched last_version) own last.1).0

-- the table's own row is one of a version that the table has
pub own_known : (table : Table) (rows : List JobRow) (place : ℕ) (d : JobRow) → RowsStand rows (table_size table) → place ≡ length table.jobs
    → (get_or rows place d).launched < version_count table
own_known table rows place d stand is =
    let here : slice_get rows place ≡ Some (get_or rows place d) = slice_get-get_or rows place d (omega (arith, stand.numbered.count, is)) in
    let row_is = subst (λ (k : ℕ). slice_get rows k ≡ Some (get_or rows place d)) is here in
    omega (arith, table_row_known (length table.later) (get_or rows place d) (stand.ends (get_or rows place d) row_is))

-- at first the first version is
pub first_in_force : (table : Table) → in_force table (first_rows table) ≡ first_force
first_in_force table =
    let own : ℕ = length table.jobs in
    let numbered : AreNumbered (first_rows table) (row_count (table_size table)) = AreNumbered-fresh_rows (row_count (table_size table)) in
    let row : JobRow = get_or (first_rows table) own (fresh_row own) in
    let here : slice_get (first_rows table) own ≡ Some row = slice_get-get_or (first_rows table) own (fresh_row own) (omega (arith, numbered.count)) in
    ap force_of (fresh_there (row_count (table_size table)) own row here)

-- the table's own row is closed
pub ends_idle : (rows : List JobRow) (size : TableSize) (row : JobRow) → RowsStand rows size → slice_get rows size.jobs ≡ Some row → row.open_now ≡ None
ends_idle rows size row stand is = idle row.open_now (and_parts _ _ (stand.ends row is)).0
  where
    idle : (open_now : Option ℤ) → not (is_some open_now) ≡ true → open_now ≡ None
    idle None is = refl
    idle (Some since) is = absurd (false≢true is)

-- an open row is that of a job
pub open_within : (table : Table) (rows : List JobRow) (job : ℕ) (at : ℤ) → RowsStand rows (table_size table) → TakesEnd rows job at → job < length table.jobs
open_within table rows job at stand takes = elim (cases_eq job (length table.jobs)) [
  | inl is ↦
      let idle = ends_idle rows (table_size table) takes.row stand (subst (λ (k : ℕ). slice_get rows k ≡ Some takes.row) is takes.is_row) in
      absurd (cc (takes.is_open, idle))
  | inr other ↦ let below = slice_get_within rows job takes.row takes.is_row in omega (arith, below, stand.numbered.count, other)
]

-- a row of the job that is put in its place
pub row_put : (rows : List JobRow) (count job : ℕ) (new : JobRow) → AreNumbered rows count → new.job ≡ job → AreNumbered (slice_set rows job new) count
row_put rows count job new stand number = record {
  count = length-set rows job new ∙ stand.count;
  in_order = λ k row e. elim (cases_eq k job) [
    | inl k_is ↦
        let row_is : new ≡ row = set_here rows job row new (subst (λ (i : ℕ). slice_get (slice_set rows job new) i ≡ Some row) k_is e) in
        ap (λ (r : JobRow). r.job) (sym row_is) ∙ number ∙ sym k_is
    | inr ne ↦ stand.in_order k row (sym (set_there rows job k new ne) ∙ e)
  ];
}

-- a row of a job that is put in its place leaves the rows those of the table
pub rows_put : (table : Table) (rows : List JobRow) (job : ℕ) (new : JobRow) → RowsStand rows (table_size table) → job < length table.jobs → new.job ≡ job
    → RowsStand (slice_set rows job new) (table_size table)
rows_put table rows job new stand below number = record {
  numbered = row_put rows (row_count (table_size table)) job new stand.numbered number;
  ends = λ row is. stand.ends row (sym (set_there rows job (length table.jobs) new (λ same. omega (arith, same, below))) ∙ is);
}

-- a row that a start opens has its job's number
pub row_opened : (rows : List JobRow) (count job : ℕ) (at now : ℤ) (row here d new : JobRow) → AreNumbered rows count → slice_get rows job ≡ Some row → here ≡ get_or rows job d
    → new ≡ opened_row at now here → new.job ≡ job
row_opened rows count job at now row here d new stand is_row here_is new_is =
    let same : here ≡ row = here_is ∙ get_or_from_slice_get rows job row d is_row in
    ap (λ (r : JobRow). r.job) new_is ∙ ap (λ (r : JobRow). r.job) same ∙ stand.in_order job row is_row

-- and so the start has taken effect
pub start_applies : (table : Table) (rows after : List JobRow) (job : ℕ) (at now : ℤ) (here d new : JobRow) → TakesStart table rows job at now → here ≡ get_or rows job d
    → new ≡ opened_row at now here → after ≡ slice_set rows job new → Applies table rows (Start job at now) after
start_applies table rows after job at now here d new takes here_is new_is after_is =
    let same : here ≡ takes.row = here_is ∙ get_or_from_slice_get rows job takes.row d takes.is_row in
    let fresh : get_or rows job (fresh_row job) ≡ takes.row = get_or_from_slice_get rows job takes.row (fresh_row job) takes.is_row in
    inl (takes, after_is ∙ ap (slice_set rows job) (new_is ∙ ap (opened_row at now) (same ∙ sym fresh)))

-- a launch whose instant hasn't come may not be called
pub no_call : (table : Table) (rows : List JobRow) (job : ℕ) (at now : ℤ) (d : JobRow) (result : Bool) → job < length rows → (get_or rows job d).cursor ≡ Some at
    → ((j : Job) (zone : TimeZone) → IsJobIn table (in_force table rows).version job j zone → (IsTrue result ↔ HasCome j.kind zone at now)) → result ≡ false
    → (other : ℤ) → MayCall table rows job other now → ⊥
no_call table rows job at now d result lt cursor tells not other may =
    let at_d : get_or rows job d ≡ may.row = get_or_from_slice_get rows job may.row d may.is_row in
    let cursors : Some other ≡ Some at = sym may.cursor ∙ ap (λ (r : JobRow). r.cursor) (sym at_d) ∙ cursor in
    let at_is : other ≡ at = cc in
    let yes : IsTrue result = (tells may.spec may.zone may.is_in).1 (subst (λ (t : ℤ). HasCome may.spec.kind may.zone t now) at_is may.come) in
    absurd (cc (yes, not))

-- a launch that is open and whose instant has come may be called
pub one_call : (table : Table) (rows : List JobRow) (job : ℕ) (at since now : ℤ) (d : JobRow) (result : Bool) → job < length table.jobs → job < length rows
    → (get_or rows job d).open_now ≡ Some since → (get_or rows job d).cursor ≡ Some at → IsJobRead table (in_force table rows).version job
    → ((j : Job) (zone : TimeZone) → IsJobIn table (in_force table rows).version job j zone → (IsTrue result ↔ HasCome j.kind zone at now)) → result ≡ true
    → MayCall table rows job at now
one_call table rows job at since now d result known lt opened cursor read tells holds = record {
  known = known;
  row = get_or rows job d;
  is_row = slice_get-get_or rows job d lt;
  since = since;
  is_open = opened;
  cursor = cursor;
  spec = read.0;
  zone = read.1;
  is_in = read.2;
  come = (tells read.0 read.1 read.2).0 holds;
}

-- one more place of which a fact holds
pub below_next : (P : ℕ → ℤ → Type 0) (n : ℕ) → ((k : ℕ) (t : ℤ) → k < n → P k t → ⊥) → ((t : ℤ) → P n t → ⊥) → (k : ℕ) (t : ℤ) → k < n + 1 → P k t → ⊥
below_next P n below here k t lt p =
    elim (cases_eq k n) [
      | inl e ↦ here t (subst (λ (i : ℕ). P i t) e p)
      | inr ne ↦ below k t (omega arith) p
    ]

-- a job outside the table has no launch
pub no_call_from : (table : Table) (rows : List JobRow) (now : ℤ) (count : ℕ) → length table.jobs ≤ count
    → ((before : ℕ) (other : ℤ) → before < count → MayCall table rows before other now → ⊥) → NoCall table rows now
no_call_from table rows now count le none job at may = none job at (omega (arith, may.known)) may

pub no_start_from : (table : Table) (rows : List JobRow) (now : ℤ) (count : ℕ) → length table.jobs ≤ count
    → ((before : ℕ) (other : ℤ) → before < count → TakesStart table rows before other now → ⊥) → NoStart table rows now
no_start_from table rows now count le none job at takes = none job at (omega (arith, takes.known)) takes

pub closed_job : (at : ℤ) (kind : Kind) (row : JobRow) → (closed_row at kind row).job ≡ row.job
closed_job at Launch row = refl
closed_job at Void row = refl

pub closed_cursor : (at : ℤ) (kind : Kind) (row : JobRow) → (closed_row at kind row).cursor ≡ row.cursor
closed_cursor at Launch row = refl
closed_cursor at Void row = refl

pub closed_idle : (at : ℤ) (kind : Kind) (row : JobRow) → (closed_row at kind row).open_now ≡ None
closed_idle at Launch row = refl
closed_idle at Void row = refl

pub open_opened : (at now : ℤ) (row new : JobRow) → new ≡ opened_row at now row → OpenHasCursor new
open_opened at now row new new_is some = subst IsSome (sym (ap (λ (r : JobRow). r.cursor) new_is)) there
  where
    there : IsSome (Some at)
    there = refl

pub open_closed : (at : ℤ) (kind : Kind) (row new : JobRow) → new ≡ closed_row at kind row → OpenHasCursor new
open_closed at kind row new new_is some =
    let idle : new.open_now ≡ None = ap (λ (r : JobRow). r.open_now) new_is ∙ closed_idle at kind row in
    let none : IsSome {T = ℤ} None = subst IsSome idle some in
    cc

pub fresh_stand : (rows : List JobRow) (size : TableSize) → rows ≡ fresh_rows (row_count size) → RowsStand rows size
fresh_stand rows size rows_are = subst (λ (r : List JobRow). RowsStand r size) (sym rows_are) (RowsStand-fresh_rows size)

pub fresh_open : (rows : List JobRow) (n : ℕ) → rows ≡ map fresh_row (range_with_len 0 n) → OpenHaveCursors rows
fresh_open rows n rows_are =
    subst OpenHaveCursors (sym rows_are) (All-map OpenHasCursor fresh_row (range_with_len 0 n) (λ k d lt some. some))
