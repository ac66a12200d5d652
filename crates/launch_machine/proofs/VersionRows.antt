-- The rows of the clerk stay those of the table. Where no version is adopted no entry changes the table's own: so the first version stays
-- in force.
use Rattle.std.proofs.Common.{◌≡◌, ◌≢◌, ℕ, suc, ◌≤◌, eqb, inl, inr, Option, None, Some, List, [], ◌∷◌, length, get_or, slice_set, ℤ, true, false, leb, refl, sym, ap, ◌∙◌, subst, arith}
use Rattle.std.specs.List.{AllByRecursion, slice_get}
use Rattle.std.specs.Prelude.{⊤, is_some, not, unwrap_or}
use Rattle.std.proofs.lemmas.List.{get_or-set_same}
use Rattle.std.proofs.Math.ListN.{length-set}
use Rattle.std.proofs.lemmas.Bool.{and_from, and_parts, cases_eq, le-leb, ne_eqb}
use Rattle.std.proofs.lemmas.Option.{get_or_from_slice_get, slice_get-get_or, unwrap_or-slice_get}
use Rattle.paxos_base.specs.Rows.{AreNumbered, RowsStand, fresh_row, is_table_row, row_count}
use Rattle.paxos_base.specs.declared.entry.Entry.{Entry}
use Rattle.paxos_base.specs.declared.entry.Entry.TheVariants.{Noop, Start, End, Table as TableEntry}
use Rattle.paxos_base.specs.declared.entry.Kind.{Kind}
use Rattle.paxos_base.specs.declared.rows.JobRow.{JobRow}
use Rattle.paxos_base.proofs.RowLemmas.{AreNumbered-fresh_rows, fresh_there}
use Rattle.due_set.specs.Table.{IsJobIn, Table}
use Rattle.launch_machine.specs.Clerk.{Applies, AppliesAll, MayStart, TakesEnd, TakesStart, TakesTable, adopted_row, closed_row, first_force, first_rows, force_of, in_force, opened_row, table_size, with_row}
use Rattle.launch_machine.specs.Intent.{MayCall}
use Rattle.launch_machine.specs.Machine.{AreBeside, AreNextStarts, IsStartBeside, StandsFor}
use Rattle.launch_machine.specs.declared.force.InForce.{InForce}
use Rattle.launch_machine.proofs.MachineLemmas.{beside_row, closed_job, force_put, fresh_stand, open_within, row_opened, row_put, rows_put, same_row, set_here, set_there}

-- the rows are those of the table, and the table's own is as at first
pub record HasFirstVersion (table : Table) (rows : List JobRow) : Type 0 where
  pub numbered : AreNumbered rows (row_count (table_size table))
  pub fresh : slice_get rows (length table.jobs) ≡ Some (fresh_row (length table.jobs))

-- the table's row at first is of a version of it
pub first_row_fits : (last_version job : ℕ) → is_table_row last_version (fresh_row job) ≡ true
first_row_fits last_version job = and_from (leb 0 last_version) true (le-leb 0 last_version (omega arith)) refl

-- and so they stand for it
pub first_version_stands : (table : Table) (rows : List JobRow) → HasFirstVersion table rows → RowsStand rows (table_size table)
first_version_stands table rows version = record {
  numbered = version.numbered;
  ends = λ row is.
      let row_is : fresh_row (length table.jobs) ≡ row = same_row rows (length table.jobs) (fresh_row (length table.jobs)) row version.fresh is in
      subst (λ (r : JobRow). is_table_row (length table.later) r ≡ true) row_is (first_row_fits (length table.later) (length table.jobs));
}

-- ---- entries

-- the entry adopts no version
abbrev pub IsPlain : Entry → Type 0
IsPlain (TableEntry version now) = ⊥
IsPlain entry = ⊤

-- none of the entries does
abbrev pub ArePlain : List Entry → Type 0
ArePlain entries = AllByRecursion IsPlain entries

-- a row of a job, put in its place
put_job : (table : Table) (rows : List JobRow) (job : ℕ) (new : JobRow) → HasFirstVersion table rows → job ≢ length table.jobs → new.job ≡ job → HasFirstVersion table (slice_set rows job new)
put_job table rows job new version other number = record {
  numbered = row_put rows (row_count (table_size table)) job new version.numbered number;
  fresh = set_there rows job (length table.jobs) new (λ same. other (sym same)) ∙ version.fresh;
}

-- no start is of the table's own row
start_other : (table : Table) (rows : List JobRow) (job : ℕ) (at now : ℤ) → TakesStart table rows job at now → job ≢ length table.jobs
start_other table rows job at now takes same = absurd (omega (arith, same, takes.known))

-- and no end, since that row is closed
end_other : (table : Table) (rows : List JobRow) (job : ℕ) (at : ℤ) → HasFirstVersion table rows → TakesEnd rows job at → job ≢ length table.jobs
end_other table rows job at version takes same =
    let here : slice_get rows (length table.jobs) ≡ Some takes.row = subst (λ (k : ℕ). slice_get rows k ≡ Some takes.row) same takes.is_row in
    let row_is : fresh_row (length table.jobs) ≡ takes.row = same_row rows (length table.jobs) (fresh_row (length table.jobs)) takes.row version.fresh here in
    let shut : None ≡ Some takes.since = ap (λ (r : JobRow). r.open_now) row_is ∙ takes.is_open in
    absurd cc

pub Applies-first_version : (table : Table) (rows : List JobRow) (entry : Entry) (middle : List JobRow) → IsPlain entry → HasFirstVersion table rows → Applies table rows entry middle → HasFirstVersion table middle
Applies-first_version table rows Noop middle plain version (inl (takes, is)) = absurd takes
Applies-first_version table rows (TableEntry number now) middle plain version (inl (takes, is)) = absurd plain
Applies-first_version table rows (Start job at now) middle plain version (inl (takes, is)) =
    let here : JobRow = get_or rows job (fresh_row job) in
    let number : (opened_row at now here).job ≡ job =
    row_opened rows (row_count (table_size table)) job at now takes.row here (fresh_row job) (opened_row at now here) version.numbered takes.is_row refl refl in
    rw is (put_job table rows job (opened_row at now here) version (start_other table rows job at now takes) number)
Applies-first_version table rows (End job at kind) middle plain version (inl (takes, is)) =
    let here : JobRow = get_or rows job (fresh_row job) in
    let same : here ≡ takes.row = get_or_from_slice_get rows job takes.row (fresh_row job) takes.is_row in
    let number : (closed_row at kind here).job ≡ job = closed_job at kind here ∙ ap (λ (r : JobRow). r.job) same ∙ version.numbered.in_order job takes.row takes.is_row in
    rw is (put_job table rows job (closed_row at kind here) version (end_other table rows job at version takes) number)
Applies-first_version table rows entry middle plain version (inr (none, is)) = rw is version

pub AppliesAll-first_version : (table : Table) (rows : List JobRow) (entries : List Entry) (last : List JobRow) → ArePlain entries → HasFirstVersion table rows
    → AppliesAll table rows entries last → HasFirstVersion table last
AppliesAll-first_version table rows [] last plain version is = rw is version
AppliesAll-first_version table rows (entry ∷ entries) last plain version (middle, applies, rest) =
    AppliesAll-first_version table middle entries last plain.1 (Applies-first_version table rows entry middle plain.0 version applies) rest

pub first_rows_version : (table : Table) → HasFirstVersion table (first_rows table)
first_rows_version table =
    let numbered : AreNumbered (first_rows table) (row_count (table_size table)) = AreNumbered-fresh_rows (row_count (table_size table)) in
    let row : JobRow = get_or (first_rows table) (length table.jobs) (fresh_row 0) in
    let here : slice_get (first_rows table) (length table.jobs) ≡ Some row = slice_get-get_or (first_rows table) (length table.jobs) (fresh_row 0) (omega (arith, numbered.count)) in
    let fresh : row ≡ fresh_row (length table.jobs) = fresh_there (row_count (table_size table)) (length table.jobs) row here in
    record { numbered = numbered; fresh = here ∙ ap Some fresh }

-- the rows of the clerk, where no version is adopted
pub clerk_first_version : (table : Table) (entries : List Entry) (rows : List JobRow) → ArePlain entries → AppliesAll table (first_rows table) entries rows
    → HasFirstVersion table rows
clerk_first_version table entries rows plain applied = AppliesAll-first_version table (first_rows table) entries rows plain (first_rows_version table) applied

-- ---- what is in force

-- so the first version is in force
pub first_version_force : (table : Table) (rows : List JobRow) → HasFirstVersion table rows → in_force table rows ≡ first_force
first_version_force table rows version =
    let own : ℕ = length table.jobs in
    ap force_of (get_or_from_slice_get rows own (fresh_row own) (fresh_row own) version.fresh)

-- and a start that takes effect may be started by it
pub first_may : (table : Table) (rows : List JobRow) (job : ℕ) (at now : ℤ) → HasFirstVersion table rows → (takes : TakesStart table rows job at now)
    → MayStart table first_force job takes.row at now
first_may table rows job at now version takes =
    subst (λ (force : InForce). MayStart table force job takes.row at now) (first_version_force table rows version) takes.may

-- and a launch that may be called is one of its jobs
pub first_is_in : (table : Table) (rows : List JobRow) (job : ℕ) (at now : ℤ) → HasFirstVersion table rows → (may : MayCall table rows job at now)
    → IsJobIn table 0 job may.spec may.zone
first_is_in table rows job at now version may =
    subst (λ (force : InForce). IsJobIn table force.version job may.spec may.zone) (first_version_force table rows version) may.is_in

-- ---- the rows stand for the table, whatever version is in force

adopted_is : (last_version version : ℕ) (now : ℤ) (row : JobRow) → row.open_now ≡ None → is_table_row last_version row ≡ true → version ≤ last_version
    → (before : ℕ) → version ≡ suc before → is_table_row last_version (adopted_row version now row) ≡ true
adopted_is last_version version now row idle is known before next =
    let ended = and_parts (not (is_some row.open_now)) _ is in
    let counted = and_parts (not (is_some row.last)) _ ended.1 in
    let last = and_parts (eqb row.voided 0) _ counted.1 in
    let fits : leb version last_version ≡ true = le-leb version last_version known in
    let later : eqb version 0 ≡ false = ne_eqb version 0 (λ is. omega (arith, next, is)) in
    rw (idle, counted.0, last.0, fits, later) refl

-- the table's own row, once a version is adopted, is one of a version that the table has
adopted_stands : (table : Table) (rows : List JobRow) (version : ℕ) (now : ℤ) → RowsStand rows (table_size table) → (takes : TakesTable table rows version now)
    → RowsStand (with_row (adopted_row version now) rows (length table.jobs)) (table_size table)
adopted_stands table rows version now stand takes =
    let own : ℕ = length table.jobs in
    let old : JobRow = get_or rows own (fresh_row own) in
    let new : JobRow = adopted_row version now old in
    let here : slice_get rows own ≡ Some old = slice_get-get_or rows own (fresh_row own) (omega (arith, stand.numbered.count)) in
    let number : new.job ≡ own = stand.numbered.in_order own old here in
    let known : version ≤ length table.later = omega (arith, takes.known) in
    record {
      numbered = row_put rows (row_count (table_size table)) own new stand.numbered number;
      ends = λ row is.
          let row_is : new ≡ row = set_here rows own row new is in
          subst (λ (r : JobRow). is_table_row (length table.later) r ≡ true) row_is
          (adopted_is (length table.later) version now old (takes.ended own old here).closed (stand.ends old here) known (in_force table rows).version takes.next);
    }

pub Applies-stands : (table : Table) (rows : List JobRow) (entry : Entry) (middle : List JobRow) → RowsStand rows (table_size table) → Applies table rows entry middle
    → RowsStand middle (table_size table)
Applies-stands table rows Noop middle stand (inl (takes, is)) = absurd takes
Applies-stands table rows (TableEntry version now) middle stand (inl (takes, is)) = rw is (adopted_stands table rows version now stand takes)
Applies-stands table rows (Start job at now) middle stand (inl (takes, is)) =
    let here : JobRow = get_or rows job (fresh_row job) in
    let number : (opened_row at now here).job ≡ job =
    row_opened rows (row_count (table_size table)) job at now takes.row here (fresh_row job) (opened_row at now here) stand.numbered takes.is_row refl refl in
    rw is (rows_put table rows job (opened_row at now here) stand takes.known number)
Applies-stands table rows (End job at kind) middle stand (inl (takes, is)) =
    let here : JobRow = get_or rows job (fresh_row job) in
    let same : here ≡ takes.row = get_or_from_slice_get rows job takes.row (fresh_row job) takes.is_row in
    let number : (closed_row at kind here).job ≡ job = closed_job at kind here ∙ ap (λ (r : JobRow). r.job) same ∙ stand.numbered.in_order job takes.row takes.is_row in
    rw is (rows_put table rows job (closed_row at kind here) stand (open_within table rows job at stand takes) number)
Applies-stands table rows entry middle stand (inr (none, is)) = rw is stand

AppliesAll-stands : (table : Table) (rows : List JobRow) (entries : List Entry) (last : List JobRow) → RowsStand rows (table_size table) → AppliesAll table rows entries last
    → RowsStand last (table_size table)
AppliesAll-stands table rows [] last stand is = rw is stand
AppliesAll-stands table rows (entry ∷ entries) last stand (middle, applies, rest) =
    AppliesAll-stands table middle entries last (Applies-stands table rows entry middle stand applies) rest

pub clerk_stands : (table : Table) (entries : List Entry) (rows : List JobRow) → AppliesAll table (first_rows table) entries rows → RowsStand rows (table_size table)
clerk_stands table entries rows applied = AppliesAll-stands table (first_rows table) entries rows (fresh_stand (first_rows table) (table_size table) refl) applied

-- ---- and so the version

pub started_force : (table : Table) (rows middle : List JobRow) (job : ℕ) (at now : ℤ) → TakesStart table rows job at now → middle ≡ with_row (opened_row at now) rows job
    → in_force table middle ≡ in_force table rows
started_force table rows middle job at now takes is =
    ap (in_force table) is ∙ force_put table rows job (opened_row at now (get_or rows job (fresh_row job))) takes.known

pub ended_force : (table : Table) (rows middle : List JobRow) (job : ℕ) (at : ℤ) (kind : Kind) → RowsStand rows (table_size table) → TakesEnd rows job at
    → middle ≡ with_row (closed_row at kind) rows job → in_force table middle ≡ in_force table rows
ended_force table rows middle job at kind stand takes is =
    ap (in_force table) is ∙ force_put table rows job (closed_row at kind (get_or rows job (fresh_row job))) (open_within table rows job at stand takes)

pub adopted_force : (table : Table) (rows middle : List JobRow) (version : ℕ) (now : ℤ) → RowsStand rows (table_size table)
    → middle ≡ with_row (adopted_row version now) rows (length table.jobs) → in_force table middle ≡ record { version = version; since = Some now }
adopted_force table rows middle version now stand is =
    let own : ℕ = length table.jobs in
    ap (in_force table) is
    ∙ ap force_of (get_or-set_same rows own (adopted_row version now (get_or rows own (fresh_row own))) (fresh_row own) (omega (arith, stand.numbered.count)))

-- ---- a machine

-- beside the table's own row stands nothing
pub own_none : (table : Table) (rows : List JobRow) (starts : List (Option ℤ)) → RowsStand rows (table_size table) → AreNextStarts table rows starts
    → slice_get starts (length table.jobs) ≡ Some None
own_none table rows starts stand known =
    let own : ℕ = length table.jobs in
    let here : slice_get rows own ≡ Some (get_or rows own (fresh_row own)) = slice_get-get_or rows own (fresh_row own) (omega (arith, stand.numbered.count)) in
    let found = beside_row (IsStartBeside table (in_force table rows)) rows starts own (get_or rows own (fresh_row own)) known here in
    found.1 ∙ ap Some (found.2.own (omega arith))

-- no row is open
adopted_closed : (table : Table) (rows : List JobRow) (version : ℕ) (now : ℤ) → TakesTable table rows version now → (job : ℕ) (row : JobRow)
    → slice_get (with_row (adopted_row version now) rows (length table.jobs)) job ≡ Some row → row.open_now ≡ None
adopted_closed table rows version now takes job row is = elim (cases_eq job (length table.jobs)) [
  | inr other ↦ (takes.ended job row (sym (set_there rows (length table.jobs) job (adopted_row version now old) other) ∙ is)).closed
  | inl same ↦
      let row_is : adopted_row version now old ≡ row =
      set_here rows (length table.jobs) row (adopted_row version now old) (subst (λ (k : ℕ). slice_get (with_row (adopted_row version now) rows (length table.jobs)) k ≡ Some row) same is) in
      ap (λ (r : JobRow). r.open_now) (sym row_is) ∙ own_closed (slice_get rows (length table.jobs)) refl
]
  where
    old : JobRow
    old = get_or rows (length table.jobs) (fresh_row (length table.jobs))

    own_closed : (found : Option JobRow) → slice_get rows (length table.jobs) ≡ found → old.open_now ≡ None
    own_closed (Some here) is = ap (λ (r : JobRow). r.open_now) (get_or_from_slice_get rows (length table.jobs) here (fresh_row (length table.jobs)) is) ∙ (takes.ended (length table.jobs) here is).closed
    own_closed None none = ap (λ (r : JobRow). r.open_now) (sym (unwrap_or-slice_get rows (length table.jobs) (fresh_row (length table.jobs))) ∙ ap (λ o. unwrap_or o (fresh_row (length table.jobs))) none)

-- once a version is adopted, and the starts are set anew by it, the machine is one of the table
pub adopted_machine : (table : Table) (rows : List JobRow) (starts anew calls : List (Option ℤ)) (version : ℕ) (now : ℤ)
    → StandsFor table (record { rows = rows; starts = starts; calls = calls }) → TakesTable table rows version now
    → AreBeside (IsStartBeside table (record { version = version; since = Some now })) (with_row (adopted_row version now) rows (length table.jobs)) anew
    → StandsFor table (record { rows = with_row (adopted_row version now) rows (length table.jobs); starts = anew; calls = calls })
adopted_machine table rows starts anew calls version now stands takes known =
    let after : List JobRow = with_row (adopted_row version now) rows (length table.jobs) in
    let force = adopted_force table rows after version now stands.rows refl in
    record {
      rows = adopted_stands table rows version now stands.rows takes;
      starts = subst (λ (f : InForce). AreBeside (IsStartBeside table f) after anew) (sym force) known;
      calls = record {
        count = stands.calls.count ∙ sym (length-set rows (length table.jobs) (adopted_row version now (get_or rows (length table.jobs) (fresh_row (length table.jobs)))));
        each = λ job row value is_row is_value at clock since spec zone below inside is_open cursor is_in come.
            absurd (cc (is_open, adopted_closed table rows version now takes job row is_row));
      };
    }

-- the rows with the table's own changed
pub own_put : (table : Table) (rows : List JobRow) (place : ℕ) (version : ℕ) (now : ℤ) (here d new : JobRow) → RowsStand rows (table_size table)
    → place ≡ length table.jobs → here ≡ get_or rows place d → new ≡ adopted_row version now here
    → slice_set rows place new ≡ with_row (adopted_row version now) rows (length table.jobs)
own_put table rows place version now here d new stand is here_is new_is =
    let own : ℕ = length table.jobs in
    let found : slice_get rows own ≡ Some (get_or rows own (fresh_row own)) = slice_get-get_or rows own (fresh_row own) (omega (arith, stand.numbered.count)) in
    let same : get_or rows own d ≡ get_or rows own (fresh_row own) = get_or_from_slice_get rows own (get_or rows own (fresh_row own)) d found in
    let old : here ≡ get_or rows own (fresh_row own) = here_is ∙ ap (λ (k : ℕ). get_or rows k d) is ∙ same in
    ap (λ (k : ℕ). slice_set rows k new) is ∙ ap (slice_set rows own) (new_is ∙ ap (adopted_row version now) old)
