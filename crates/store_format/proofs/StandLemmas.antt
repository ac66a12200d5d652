-- What records stand for is what a reader comes to.
use Rattle.std.proofs.Common.{◌≡◌, ℕ, zero, suc, ◌+◌, ◌<◌, Bool, true, false, ◌&&◌, ◌||◌, eqb, leb, Some, None, List, [], ◌∷◌, ◌++◌, length, map, refl, sym, ap, ◌∙◌, subst, inl, inr, arith, append_assoc}
use Rattle.std.specs.Prelude.{◌⊎◌, slice_get, if◌then◌else◌}
use Rattle.std.proofs.lemmas.Bool.{false≢true, and_parts, and_from, eq-eqb, eqb-true, le-leb, ne_eqb, cases_eq}
use Rattle.std.proofs.Math.Bool.{or-true}
use Rattle.std.proofs.lemmas.List.{append-nil, length-append}
use Rattle.std.proofs.lemmas.Option.{none-some, same_Some, slice_get_within}
use Rattle.paxos_base.specs.declared.rows.TableSize.{TableSize}
use Rattle.paxos_base.specs.declared.durable.Durable.{Durable}
use Rattle.paxos_base.specs.declared.rows.JobRow.{JobRow}
use Rattle.paxos_base.specs.Rows.{AreNumbered, RowsStand, fits_table, fresh_row, is_table_row, row_count}
use Rattle.store_format.specs.declared.body.Record.{Record}
use Rattle.store_format.specs.declared.body.Record.TheVariants.{Tried, Promised, Voted, Base, Row}
use Rattle.store_format.specs.declared.place.Place.{Place}
use Rattle.store_format.specs.declared.place.Place.TheVariants.{Start, Rows, CopyStart, Log}
use Rattle.store_format.specs.Area.{GroupStands, Stands, StandsFromBase, fresh_kept, group_of, copy_records, rows_of_group}
use Rattle.store_format.specs.Order.{IsChangeLog}
use Rattle.store_format.specs.Places.{group_place, is_in_group, is_next_row, may_have_rows, next_place, rows_at, taken}
use Rattle.store_format.proofs.Machine.{Reading, reading, run, runs_on, runs_from, run_steps, runs_as_log, next-start, IsChange}
use Rattle.store_format.proofs.LogLemmas.{IsChangeLog-nil, IsChangeLog-empty, IsChangeLog-uncons, keeps, runs_log, log_runs}
use Rattle.store_format.proofs.CopyLemmas.{Nothing}
use Rattle.store_format.proofs.CopyRuns.{nothing_copied, runs_copy, copy_reads, Reads}

-- what is kept behind rows of a group
abbrev pub with_rows : ℕ → List JobRow → Durable
with_rows slot rows = record { tried = 0; promised = None; votes = []; base = slot; rows = rows }

-- rows from a number on, of which that behind the jobs is the table's own
abbrev pub AreFrom : TableSize → ℕ → List JobRow → Type 0
AreFrom size job [] = Unit {0}
AreFrom size job (row ∷ rows) = (row.job ≡ job) × ((fits_table size row ≡ true) × AreFrom size (job + 1) rows)

pub fits_where : (size : TableSize) (row : JobRow) → (row.job ≡ size.jobs → is_table_row size.last_version row ≡ true) → fits_table size row ≡ true
fits_where size row is_table = elim (cases_eq row.job size.jobs) [
  | inl same ↦ ap (λ (b : Bool). if b then is_table_row size.last_version row else true) (eq-eqb row.job size.jobs same) ∙ is_table same
  | inr other ↦ ap (λ (b : Bool). if b then is_table_row size.last_version row else true) (ne_eqb row.job size.jobs other)
]

table_row : (size : TableSize) (row : JobRow) → row.job ≡ size.jobs → fits_table size row ≡ true → is_table_row size.last_version row ≡ true
table_row size row same fits =
    sym (ap (λ (b : Bool). if b then is_table_row size.last_version row else true) (eq-eqb row.job size.jobs same)) ∙ fits

-- a row at its number, that may stand in the table
abbrev IsPlaced : TableSize → ℕ → JobRow → Type 0
IsPlaced size number row = (row.job ≡ number) × (fits_table size row ≡ true)

from_places : (size : TableSize) (job : ℕ) (rows : List JobRow) → ((k : ℕ) (row : JobRow) → slice_get rows k ≡ Some row → IsPlaced size (job + k) row) → AreFrom size job rows
from_places size job [] at = tt
from_places size job (row ∷ rows) at =
    let here : IsPlaced size (job + 0) row = at 0 row refl in
    (omega (arith, here.0), (here.1, from_places size (job + 1) rows (λ k other is. let there : IsPlaced size (job + suc k) other = at (suc k) other is in (omega (arith, there.0), there.1))))

to_places : (size : TableSize) (job : ℕ) (rows : List JobRow) → AreFrom size job rows → (k : ℕ) (row : JobRow) → slice_get rows k ≡ Some row → IsPlaced size (job + k) row
to_places size job [] are k row is = absurd (none-some row is)
to_places size job (first ∷ rows) are zero row is =
    let same : first ≡ row = same_Some first row is in
    subst (IsPlaced size (job + 0)) same (omega (arith, are.0), are.1.0)
to_places size job (first ∷ rows) are (suc k) row is =
    let there : IsPlaced size (job + 1 + k) row = to_places size (job + 1) rows are.1.1 k row is in (omega (arith, there.0), there.1)

from_stand : (rows : List JobRow) (size : TableSize) → RowsStand rows size → AreFrom size 0 rows
from_stand rows size stand =
    from_places size 0 rows (λ k row is.
    let number : row.job ≡ k = stand.numbered.in_order k row is in
    (omega (arith, number), fits_where size row (λ last. stand.ends row (ap (slice_get rows) (sym last ∙ number) ∙ is))))

to_stand : (rows : List JobRow) (size : TableSize) → length rows ≡ row_count size → AreFrom size 0 rows → RowsStand rows size
to_stand rows size count are = record {
  numbered = record { count = count; in_order = λ k row is. let e : IsPlaced size (0 + k) row = to_places size 0 rows are k row is in omega (arith, e.0) };
  ends = λ row is. let e : IsPlaced size (0 + size.jobs) row = to_places size 0 rows are size.jobs row is in table_row size row (omega (arith, e.0)) e.1;
}

from_numbers : (rows : List JobRow) (size : TableSize) → AreNumbered rows size.jobs → AreFrom size 0 rows
from_numbers rows size are =
    from_places size 0 rows (λ k row is.
    let number : row.job ≡ k = are.in_order k row is in
    let within : k < length rows = slice_get_within rows k row is in
    (omega (arith, number), fits_where size row (λ last. absurd (omega (arith, last, number, within, are.count)))))

to_numbers : (rows : List JobRow) (size : TableSize) → length rows ≡ size.jobs → AreFrom size 0 rows → AreNumbered rows size.jobs
to_numbers rows size count are =
    record { count = count; in_order = λ k row is. let e : IsPlaced size (0 + k) row = to_places size 0 rows are k row is in omega (arith, e.0) }

-- ---- the rows of a group, in either format

from_group : (rows : List JobRow) (size : TableSize) → GroupStands size rows → AreFrom size 0 rows
from_group rows size (inl stand) = from_stand rows size stand
from_group rows size (inr are) = from_numbers rows size are

group_may : (rows : List JobRow) (size : TableSize) → GroupStands size rows → may_have_rows size (length rows) ≡ true
group_may rows size (inl stand) =
    ap (λ (b : Bool). b || eqb (length rows) size.jobs) (eq-eqb (length rows) (row_count size) stand.numbered.count)
group_may rows size (inr are) =
    ap (λ (b : Bool). eqb (length rows) (row_count size) || b) (eq-eqb (length rows) size.jobs are.count) ∙ or-true (eqb (length rows) (row_count size))

-- how many rows a group may have
pub count_may : (size : TableSize) (count : ℕ) → may_have_rows size count ≡ true → (count ≡ row_count size) ⊎ (count ≡ size.jobs)
count_may size count may = elim (cases_eq count (row_count size)) [
  | inl same ↦ inl same
  | inr other ↦ inr (eqb-true count size.jobs (sym (ap (λ (b : Bool). b || eqb count size.jobs) (ne_eqb count (row_count size) other)) ∙ may))
]

to_group : (rows : List JobRow) (size : TableSize) (count : ℕ) → may_have_rows size count ≡ true → length rows ≡ count → AreFrom size 0 rows → GroupStands size rows
to_group rows size count may same are = elim (count_may size count may) [
  | inl table ↦ inl (to_stand rows size (omega (arith, same, table)) are)
  | inr jobs ↦ inr (to_numbers rows size (omega (arith, same, jobs)) are)
]

-- a fresh row may be the table's own, of version 0
pub fits_fresh : (size : TableSize) (job : ℕ) → fits_table size (fresh_row job) ≡ true
fits_fresh size job =
    fits_where size (fresh_row job) (λ last. and_from (leb 0 size.last_version) true (le-leb 0 size.last_version (omega arith)) refl)

from_append : (size : TableSize) (job : ℕ) (rows others : List JobRow) → AreFrom size job rows → AreFrom size (job + length rows) others → AreFrom size job (rows ++ others)
from_append size job [] others are more =
    let same : job + 0 ≡ job = omega arith in
    subst (λ (n : ℕ). AreFrom size n others) same more
from_append size job (row ∷ rows) others are more =
    let same : job + suc (length rows) ≡ job + 1 + length rows = omega arith in
    (are.0, (are.1.0, from_append size (job + 1) rows others are.1.1 (subst (λ (n : ℕ). AreFrom size n others) same more)))

-- the rows of a table stand for themselves
pub table_rows : (size : TableSize) (rows : List JobRow) → RowsStand rows size → rows_of_group size rows ≡ rows
table_rows size rows stand =
    let more : length rows ≡ size.jobs → ⊥ = λ same. omega (arith, same, stand.numbered.count) in
    ap (λ (b : Bool). if b then rows ++ fresh_row size.jobs ∷ [] else rows) (ne_eqb (length rows) size.jobs more)

-- the rows that a group stands for are those of the table
pub group_rows_stand : (size : TableSize) (rows : List JobRow) → GroupStands size rows → RowsStand (rows_of_group size rows) size
group_rows_stand size rows (inl stand) = subst (λ (all : List JobRow). RowsStand all size) (sym (table_rows size rows stand)) stand
group_rows_stand size rows (inr are) =
    let last : List JobRow = fresh_row size.jobs ∷ [] in
    let whole : length (rows ++ last) ≡ length rows + 1 = length-append rows last in
    let count : length (rows ++ last) ≡ row_count size = omega (arith, whole, are.count) in
    let table : AreFrom size (0 + length rows) last = (omega (arith, are.count), (fits_fresh size size.jobs, tt)) in
    subst (λ (all : List JobRow). RowsStand all size) (sym (ap (λ (b : Bool). if b then rows ++ last else rows) (eq-eqb (length rows) size.jobs are.count)))
    (to_stand (rows ++ last) size count (from_append size 0 rows last (from_numbers rows size are) table))

-- ---- a group is read

pub group_done : (total count : ℕ) → count ≡ total → group_place total count ≡ CopyStart
group_done total count same = ap (λ (b : Bool). if b then CopyStart else Rows total) (eq-eqb count total same)

pub group_open : (total count : ℕ) → (count ≡ total → ⊥) → group_place total count ≡ Rows total
group_open total count other = ap (λ (b : Bool). if b then CopyStart else Rows total) (ne_eqb count total other)

row_place : (size : TableSize) (total : ℕ) (kept : Durable) (slot : ℕ) (row : JobRow) → slot ≡ kept.base → row.job ≡ length kept.rows → fits_table size row ≡ true → next_place size (Rows total) kept (Row slot row) ≡ Some (group_place total (length kept.rows + 1))
row_place size total kept slot row at job fits =
    ap (λ (b : Bool). if b then Some (group_place total (length kept.rows + 1)) else None) (and_from _ _ (eq-eqb slot kept.base at) (and_from _ _ (eq-eqb row.job (length kept.rows) job) fits))

-- a reader at a place in a group or behind it
abbrev pub at_rows : TableSize → ℕ → Place → List JobRow → Reading
at_rows size slot place rows = reading place (with_rows slot (rows_at size place rows))

pub rows_run : (size : TableSize) (slot total : ℕ) (rows front : List JobRow) → length front + length rows ≡ total → AreFrom size (length front) rows
    → run size (at_rows size slot (group_place total (length front)) front) (map (λ (row : JobRow). Row slot row) rows) ≡ Some (reading CopyStart (with_rows slot (rows_of_group size (front ++ rows))))
rows_run size slot total [] front count are =
    let done : length front ≡ total = omega (arith, count) in
    ap (λ (p : Place). Some (at_rows size slot p front)) (group_done total (length front) done)
    ∙ ap (λ (all : List JobRow). Some (at_rows size slot CopyStart all)) (sym (append-nil front))
rows_run size slot total (row ∷ rows) front count are =
    let longer : List JobRow = front ++ row ∷ [] in
    let more : length longer ≡ length front + 1 = length-append front (row ∷ []) in
    let at : next_place size (Rows total) (with_rows slot front) (Row slot row) ≡ Some (group_place total (length front + 1)) = row_place size total (with_rows slot front) slot row refl are.0 are.1.0 in
    ap (λ (p : Place). run size (at_rows size slot p front) (Row slot row ∷ map (λ (r : JobRow). Row slot r) rows)) (group_open total (length front) (λ same. omega (arith, same, count)))
    ∙ runs_from size (Rows total) (group_place total (length front + 1)) (with_rows slot front) (Row slot row) (map (λ (r : JobRow). Row slot r) rows) at
    ∙ ap (λ (n : ℕ). run size (at_rows size slot (group_place total n) longer) (map (λ (r : JobRow). Row slot r) rows)) (sym more)
    ∙ rows_run size slot total rows longer (omega (arith, count, more)) (subst (λ (n : ℕ). AreFrom size n rows) (sym more) are.1.1)
    ∙ ap (λ (all : List JobRow). Some (at_rows size slot CopyStart all)) (append_assoc front (row ∷ []) rows)

base_place : (size : TableSize) (slot count : ℕ) → may_have_rows size count ≡ true → next_place size Start (fresh_kept size) (Base slot count) ≡ Some (group_place count 0)
base_place size slot count may = ap (λ (b : Bool). if b then Some (group_place count 0) else None) may

abbrev pub first : TableSize → Reading
first size = reading Start (fresh_kept size)

pub group_runs : (size : TableSize) (slot : ℕ) (rows : List JobRow) → GroupStands size rows → run size (first size) (group_of slot rows) ≡ Some (reading CopyStart (with_rows slot (rows_of_group size rows)))
group_runs size slot rows stand =
    runs_from size Start (group_place (length rows) 0) (fresh_kept size) (Base slot (length rows)) (map (λ (row : JobRow). Row slot row) rows) (base_place size slot (length rows) (group_may rows size stand))
    ∙ rows_run size slot (length rows) rows [] (omega arith) (from_group rows size stand)

-- ---- a state is read

pub change_not : (size : TableSize) (kept last : Durable) (item : Record) (items : List Record) → IsChangeLog size kept (item ∷ items) last → IsChange item
change_not size kept last item items log =
    let parts = IsChangeLog-uncons size kept last item items log in
    (keeps size kept item parts.change parts.is_record parts.may_follow).is_change

pub start_as_log : (size : TableSize) (kept : Durable) (item : Record) (items : List Record) → IsChange item → run size (reading Start kept) (item ∷ items) ≡ run size (reading Log kept) (item ∷ items)
start_as_log size kept item items change = runs_as_log size Start kept item items (next-start size kept item change)

log_from_start : (size : TableSize) (items : List Record) (kept : Durable) → IsChangeLog size (fresh_kept size) items kept → Reads size (first size) items kept
log_from_start size [] kept log =
    record { place = Start; runs = ap (λ (k : Durable). Some (reading Start k)) (sym (IsChangeLog-empty size (fresh_kept size) kept log)); not_rows = false≢true }
log_from_start size (item ∷ items) kept log =
    record {
      place = Log;
      runs = start_as_log size (fresh_kept size) item items (change_not size (fresh_kept size) kept item items log) ∙ log_runs size (fresh_kept size) kept (item ∷ items) log;
      not_rows = false≢true;
    }

-- what records stand for is read
pub Stands-reads : (size : TableSize) (items : List Record) (kept : Durable) → Stands size items kept → Reads size (first size) items kept
Stands-reads size items kept (inl log) = log_from_start size items kept log
Stands-reads size items kept (inr base) =
    let copied = copy_reads size base.slot (rows_of_group size base.rows) base.copy base.promised base.log kept base.is_copy base.longest base.greatest base.is_log in
    record {
      place = copied.place;
      runs = ap (run size (first size)) base.parts
          ∙ runs_on size (first size) (reading CopyStart (with_rows base.slot (rows_of_group size base.rows))) (reading copied.place kept) (group_of base.slot base.rows) (copy_records base.copy ++ base.log)
          (group_runs size base.slot base.rows base.rows_stand) copied.runs;
      not_rows = copied.not_rows;
    }

-- ---- what is read stands

-- the rest of a group, which has so many rows in all, and what is behind it
pub record GroupThen (size : TableSize) (slot total : ℕ) (front : List JobRow) (items : List Record) (last : Reading) : Type 0 where
  pub rows : List JobRow
  pub rest : List Record
  pub parts : items ≡ map (λ (row : JobRow). Row slot row) rows ++ rest
  pub count : length front + length rows ≡ total
  pub are : AreFrom size (length front) rows
  pub runs : run size (reading CopyStart (with_rows slot (rows_of_group size (front ++ rows)))) rest ≡ Some last

row_kept : (kept : Durable) (total : ℕ) (next : Place) (test : Bool) → (if test then Some (group_place total (length kept.rows + 1)) else None) ≡ Some next → (test ≡ true) × (group_place total (length kept.rows + 1) ≡ next)
row_kept kept total next true at = (refl, same_Some (group_place total (length kept.rows + 1)) next at)
row_kept kept total next false at = absurd (none-some next at)

pub record RowNext (size : TableSize) (total : ℕ) (kept : Durable) (item : Record) (next : Place) : Type 0 where
  pub row : JobRow
  pub is : item ≡ Row kept.base row
  pub job : row.job ≡ length kept.rows
  pub fits : fits_table size row ≡ true
  pub place : group_place total (length kept.rows + 1) ≡ next

pub row_next : (size : TableSize) (total : ℕ) (kept : Durable) (item : Record) (next : Place) → next_place size (Rows total) kept item ≡ Some next → RowNext size total kept item next
row_next size total kept (Tried ballot) next at = absurd (none-some next at)
row_next size total kept (Promised ballot) next at = absurd (none-some next at)
row_next size total kept (Voted vote) next at = absurd (none-some next at)
row_next size total kept (Base slot count) next at = absurd (none-some next at)
row_next size total kept (Row slot row) next at =
    let parts = row_kept kept total next (is_next_row size kept slot row) at in
    let both = and_parts (eqb slot kept.base) (eqb row.job (length kept.rows) && fits_table size row) parts.0 in
    let number = and_parts (eqb row.job (length kept.rows)) (fits_table size row) both.1 in
    record {
      row = row;
      is = ap (λ (s : ℕ). Row s row) (eqb-true slot kept.base both.0);
      job = eqb-true row.job (length kept.rows) number.0;
      fits = number.1;
      place = parts.1;
    }

-- the run behind a row, from the place that it leads to
pub row_rest : (size : TableSize) (slot total : ℕ) (front : List JobRow) (item : Record) (items : List Record) (last : Reading) (next place : Place) → (now : RowNext size total (with_rows slot front) item next) → group_place total (length front + 1) ≡ place
    → run size (reading next (taken size next item (with_rows slot front))) items ≡ Some last
    → run size (reading place (with_rows slot (rows_at size place (front ++ now.row ∷ [])))) items ≡ Some last
row_rest size slot total front item items last next place now at rest =
    ap (λ (p : Place). run size (reading p (taken size p (Row slot now.row) (with_rows slot front))) items) (sym at ∙ now.place)
    ∙ ap (λ (i : Record). run size (reading next (taken size next i (with_rows slot front))) items) (sym now.is)
    ∙ rest

-- one row before the others
row_before : (size : TableSize) (slot total : ℕ) (item : Record) (items : List Record) (front : List JobRow) (row : JobRow) (last : Reading) → item ≡ Row slot row → row.job ≡ length front → fits_table size row ≡ true → GroupThen size slot total (front ++ row ∷ []) items last → GroupThen size slot total front (item ∷ items) last
row_before size slot total item items front row last is job fits others =
    let more : length (front ++ row ∷ []) ≡ length front + 1 = length-append front (row ∷ []) in
    record {
      rows = row ∷ others.rows;
      rest = others.rest;
      parts = ap (λ (i : Record). i ∷ items) is ∙ ap (λ (behind : List Record). Row slot row ∷ behind) others.parts;
      count = omega (arith, others.count, more);
      are = (job, (fits, subst (λ (n : ℕ). AreFrom size n others.rows) more others.are));
      runs = ap (λ (rows : List JobRow). run size (reading CopyStart (with_rows slot (rows_of_group size rows))) others.rest) (sym (append_assoc front (row ∷ []) others.rows)) ∙ others.runs;
    }

pub runs_rows : (size : TableSize) (slot total : ℕ) (items : List Record) (front : List JobRow) (last : Reading) → length front < total → (is_in_group last.place ≡ true → ⊥) → run size (reading (Rows total) (with_rows slot front)) items ≡ Some last → GroupThen size slot total front items last
runs_rows size slot total [] front last few not_rows e =
    let same : reading (Rows total) (with_rows slot front) ≡ last = same_Some (reading (Rows total) (with_rows slot front)) last e in
    absurd (not_rows (ap (λ (s : Reading). is_in_group s.place) (sym same)))
runs_rows size slot total (item ∷ items) front last few not_rows e =
    let parts = run_steps size (Rows total) (with_rows slot front) item items last e in
    let now = row_next size total (with_rows slot front) item parts.next parts.at in
    let longer : List JobRow = front ++ now.row ∷ [] in
    let more : length longer ≡ length front + 1 = length-append front (now.row ∷ []) in
    elim (cases_eq (length front + 1) total) [
      | inl same ↦ record {
        rows = now.row ∷ [];
        rest = items;
        parts = ap (λ (i : Record). i ∷ items) now.is;
        count = omega (arith, same);
        are = (now.job, (now.fits, tt));
        runs = row_rest size slot total front item items last parts.next CopyStart now (group_done total (length front + 1) same) parts.rest;
      }
      | inr apart ↦
          row_before size slot total item items front now.row last now.is now.job now.fits
          (runs_rows size slot total items longer last (omega (arith, more, few, apart)) not_rows (row_rest size slot total front item items last parts.next (Rows total) now (group_open total (length front + 1) apart) parts.rest))
    ]

pub base_kept : (size : TableSize) (count : ℕ) (next : Place) (test : Bool) → (if test then Some (group_place count 0) else None) ≡ Some next → (test ≡ true) × (group_place count 0 ≡ next)
base_kept size count next true at = (refl, same_Some (group_place count 0) next at)
base_kept size count next false at = absurd (none-some next at)

-- the run behind a base, from the place that it leads to
pub base_rest : (size : TableSize) (slot count : ℕ) (items : List Record) (last : Reading) (next place : Place) → group_place count 0 ≡ next → group_place count 0 ≡ place
    → run size (reading next (taken size next (Base slot count) (fresh_kept size))) items ≡ Some last
    → run size (reading place (with_rows slot (rows_at size place []))) items ≡ Some last
base_rest size slot count items last next place is at rest =
    ap (λ (p : Place). run size (reading p (taken size p (Base slot count) (fresh_kept size))) items) (sym at ∙ is) ∙ rest

-- the rows behind a base
group_behind : (size : TableSize) (slot count : ℕ) (items : List Record) (last : Reading) (next : Place) → (is_in_group last.place ≡ true → ⊥) → group_place count 0 ≡ next
    → run size (reading next (taken size next (Base slot count) (fresh_kept size))) items ≡ Some last → GroupThen size slot count [] items last
group_behind size slot count items last next not_rows is rest = elim (cases_eq 0 count) [
  | inl same ↦ record {
    rows = [];
    rest = items;
    parts = refl;
    count = omega (arith, same);
    are = tt;
    runs = base_rest size slot count items last next CopyStart is (group_done count 0 same) rest;
  }
  | inr other ↦
      runs_rows size slot count items [] last (omega (arith, other)) not_rows (base_rest size slot count items last next (Rows count) is (group_open count 0 other) rest)
]

-- from the group of a base on
stands_from_base : (size : TableSize) (slot count : ℕ) (items : List Record) (last : Reading) → (is_in_group last.place ≡ true → ⊥) → run size (first size) (Base slot count ∷ items) ≡ Some last → StandsFromBase size (Base slot count ∷ items) last.kept
stands_from_base size slot count items last not_rows e =
    let parts = run_steps size Start (fresh_kept size) (Base slot count) items last e in
    let now = base_kept size count parts.next (may_have_rows size count) parts.at in
    let group = group_behind size slot count items last parts.next not_rows now.1 parts.rest in
    let copied = runs_copy size slot (rows_of_group size group.rows) group.rest Nothing None last (nothing_copied slot) refl group.runs in
    let as_many : count ≡ length group.rows = omega (arith, group.count) in
    record {
      slot = slot;
      rows = group.rows;
      copy = copied.copy;
      promised = copied.promised;
      log = copied.log;
      parts = ap (λ (n : ℕ). Base slot n ∷ items) as_many
          ∙ ap (λ (others : List Record). Base slot (length group.rows) ∷ others) (group.parts ∙ ap (λ (behind : List Record). map (λ (row : JobRow). Row slot row) group.rows ++ behind) copied.parts);
      rows_stand = to_group group.rows size count now.0 (sym as_many) group.are;
      is_copy = copied.is_copy;
      longest = copied.longest;
      greatest = copied.greatest;
      is_log = copied.is_log;
    }

stands_as_log : (size : TableSize) (item : Record) (items : List Record) (last : Reading) → IsChange item → run size (first size) (item ∷ items) ≡ Some last → Stands size (item ∷ items) last.kept
stands_as_log size item items last change e =
    inl (runs_log size (fresh_kept size) (item ∷ items) last (sym (start_as_log size (fresh_kept size) item items change) ∙ e)).1

-- what is read, and not in the middle of a group, stands
pub runs-Stands : (size : TableSize) (items : List Record) (last : Reading) → (is_in_group last.place ≡ true → ⊥) → run size (first size) items ≡ Some last → Stands size items last.kept
runs-Stands size [] last not_rows e =
    let same : first size ≡ last = same_Some (first size) last e in
    subst (λ (s : Reading). Stands size [] s.kept) same (inl (IsChangeLog-nil size (fresh_kept size)))
runs-Stands size (Tried ballot ∷ items) last not_rows e = stands_as_log size (Tried ballot) items last tt e
runs-Stands size (Promised ballot ∷ items) last not_rows e = stands_as_log size (Promised ballot) items last tt e
runs-Stands size (Voted vote ∷ items) last not_rows e = stands_as_log size (Voted vote) items last tt e
runs-Stands size (Base slot count ∷ items) last not_rows e = inr (stands_from_base size slot count items last not_rows e)
runs-Stands size (Row slot row ∷ items) last not_rows e =
    let parts = run_steps size Start (fresh_kept size) (Row slot row) items last e in absurd (none-some parts.next parts.at)

-- records stand for one state at most
pub Stands-same : (size : TableSize) (items : List Record) (one other : Durable) → Stands size items one → Stands size items other → one ≡ other
Stands-same size items one other a b =
    let p = Stands-reads size items one a in
    let q = Stands-reads size items other b in
    let same : reading p.place one ≡ reading q.place other = same_Some (reading p.place one) (reading q.place other) (sym p.runs ∙ q.runs) in
    ap (λ (s : Reading). s.kept) same
