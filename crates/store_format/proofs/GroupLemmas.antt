-- A group of which rows are to come may be filled.
use Rattle.std.proofs.Common.{◌≡◌, ℕ, zero, suc, ◌+◌, ◌-◌, ◌<◌, ◌≤◌, ◌^◌, true, Option, Some, None, List, [], ◌∷◌, ◌++◌, length, map, refl, sym, ap, ◌∙◌, inl, inr, arith}
use Rattle.std.specs.List.{range_with_len}
use Rattle.std.proofs.lemmas.Bool.{cases_eq, false≢true}
use Rattle.std.proofs.lemmas.List.{length-append}
use Rattle.std.proofs.lemmas.List.FromFn.{length-map-range_with_len}
use Rattle.std.proofs.lemmas.Option.{none-some, same_Some}
use Rattle.paxos_base.specs.declared.rows.TableSize.{TableSize}
use Rattle.paxos_base.specs.declared.durable.Durable.{Durable}
use Rattle.paxos_base.specs.declared.rows.JobRow.{JobRow}
use Rattle.paxos_base.specs.Rows.{fresh_row, row_count}
use Rattle.store_format.specs.declared.body.Record.{Record}
use Rattle.store_format.specs.declared.body.Record.TheVariants.{Tried, Promised, Voted, Base, Row}
use Rattle.store_format.specs.declared.place.Place.{Place}
use Rattle.store_format.specs.declared.place.Place.TheVariants.{Start, Rows, CopyStart}
use Rattle.store_format.specs.Area.{after_copy, fresh_kept, rows_of_group}
use Rattle.store_format.specs.Places.{copy_place, is_in_group, may_have_rows}
use Rattle.store_format.specs.Records.{record_bytes, AreRecords}
use Rattle.store_format.proofs.Machine.{Reading, reading, run, run_steps, runs_as_log, copy_ends, option_cases, IsChange}
use Rattle.store_format.proofs.LogLemmas.{runs_log}
use Rattle.store_format.proofs.CopyLemmas.{Form, Nothing, copy_of, place_of_form, form_copies, form_with, Copied, goes_on}
use Rattle.store_format.proofs.CopyRuns.{state, nothing_copied, go_step, form_not_rows}
use Rattle.store_format.proofs.StandLemmas.{with_rows, at_rows, AreFrom, count_may, fits_fresh, first, group_done, group_open, row_next, row_rest, base_kept, base_rest, rows_run, start_as_log}
use Rattle.store_format.proofs.RecordLemmas.{IsRecord-fresh}

-- behind a group no group is open
copy_not_rows : (size : TableSize) (slot : ℕ) (rows : List JobRow) (items : List Record) (form : Form) (promised : Option ℕ) (last : Reading) → Copied slot form promised → run size (state slot rows form promised) items ≡ Some last → is_in_group last.place ≡ true → ⊥
copy_not_rows size slot rows [] form promised last copied e is_rows =
    let same : state slot rows form promised ≡ last = same_Some (state slot rows form promised) last e in
    form_not_rows form (ap (λ (s : Reading). is_in_group s.place) same ∙ is_rows)
copy_not_rows size slot rows (item ∷ items) form promised last copied e is_rows =
    let kept : Durable = after_copy slot rows (copy_of form) promised in
    elim (option_cases (copy_place (place_of_form form) kept item)) [
      | inl none ↦
          let log = runs_log size kept (item ∷ items) last (sym (runs_as_log size (place_of_form form) kept item items (copy_ends size (place_of_form form) kept item (form_copies form) none)) ∙ e) in
          false≢true (ap is_in_group (sym log.0) ∙ is_rows)
      | inr (next, at) ↦
          let goes = goes_on slot rows form promised item next copied at in
          copy_not_rows size slot rows items (form_with form item) goes.greater last goes.copied (sym (go_step size slot rows form promised item items next at goes) ∙ e) is_rows
    ]

-- the rows of a group so far, and how many it has in all
pub record OpenGroup (size : TableSize) (slot : ℕ) (last : Reading) : Type 0 where
  pub total : ℕ
  pub rows : List JobRow
  pub few : length rows < total
  pub within : total ≤ row_count size
  pub is : last ≡ reading (Rows total) (with_rows slot rows)

group_open_at : (size : TableSize) (slot total : ℕ) (items : List Record) (front : List JobRow) (last : Reading) → length front < total → total ≤ row_count size → run size (reading (Rows total) (with_rows slot front)) items ≡ Some last → is_in_group last.place ≡ true → OpenGroup size slot last
group_open_at size slot total [] front last few within e is_rows =
    record { total = total; rows = front; few = few; within = within; is = sym (same_Some (reading (Rows total) (with_rows slot front)) last e) }
group_open_at size slot total (item ∷ items) front last few within e is_rows =
    let parts = run_steps size (Rows total) (with_rows slot front) item items last e in
    let now = row_next size total (with_rows slot front) item parts.next parts.at in
    let longer : List JobRow = front ++ now.row ∷ [] in
    let more : length longer ≡ length front + 1 = length-append front (now.row ∷ []) in
    elim (cases_eq (length front + 1) total) [
      | inl same ↦
          let rest = row_rest size slot total front item items last parts.next CopyStart now (group_done total (length front + 1) same) parts.rest in
          absurd (copy_not_rows size slot (rows_of_group size longer) items Nothing None last (nothing_copied slot) rest is_rows)
      | inr apart ↦
          let rest = row_rest size slot total front item items last parts.next (Rows total) now (group_open total (length front + 1) apart) parts.rest in
          group_open_at size slot total items longer last (omega (arith, more, few, apart)) within rest is_rows
    ]

-- the group began with the first record
pub record Begun (size : TableSize) (items : List Record) (last : Reading) : Type 0 where
  pub slot : ℕ
  pub count : ℕ
  pub rest : List Record
  pub is : items ≡ Base slot count ∷ rest
  pub group : OpenGroup size slot last

not_in_log : (size : TableSize) (item : Record) (items : List Record) (last : Reading) → IsChange item → run size (first size) (item ∷ items) ≡ Some last → is_in_group last.place ≡ true → ⊥
not_in_log size item items last change e is_rows =
    let log = runs_log size (fresh_kept size) (item ∷ items) last (sym (start_as_log size (fresh_kept size) item items change) ∙ e) in
    false≢true (ap is_in_group (sym log.0) ∙ is_rows)

most_rows : (size : TableSize) (count : ℕ) → may_have_rows size count ≡ true → count ≤ row_count size
most_rows size count may = elim (count_may size count may) [ inl table ↦ omega (arith, table) | inr jobs ↦ omega (arith, jobs) ]

begun_base : (size : TableSize) (slot count : ℕ) (items : List Record) (last : Reading) → run size (first size) (Base slot count ∷ items) ≡ Some last → is_in_group last.place ≡ true → OpenGroup size slot last
begun_base size slot count items last e is_rows =
    let parts = run_steps size Start (fresh_kept size) (Base slot count) items last e in
    let now = base_kept size count parts.next (may_have_rows size count) parts.at in
    elim (cases_eq 0 count) [
      | inl same ↦
          let rest = base_rest size slot count items last parts.next CopyStart now.1 (group_done count 0 same) parts.rest in
          absurd (copy_not_rows size slot (rows_of_group size []) items Nothing None last (nothing_copied slot) rest is_rows)
      | inr other ↦
          let rest = base_rest size slot count items last parts.next (Rows count) now.1 (group_open count 0 other) parts.rest in
          group_open_at size slot count items [] last (omega (arith, other)) (most_rows size count now.0) rest is_rows
    ]

pub begun : (size : TableSize) (items : List Record) (last : Reading) → run size (first size) items ≡ Some last → is_in_group last.place ≡ true → Begun size items last
begun size [] last e is_rows =
    let same : first size ≡ last = same_Some (first size) last e in
    absurd (false≢true (ap (λ (s : Reading). is_in_group s.place) same ∙ is_rows))
begun size (Tried ballot ∷ items) last e is_rows = absurd (not_in_log size (Tried ballot) items last tt e is_rows)
begun size (Promised ballot ∷ items) last e is_rows = absurd (not_in_log size (Promised ballot) items last tt e is_rows)
begun size (Voted vote ∷ items) last e is_rows = absurd (not_in_log size (Voted vote) items last tt e is_rows)
begun size (Base slot count ∷ items) last e is_rows =
    record { slot = slot; count = count; rest = items; is = refl; group = begun_base size slot count items last e is_rows }
begun size (Row slot row ∷ items) last e is_rows =
    let parts = run_steps size Start (fresh_kept size) (Row slot row) items last e in absurd (none-some parts.next parts.at)

-- ---- the rows that are to come, each fresh

abbrev pub missing : ℕ → ℕ → List JobRow
missing job count = map fresh_row (range_with_len job count)

missing_from : (size : TableSize) (job count : ℕ) → AreFrom size job (missing job count)
missing_from size job zero = tt
missing_from size job (suc count) = (refl, (fits_fresh size job, missing_from size (job + 1) count))

abbrev pub rows_of : ℕ → List JobRow → List Record
rows_of slot rows = map (λ (row : JobRow). Row slot row) rows

pub group_filled : (size : TableSize) (slot : ℕ) (last : Reading) → (group : OpenGroup size slot last)
    → run size last (rows_of slot (missing (length group.rows) (group.total - length group.rows)))
    ≡ Some (reading CopyStart (with_rows slot (rows_of_group size (group.rows ++ missing (length group.rows) (group.total - length group.rows)))))
group_filled size slot last group =
    let rows : List JobRow = missing (length group.rows) (group.total - length group.rows) in
    let count : length rows ≡ group.total - length group.rows = length-map-range_with_len fresh_row (length group.rows) (group.total - length group.rows) in
    ap (λ (s : Reading). run size s (rows_of slot rows)) group.is
    ∙ ap (λ (p : Place). run size (at_rows size slot p group.rows) (rows_of slot rows)) (sym (group_open group.total (length group.rows) (λ same. omega (arith, same, group.few))))
    ∙ rows_run size slot group.total rows group.rows (omega (arith, count, group.few)) (missing_from size (length group.rows) (group.total - length group.rows))

pub missing_records : (slot job count : ℕ) (size : TableSize) → slot < 2 ^ 64 → job + count ≤ row_count size → size.jobs < 2 ^ 32 → AreRecords (map record_bytes (rows_of slot (missing job count))) (rows_of slot (missing job count))
missing_records slot job zero size slot_fits within few = tt
missing_records slot job (suc count) size slot_fits within few =
    (IsRecord-fresh slot job slot_fits (omega (arith, within, few)), missing_records slot (job + 1) count size slot_fits (omega (arith, within)) few)
