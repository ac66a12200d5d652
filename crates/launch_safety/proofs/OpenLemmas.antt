-- A launch that is open was started under the version that is in force: none is adopted while one is open.
use Rattle.std.proofs.Common.{◌≡◌, ℕ, zero, suc, ◌+◌, inl, inr, List, [], ◌∷◌, ◌++◌, length, get_or, Option, None, Some, ℤ, refl, sym, ap, ◌∙◌, subst, arith}
use Rattle.std.specs.Prelude.{map, slice_get}
use Rattle.std.specs.List.{range_with_len}
use Rattle.std.proofs.lemmas.Bool.{cases_eq}
use Rattle.std.proofs.lemmas.List.{append-nil, append_assoc}
use Rattle.std.proofs.lemmas.Option.{slice_get-get_or}
use Rattle.paxos_base.specs.Rows.{fresh_row, row_count}
use Rattle.paxos_base.specs.declared.entry.Entry.{Entry}
use Rattle.paxos_base.specs.declared.entry.Entry.TheVariants.{Noop, Start, End, Table as TableEntry}
use Rattle.paxos_base.specs.declared.entry.Kind.{Kind}
use Rattle.paxos_base.specs.declared.entry.Kind.TheVariants.{Launch, Void}
use Rattle.paxos_base.specs.declared.rows.JobRow.{JobRow}
use Rattle.due_set.specs.Table.{Table}
use Rattle.launch_machine.specs.Clerk.{Applies, AppliesAll, IsClerkOf, TakesStart, TakesEnd, TakesTable, adopted_row, closed_row, first_rows, in_force, opened_row, table_size, with_row}
use Rattle.launch_machine.specs.declared.force.InForce.{InForce}
use Rattle.launch_machine.proofs.ClerkLemmas.{IsClerkOf-push}
use Rattle.launch_machine.proofs.MachineLemmas.{set_there}
use Rattle.launch_machine.proofs.StartLemmas.{changed}
use Rattle.launch_machine.proofs.VersionRows.{clerk_stands, ended_force, started_force}
use Rattle.launch_safety.specs.Fits.{HasStart, IsStartedUnder}
use Rattle.launch_safety.proofs.EffectLemmas.{started_last, started_more, was_started}

-- where the row is open, its launch was started under the version
abbrev IsOpenUnder : Table → List Entry → (version job : ℕ) (cursor open_now : Option ℤ) → Type 0
IsOpenUnder table log version job cursor None = Unit {0}
IsOpenUnder table log version job cursor (Some since) = (at : ℤ) × (cursor ≡ Some at) × IsStartedUnder table log version job at

-- the same of the job's row, where there is one
abbrev HasOpen : Table → List Entry → List JobRow → ℕ → Type 0
HasOpen table log rows job = (row : JobRow) → slice_get rows job ≡ Some row → IsOpenUnder table log (in_force table rows).version job row.cursor row.open_now

open_more : (table : Table) (log more : List Entry) (version job : ℕ) (cursor open_now : Option ℤ) → IsOpenUnder table log version job cursor open_now
    → IsOpenUnder table (log ++ more) version job cursor open_now
open_more table log more version job cursor None known = tt
open_more table log more version job cursor (Some since) (at, is, start) = (at, is, started_more table log more version job at start)

-- a row that is closed says nothing
open_none : (table : Table) (log : List Entry) (version job : ℕ) (row : JobRow) → row.open_now ≡ None → IsOpenUnder table log version job row.cursor row.open_now
open_none table log version job row shut = subst (IsOpenUnder table log version job row.cursor) (sym shut) tt

-- an entry that leaves the row and the version leaves what is said
open_left : (table : Table) (log more : List Entry) (rows middle : List JobRow) (job : ℕ) → slice_get middle job ≡ slice_get rows job
    → in_force table middle ≡ in_force table rows → HasOpen table log rows job → HasOpen table (log ++ more) middle job
open_left table log more rows middle job e force known row is_row =
    subst (λ (f : InForce). IsOpenUnder table (log ++ more) f.version job row.cursor row.open_now) (sym force)
    (open_more table log more (in_force table rows).version job row.cursor row.open_now (known row (sym e ∙ is_row)))

open_start : (table : Table) (log : List Entry) (rows middle : List JobRow) (job : ℕ) (at now : ℤ) → IsClerkOf table log rows → TakesStart table rows job at now
    → middle ≡ with_row (opened_row at now) rows job → HasOpen table (log ++ Start job at now ∷ []) middle job
open_start table log rows middle job at now clerk takes e row is_row =
    let opened : opened_row at now takes.row ≡ row = changed (opened_row at now) rows job takes.row row takes.is_row (ap (λ (m : List JobRow). slice_get m job) (sym e) ∙ is_row) in
    let force : in_force table middle ≡ in_force table rows = started_force table rows middle job at now takes e in
    subst (λ (r : JobRow). IsOpenUnder table (log ++ Start job at now ∷ []) (in_force table middle).version job r.cursor r.open_now) opened
    (at, refl, started_last table log rows (in_force table middle).version job at now clerk takes (ap (λ (f : InForce). f.version) (sym force)))

pub closed_is : (at : ℤ) (kind : Kind) (old : JobRow) → (closed_row at kind old).open_now ≡ None
closed_is at Launch old = refl
closed_is at Void old = refl

open_end : (table : Table) (log : List Entry) (rows middle : List JobRow) (job : ℕ) (at : ℤ) (kind : Kind) → TakesEnd rows job at
    → middle ≡ with_row (closed_row at kind) rows job → HasOpen table log middle job
open_end table log rows middle job at kind takes e row is_row =
    let closed : closed_row at kind takes.row ≡ row = changed (closed_row at kind) rows job takes.row row takes.is_row (ap (λ (m : List JobRow). slice_get m job) (sym e) ∙ is_row) in
    open_none table log (in_force table middle).version job row (ap (λ (r : JobRow). r.open_now) (sym closed) ∙ closed_is at kind takes.row)

-- where a version is adopted, no row is open
open_table : (table : Table) (log : List Entry) (rows middle : List JobRow) (version : ℕ) (now : ℤ) (job : ℕ) → IsClerkOf table log rows → TakesTable table rows version now
    → middle ≡ with_row (adopted_row version now) rows (length table.jobs) → HasOpen table (log ++ TableEntry version now ∷ []) middle job
open_table table log rows middle version now job clerk takes e row is_row = elim (cases_eq job own) [
  | inl same ↦ open_none table (log ++ TableEntry version now ∷ []) (in_force table middle).version job row (own_shut (subst (λ (k : ℕ). slice_get middle k ≡ Some row) same is_row))
  | inr other ↦
      let there : slice_get middle job ≡ slice_get rows job =
      ap (λ (m : List JobRow). slice_get m job) e ∙ set_there rows own job (adopted_row version now (get_or rows own (fresh_row own))) other in
      open_none table (log ++ TableEntry version now ∷ []) (in_force table middle).version job row ((takes.ended job row (sym there ∙ is_row)).closed)
]
  where
    own : ℕ
    own = length table.jobs

    own_shut : slice_get middle own ≡ Some row → row.open_now ≡ None
    own_shut is =
        let old : JobRow = get_or rows own (fresh_row own) in
        let here : slice_get rows own ≡ Some old = slice_get-get_or rows own (fresh_row own) (omega (arith, (clerk_stands table log rows clerk).numbered.count)) in
        let adopted : adopted_row version now old ≡ row = changed (adopted_row version now) rows own old row here (ap (λ (m : List JobRow). slice_get m own) (sym e) ∙ is) in
        ap (λ (r : JobRow). r.open_now) (sym adopted) ∙ (takes.ended own old here).closed

-- one more entry
open_next : (table : Table) (log : List Entry) (rows middle : List JobRow) (entry : Entry) (job : ℕ) → IsClerkOf table log rows → Applies table rows entry middle
    → HasOpen table log rows job → HasOpen table (log ++ entry ∷ []) middle job
open_next table log rows middle entry job clerk (inr (not, e)) known =
    open_left table log (entry ∷ []) rows middle job (ap (λ (m : List JobRow). slice_get m job) e) (ap (in_force table) e) known
open_next table log rows middle Noop job clerk (inl (takes, e)) known = absurd takes
open_next table log rows middle (TableEntry version now) job clerk (inl (takes, e)) known = open_table table log rows middle version now job clerk takes e
open_next table log rows middle (Start j at now) job clerk (inl (takes, e)) known =
    elim (cases_eq job j) [
      | inl same ↦ subst (λ (k : ℕ). HasOpen table (log ++ Start k at now ∷ []) middle job) same (
          open_start table log rows middle job at now clerk (subst (λ (k : ℕ). TakesStart table rows k at now) (sym same) takes)
          (e ∙ ap (with_row (opened_row at now) rows) (sym same))
          )
      | inr ne ↦ open_left table log (Start j at now ∷ []) rows middle job
          (ap (λ (m : List JobRow). slice_get m job) e ∙ set_there rows j job (opened_row at now (get_or rows j (fresh_row j))) ne)
          (started_force table rows middle j at now takes e) known
    ]
open_next table log rows middle (End j at kind) job clerk (inl (takes, e)) known =
    elim (cases_eq job j) [
      | inl same ↦ subst (λ (k : ℕ). HasOpen table (log ++ End k at kind ∷ []) middle job) same (
          open_end table (log ++ End job at kind ∷ []) rows middle job at kind (subst (λ (k : ℕ). TakesEnd rows k at) (sym same) takes)
          (e ∙ ap (with_row (closed_row at kind) rows) (sym same))
          )
      | inr ne ↦ open_left table log (End j at kind ∷ []) rows middle job
          (ap (λ (m : List JobRow). slice_get m job) e ∙ set_there rows j job (closed_row at kind (get_or rows j (fresh_row j))) ne)
          (ended_force table rows middle j at kind (clerk_stands table log rows clerk) takes e) known
    ]

-- more entries
open_along : (table : Table) (log entries : List Entry) (rows last : List JobRow) (job : ℕ) → IsClerkOf table log rows → AppliesAll table rows entries last
    → HasOpen table log rows job → HasOpen table (log ++ entries) last job
open_along table log [] rows last job clerk e known =
    subst (λ (l : List Entry). HasOpen table l last job) (sym (append-nil log)) (subst (λ (r : List JobRow). HasOpen table log r job) (sym e) known)
open_along table log (entry ∷ entries) rows last job clerk (middle, step, rest) known =
    let longer : IsClerkOf table (log ++ entry ∷ []) middle = (IsClerkOf-push table log entry middle).1 (rows, clerk, step) in
    subst (λ (l : List Entry). HasOpen table l last job) (append_assoc log (entry ∷ []) entries)
    (open_along table (log ++ entry ∷ []) entries middle last job longer rest (open_next table log rows middle entry job clerk step known))

fresh_shut : (a n k : ℕ) (row : JobRow) → slice_get (map fresh_row (range_with_len a n)) k ≡ Some row → row.open_now ≡ None
fresh_shut a zero k row e = absurd cc
fresh_shut a (suc n) zero row e = let row_is : fresh_row a ≡ row = cc in ap (λ (r : JobRow). r.open_now) (sym row_is)
fresh_shut a (suc n) (suc k) row e = fresh_shut (a + 1) n k row e

clerk_opens : (table : Table) (log : List Entry) (rows : List JobRow) (job : ℕ) → IsClerkOf table log rows → HasOpen table log rows job
clerk_opens table log rows job clerk = open_along table [] log (first_rows table) rows job refl clerk at_first
  where
    at_first : HasOpen table [] (first_rows table) job
    at_first row is_row =
        open_none table [] (in_force table (first_rows table)).version job row (fresh_shut 0 (row_count (table_size table)) job row is_row)

-- an open launch was started under the version that is in force
pub record IsOpenSince (table : Table) (log : List Entry) (version job : ℕ) (cursor : Option ℤ) : Type 0 where
  pub at : ℤ
  pub is : cursor ≡ Some at
  pub start : IsStartedUnder table log version job at

pub open_under : (table : Table) (log : List Entry) (rows : List JobRow) (job : ℕ) (row : JobRow) (since : ℤ) → IsClerkOf table log rows → slice_get rows job ≡ Some row
    → row.open_now ≡ Some since → IsOpenSince table log (in_force table rows).version job row.cursor
open_under table log rows job row since clerk is_row is_open =
    let version : ℕ = (in_force table rows).version in
    let found : IsOpenUnder table log version job row.cursor (Some since) =
    subst (IsOpenUnder table log version job row.cursor) is_open (clerk_opens table log rows job clerk row is_row) in
    record { at = found.0; is = found.1; start = found.2 }

-- an end that takes effect closes a launch that was started under the version that is in force
pub start_under : (table : Table) (before : List Entry) (rows : List JobRow) (job : ℕ) (at : ℤ) → IsClerkOf table before rows → TakesEnd rows job at
    → IsStartedUnder table before (in_force table rows).version job at
start_under table before rows job at clerk takes =
    let found = open_under table before rows job takes.row takes.since clerk takes.is_row takes.is_open in
    let same : Some found.at ≡ Some at = sym found.is ∙ takes.cursor in
    let at_is : found.at ≡ at = cc in
    subst (IsStartedUnder table before (in_force table rows).version job) at_is found.start

pub start_before : (table : Table) (before : List Entry) (rows : List JobRow) (job : ℕ) (at : ℤ) → IsClerkOf table before rows → TakesEnd rows job at
    → HasStart table before job at
start_before table before rows job at clerk takes =
    was_started table before (in_force table rows).version job at (start_under table before rows job at clerk takes)
