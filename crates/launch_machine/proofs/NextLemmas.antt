-- The first instant at which a start takes effect, by what stands beside the rows.
use Rattle.std.proofs.Common.{◌≡◌, ℕ, ◌<◌, List, Option, None, Some, ℤ, ◌≤ℤ◌, ◌≤◌, length, inl, inr, refl, subst, arith}
use Rattle.std.specs.Prelude.{slice_get}
use Rattle.std.proofs.lemmas.Bool.{cases_lt}
use Rattle.std.proofs.lemmas.Bool.Decides.{leb_tells}
use Rattle.std.proofs.lemmas.Int.{ints}
use Rattle.std.proofs.lemmas.Option.{slice_get_within}
use Rattle.paxos_base.specs.declared.rows.JobRow.{JobRow}
use Rattle.due_set.specs.Table.{Table}
use Rattle.min_tree.specs.Least.{HasNone, HasNoneAtMost, IsAtMost, IsFirstAtMost, IsLeast}
use Rattle.paxos_base.specs.Rows.{row_count}
use Rattle.launch_machine.specs.Clerk.{TakesStart, in_force, table_size}
use Rattle.launch_machine.specs.declared.force.InForce.{InForce}
use Rattle.launch_machine.specs.Intent.{MayCall}
use Rattle.launch_machine.specs.Machine.{AreCalls, AreNextStarts, IsCallBeside, IsFirstStartOf, IsFirstToStart, IsStartBeside}
use Rattle.launch_machine.specs.Next.{IsNextStart, StartsNoMore}
use Rattle.launch_machine.proofs.MachineLemmas.{beside_row}
use Rattle.due_set.proofs.SoundLemmas.{at_place}
use Rattle.zone_minutes.specs.Window.{IsInWindow}

-- beside a row whose job may be started stands the first instant at which it may be
pub record StartStands (table : Table) (force : InForce) (starts : List (Option ℤ)) (job : ℕ) (row : JobRow) (now : ℤ) : Type 0 where
  pub first : ℤ
  pub here : slice_get starts job ≡ Some (Some first)
  pub is_first : IsFirstToStart table force job row first
  pub come : first ≤ℤ now

pub start_stands : (table : Table) (rows : List JobRow) (starts : List (Option ℤ)) (job : ℕ) (at now : ℤ) → AreNextStarts table rows starts
    → (takes : TakesStart table rows job at now) → StartStands table (in_force table rows) starts job takes.row now
start_stands table rows starts job at now known takes =
    let found = beside_row (IsStartBeside table (in_force table rows)) rows starts job takes.row known takes.is_row in
    by found.0 found.1 (found.2.idle takes.known takes.idle)
  where
    by : (start : Option ℤ) → slice_get starts job ≡ Some start → IsFirstStartOf table (in_force table rows) job takes.row start
        → StartStands table (in_force table rows) starts job takes.row now
    by None here none = absurd (none at now takes.may)
    by (Some first) here is = record { first = first; here = here; is_first = is; come = is.least at now takes.may }

-- where an instant stands beside a row, its job is idle, and it's the first at which it may be started
pub record StartsAt (table : Table) (force : InForce) (job : ℕ) (row : JobRow) (first : ℤ) : Type 0 where
  pub known : job < length table.jobs
  pub idle : row.open_now ≡ None
  pub is_first : IsFirstToStart table force job row first

pub idle_first : (table : Table) (rows : List JobRow) (starts : List (Option ℤ)) (job : ℕ) (row : JobRow) (first : ℤ) → AreNextStarts table rows starts
    → slice_get rows job ≡ Some row → slice_get starts job ≡ Some (Some first) → StartsAt table (in_force table rows) job row first
idle_first table rows starts job row first known is_row here = by row.open_now refl
  where
    beside : IsStartBeside table (in_force table rows) job row (Some first)
    beside = known.each job row (Some first) is_row here

    by : (open_now : Option ℤ) → row.open_now ≡ open_now → StartsAt table (in_force table rows) job row first
    by None idle = elim (cases_lt job (length table.jobs)) [
      | inl below ↦ record { known = below; idle = idle; is_first = beside.idle below idle }
      | inr past ↦ absurd (cc (beside.own past))
    ]
    by (Some since) is_open = absurd (cc (beside.opened since is_open))

-- before it no start takes effect
pub no_start_before : (table : Table) (rows : List JobRow) (starts : List (Option ℤ)) (job : ℕ) (at now first : ℤ) → AreNextStarts table rows starts
    → slice_get starts job ≡ Some (Some first) → (first ≤ℤ now → ⊥) → TakesStart table rows job at now → ⊥
no_start_before table rows starts job at now first known here late takes =
    let stands = start_stands table rows starts job at now known takes in
    let same : stands.first ≡ first = cc (stands.here, here) in
    late (subst (λ (t : ℤ). t ≤ℤ now) same stands.come)

-- and where none stands none does
pub start_none : (table : Table) (rows : List JobRow) (starts : List (Option ℤ)) (job : ℕ) (at now : ℤ) → AreNextStarts table rows starts
    → slice_get starts job ≡ Some None → TakesStart table rows job at now → ⊥
start_none table rows starts job at now known here takes =
    let stands = start_stands table rows starts job at now known takes in
    absurd (cc (stands.here, here))

pub next_start_found : (table : Table) (rows : List JobRow) (starts : List (Option ℤ)) (first : ℤ) → AreNextStarts table rows starts → IsLeast starts first
    → IsNextStart table rows first
next_start_found table rows starts first known least =
    let lt : least.place < length rows = subst (λ (n : ℕ). least.place < n) known.count (slice_get_within starts least.place (Some first) least.here) in
    let row = at_place rows least.place lt in
    let at = idle_first table rows starts least.place row.0 first known row.1 least.here in
    record {
      job = least.place;
      at = at.is_first.at;
      takes = record { known = at.known; row = row.0; is_row = row.1; idle = at.idle; may = at.is_first.may };
      least = λ other day now takes.
          let stands = start_stands table rows starts other day now known takes in
          let sooner : first ≤ℤ stands.first = least.least other stands.first stands.here in
          let come : stands.first ≤ℤ now = stands.come in
          omega (arith, ints);
    }

pub starts_no_more : (table : Table) (rows : List JobRow) (starts : List (Option ℤ)) → AreNextStarts table rows starts → HasNone starts → StartsNoMore table rows
starts_no_more table rows starts known none job at now takes =
    let stands = start_stands table rows starts job at now known takes in
    none job stands.first stands.here

-- no start takes effect where nothing that stands beside a row has come
pub no_start_between : (table : Table) (rows : List JobRow) (starts : List (Option ℤ)) (now : ℤ) (from job : ℕ) → AreNextStarts table rows starts
    → ((before : ℕ) (other : ℤ) → before < from → TakesStart table rows before other now → ⊥)
    → ((before : ℕ) (value : Option ℤ) → from ≤ before → before < job → slice_get starts before ≡ Some value → IsAtMost now value → ⊥)
    → (before : ℕ) (other : ℤ) → before < job → TakesStart table rows before other now → ⊥
no_start_between table rows starts now from job known none between before other lt takes =
    elim (leb_tells from before) [
      | inl is ↦
          let stands = start_stands table rows starts before other now known takes in
          between before (Some stands.first) is.1 lt stands.here stands.come
      | inr is ↦ none before other is.1 takes
    ]

pub no_start_after : (table : Table) (rows : List JobRow) (starts : List (Option ℤ)) (now : ℤ) (from : ℕ) → AreNextStarts table rows starts
    → ((before : ℕ) (other : ℤ) → before < from → TakesStart table rows before other now → ⊥) → HasNoneAtMost starts from now
    → (job : ℕ) (at : ℤ) → TakesStart table rows job at now → ⊥
no_start_after table rows starts now from known none rest job at takes =
    elim (leb_tells from job) [
      | inl is ↦
          let stands = start_stands table rows starts job at now known takes in
          rest job (Some stands.first) is.1 stands.here stands.come
      | inr is ↦ none job at is.1 takes
    ]

-- the same of calls
call_stands : (table : Table) (rows : List JobRow) (calls : List (Option ℤ)) (job : ℕ) (at now : ℤ) → AreCalls table rows calls → IsInWindow table.window now
    → MayCall table rows job at now → (value : Option ℤ) × (slice_get calls job ≡ Some value) × IsAtMost now value
call_stands table rows calls job at now known inside may =
    let found = beside_row (IsCallBeside table (in_force table rows)) rows calls job may.row known may.is_row in
    (found.0, found.1, found.2 at now may.since may.spec may.zone may.known inside may.is_open may.cursor may.is_in may.come)

pub no_call_between : (table : Table) (rows : List JobRow) (calls : List (Option ℤ)) (now : ℤ) (from job : ℕ) → AreCalls table rows calls → IsInWindow table.window now
    → ((before : ℕ) (other : ℤ) → before < from → MayCall table rows before other now → ⊥)
    → ((before : ℕ) (value : Option ℤ) → from ≤ before → before < job → slice_get calls before ≡ Some value → IsAtMost now value → ⊥)
    → (before : ℕ) (other : ℤ) → before < job → MayCall table rows before other now → ⊥
no_call_between table rows calls now from job known inside none between before other lt may =
    elim (leb_tells from before) [
      | inl is ↦
          let stands = call_stands table rows calls before other now known inside may in
          between before stands.0 is.1 lt stands.1 stands.2
      | inr is ↦ none before other is.1 may
    ]

pub no_call_after : (table : Table) (rows : List JobRow) (calls : List (Option ℤ)) (now : ℤ) (from : ℕ) → AreCalls table rows calls → IsInWindow table.window now
    → ((before : ℕ) (other : ℤ) → before < from → MayCall table rows before other now → ⊥) → HasNoneAtMost calls from now
    → (job : ℕ) (at : ℤ) → MayCall table rows job at now → ⊥
no_call_after table rows calls now from known inside none rest job at may =
    elim (leb_tells from job) [
      | inl is ↦
          let stands = call_stands table rows calls job at now known inside may in
          rest job stands.0 is.1 stands.1 stands.2
      | inr is ↦ none job at is.1 may
    ]

-- a place that was found is that of a row
pub place_within : (values : List (Option ℤ)) (rows : List JobRow) (table : Table) (from : ℕ) (limit : ℤ) (place : ℕ) → IsFirstAtMost values from limit place
    → length values ≡ length rows → length rows ≡ row_count (table_size table) → place < row_count (table_size table)
place_within values rows table from limit place found values_are rows_are =
    let below = slice_get_within values place found.value found.here in
    omega arith
