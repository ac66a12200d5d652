-- What a settled log has started and ended.
use Rattle.std.proofs.Common.{◌≡◌, ℕ, ◌<◌, inl, inr, false, List, [], length, Option, None, Some, ℤ, ◌≤ℤ◌, refl, sym, subst, arith}
use Rattle.std.specs.Prelude.{slice_get}
use Rattle.std.proofs.lemmas.Int.{ints, by_lt_z}
use Rattle.std.proofs.lemmas.Option.{slice_get_within}
use Rattle.paxos_base.specs.Rows.{row_count}
use Rattle.paxos_base.specs.declared.entry.Entry.{Entry}
use Rattle.paxos_base.specs.declared.entry.Kind.{Kind}
use Rattle.paxos_base.specs.declared.rows.JobRow.{JobRow}
use Rattle.due_set.specs.Calls.{HasCome}
use Rattle.due_set.specs.Table.{Table, IsJobDue, IsSound, is_by_period}
use Rattle.due_set.specs.declared.job.JobKind.{JobKind}
use Rattle.due_set.proofs.ExistLemmas.{next_up_to}
use Rattle.due_set.proofs.NamedLemmas.{due_says, named_in_table}
use Rattle.due_set.proofs.Rising.{Contains-none}
use Rattle.due_set.proofs.SoundLemmas.{at_place}
use Rattle.launch_machine.specs.Clerk.{IsClerkOf, in_force, later_of, table_size}
use Rattle.launch_machine.specs.Starts.{AdoptionsOf}
use Rattle.launch_machine.specs.Versions.{IsDueUnder, version_at}
use Rattle.launch_machine.specs.declared.force.InForce.{InForce}
use Rattle.launch_machine.proofs.VersionRows.{clerk_stands}
use Rattle.launch_safety.specs.Fits.{HasStart, HasEnd}
use Rattle.launch_safety.specs.Settled.{IsSettled}
use Rattle.launch_safety.proofs.CoverLemmas.{IsCovered, IsOver, IsPlainlyNamed, IsToCome, clerk_covers, over_or_due, over_or_next}
use Rattle.launch_safety.proofs.OpenLemmas.{open_under}

-- each job of the table has a row
pub row_of : (table : Table) (log : List Entry) (rows : List JobRow) (job : ℕ) → IsClerkOf table log rows → job < length table.jobs
    → (row : JobRow) × (slice_get rows job ≡ Some row)
row_of table log rows job clerk lt =
    let count : length rows ≡ row_count (table_size table) = (clerk_stands table log rows clerk).numbered.count in
    at_place rows job (omega (arith, count, lt))

module _ (table : Table) (log : List Entry) (adoptions : List ℤ) (now : ℤ) (job : ℕ) (at : ℤ) (adopted : AdoptionsOf table log adoptions)
    (settled : IsSettled table log now) (known : job < length table.jobs) (named : IsPlainlyNamed table job adoptions)
    (due : IsDueUnder table adoptions job at) (come : at ≤ℤ now) where
  abbrev force : InForce
  force = in_force table settled.rows

  -- nothing is to come that has come
  none_to_come : (row : JobRow) → slice_get settled.rows job ≡ Some row → row.open_now ≡ None → IsToCome table force job row.cursor at → ⊥
  none_to_come row is_row idle to_come =
      let found = next_up_to table force.version job (later_of row.cursor force.since) at to_come.due to_come.after in
      let le : found.0 ≤ℤ at = found.2 in
      settled.no_start job found.0 (record {
        known = known;
        row = row;
        is_row = is_row;
        idle = idle;
        may = inl (found.1, omega (arith, ints, le, come));
      })

  -- no row is open at an instant that has come
  none_open : (row : JobRow) (cursor since : ℤ) → slice_get settled.rows job ≡ Some row → row.cursor ≡ Some cursor → row.open_now ≡ Some since → IsJobDue table force.version job at
      → cursor ≤ℤ at → ⊥
  none_open row cursor since is_row is_cursor is_open is_due le =
      settled.no_call job cursor (record {
        known = known;
        row = row;
        is_row = is_row;
        since = since;
        is_open = is_open;
        cursor = is_cursor;
        spec = is_due.job;
        zone = is_due.zone;
        is_in = is_due.is_in;
        come = subst (λ (k : JobKind). HasCome k is_due.zone cursor now) (sym is_due.kind) (omega (arith, ints, le, come));
      })

  -- the instant is over
  by_row : (row : JobRow) (open_now : Option ℤ) → slice_get settled.rows job ≡ Some row → row.open_now ≡ open_now
      → IsCovered table log adoptions force job row.cursor row.open_now → IsOver table log job at
  by_row row None is_row shut covered = elim (over_or_next table log adoptions force job row.cursor row.open_now shut covered at due) [
    | inl over ↦ over
    | inr to_come ↦ absurd (none_to_come row is_row shut to_come)
  ]
  by_row row (Some since) is_row is_open covered = elim (over_or_due table log adoptions force job row.cursor row.open_now covered at due) [
    | inl over ↦ over
    | inr (is_due, after) ↦
        let opened = open_under table log settled.rows job row since settled.clerk is_row is_open in
        by_lt_z at opened.at
        (λ lt. covered.below opened.at at opened.is due lt)
        (λ le. absurd (none_open row opened.at since is_row opened.is is_open is_due le))
  ]

  pub settled_under : HasStart table log job at × (kind : Kind) × HasEnd table log job at kind
  settled_under =
      let found = row_of table log settled.rows job settled.clerk known in
      let covered = clerk_covers table log adoptions settled.rows job settled.clerk adopted known named found.0 found.1 in
      let over : IsOver table log job at = by_row found.0 found.0.open_now found.1 refl covered in
      (over.start, over.kind, over.ended)

-- where no version is adopted, of whatever job
pub settled_over : (table : Table) (log : List Entry) (now : ℤ) (job : ℕ) (at : ℤ) → AdoptionsOf table log [] → IsSettled table log now → IsJobDue table 0 job at
    → at ≤ℤ now → HasStart table log job at × (kind : Kind) × HasEnd table log job at kind
settled_over table log now job at adopted settled due come =
    settled_under table log [] now job at adopted settled (slice_get_within table.jobs job due.job due.is_in.is_job) (λ t h. absurd (Contains-none t h)) due come

pub settled_plain : (table : Table) (log : List Entry) (adoptions : List ℤ) (now : ℤ) (job : ℕ) (at : ℤ) → AdoptionsOf table log adoptions → IsSettled table log now
    → job < length table.jobs → is_by_period table job ≡ false → IsDueUnder table adoptions job at → at ≤ℤ now
    → HasStart table log job at × (kind : Kind) × HasEnd table log job at kind
settled_plain table log adoptions now job at adopted settled known named due come =
    settled_under table log adoptions now job at adopted settled known (λ t h. named) due come

-- in a sound table each job that is due is one of the table, and its name says that it doesn't run by a period
pub settled_sound : (table : Table) (log : List Entry) (adoptions : List ℤ) (now : ℤ) (job : ℕ) (at : ℤ) → IsSound table → AdoptionsOf table log adoptions
    → IsSettled table log now → IsDueUnder table adoptions job at → at ≤ℤ now → HasStart table log job at × (kind : Kind) × HasEnd table log job at kind
settled_sound table log adoptions now job at sound adopted settled due come =
    let version : ℕ = version_at adoptions at in
    let first = named_in_table table version job due.job sound due.is_in.is_job in
    settled_plain table log adoptions now job at adopted settled (slice_get_within table.jobs job first.0 first.1) (due_says table version job at sound due) due come
