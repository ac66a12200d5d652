-- A table of two versions, and a list of one entry, which adopts the second.
use Rattle.std.proofs.Common.{◌≡◌, ◌<◌, ℕ, zero, suc, List, [], ◌∷◌, ℤ, pos, refl, ap, ◌∙◌, sym, inl, arith}
use Rattle.std.specs.Prelude.{None, Some, slice_get}
use Rattle.std.proofs.lemmas.List.Elements.{All-nil, All-cons}
use Rattle.paxos_base.specs.declared.entry.Entry.{Entry}
use Rattle.paxos_base.specs.declared.entry.Entry.TheVariants.{Table as TableEntry}
use Rattle.paxos_base.specs.Rows.{fresh_row}
use Rattle.paxos_base.specs.declared.rows.JobRow.{JobRow}
use Rattle.due_set.specs.Table.{IsKindOfName, IsSound, IsVersionOf, Table}
use Rattle.launch_machine.specs.Clerk.{IsEndedRow, TakesTable, first_rows, rows_after}
use Rattle.launch_machine.proofs.MachineLemmas.{same_row}
use Rattle.launch_machine.specs.Starts.{AdoptionsOf}

-- two versions of a table without jobs, both in force from the first minute on
abbrev two_versions : Table
two_versions = record {
  window = record { from = record { 0 = pos 525_600 }; until = record { 0 = pos 525_601 } };
  grace = 0;
  zones = [];
  jobs = [];
  later = record { from = pos 525_600; jobs = [] } ∷ [];
}

is_sound : IsSound two_versions
is_sound = record {
  limits = record { since = grind arith; until = grind arith; ordered = grind arith; short = grind arith };
  grace = grind arith;
  built = λ k d within. absurd (omega (arith, within));
  zone_numbers = λ k d within. absurd (omega (arith, within));
  few = grind arith;
  distinct = λ i j d before within. absurd (omega (arith, within));
  kinds = λ k d within. absurd (omega (arith, within));
  versions = record {
    few = grind arith;
    each = All-cons (IsVersionOf two_versions) (record { from = pos 525_600; jobs = [] }) [] (record {
      inside = record { since = grind arith; before = grind arith };
      names = refl;
      zone_numbers = All-nil (λ job. job.zone < 0);
      kinds = All-nil (λ job. IsKindOfName job.name job.kind);
    }) (All-nil (IsVersionOf two_versions));
    in_order = λ i j d before within. absurd (omega (arith, before, within));
  };
}

is_ended : (job : ℕ) (row : JobRow) → slice_get (first_rows two_versions) job ≡ Some row → IsEndedRow two_versions (pos 525_600) job row
is_ended zero row is = record { closed = ap (λ (r : JobRow). r.open_now) (sym (same_row (first_rows two_versions) 0 (fresh_row 0) row refl is)); passed = λ below. absurd (omega (arith, below)) }
is_ended (suc job) row is = cc

adopts : TakesTable two_versions (first_rows two_versions) 1 (pos 525_600)
adopts = record {
  own = omega arith;
  next = refl;
  known = omega arith;
  come = omega arith;
  since = tt;
  ended = is_ended;
  no_start = λ job at takes. absurd (omega (arith, takes.known));
}

pub some_adoption : (table : Table) × (entries : List Entry) × (now : ℤ) × IsSound table × AdoptionsOf table entries (now ∷ [])
some_adoption = (
  two_versions,
  TableEntry 1 (pos 525_600) ∷ [],
  pos 525_600,
  is_sound,
  (rows_after two_versions (first_rows two_versions) (TableEntry 1 (pos 525_600)), [], inl (adopts, refl), inl (pos 525_600, record { version = 1; is = refl; takes = adopts }, refl), refl),
)
