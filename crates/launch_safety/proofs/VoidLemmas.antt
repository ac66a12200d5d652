-- A launch that was given up, and its log.
use Rattle.std.proofs.Common.{◌≡◌, ℕ, ◌<◌, inl, inr, List, [], ◌∷◌, length, None, Some, ℤ, ◌≤ℤ◌, refl, sym, ap, ◌∙◌, subst, arith}
use Rattle.std.specs.Prelude.{All, slice_get}
use Rattle.std.proofs.lemmas.List.Elements.{All-cons, All-nil}
use Rattle.std.proofs.lemmas.List.FromFn.{get_or-map-range_with_len, length-map-range_with_len}
use Rattle.std.proofs.lemmas.Option.{slice_get-get_or, slice_get_within}
use Rattle.jiff.specs.Types.{TimeZone}
use Rattle.paxos_base.specs.declared.entry.Entry.{Entry}
use Rattle.paxos_base.specs.declared.entry.Entry.TheVariants.{Start, End}
use Rattle.paxos_base.specs.declared.entry.Kind.{Kind}
use Rattle.paxos_base.specs.declared.entry.Kind.TheVariants.{Void}
use Rattle.due_set.specs.Anacron.{IsJobOpen}
use Rattle.due_set.specs.Calls.{HasCome}
use Rattle.due_set.specs.Table.{Job, Table, IsJobIn, IsNextDue, IsSound}
use Rattle.due_set.proofs.Rising.{Contains-head}
use Rattle.cluster_sched.specs.Held.{AreNamedOnce}
use Rattle.cluster_sched.specs.declared.row.SchedRow.{SchedRow}
use Rattle.launch_machine.specs.Answers.{IsCallKind}
use Rattle.paxos_base.specs.Rows.{fresh_row, row_count}
use Rattle.launch_machine.specs.Clerk.{MayStart, TakesStart, first_force, first_rows, table_size}
use Rattle.launch_machine.specs.declared.force.InForce.{InForce}
use Rattle.launch_machine.proofs.MachineLemmas.{first_in_force}
use Rattle.launch_safety.specs.Fits.{Fits, HasEnd, IsBacked, IsHeld}
use Rattle.launch_safety.proofs.EffectLemmas.{IsEffective-cases, nothing_effective}
use Rattle.launch_safety.proofs.OrderLemmas.{fits_whole}

-- the row of a void
abbrev pub void_row : ℕ → ℤ → ℤ → ℕ → SchedRow
void_row job at called by = record { name = record { job = job; at = at }; kind = Void; now = record { 0 = called }; by = by }

-- the log of a launch that was started and given up
abbrev pub void_log : ℕ → ℤ → ℤ → List Entry
void_log job at started = Start job at started ∷ End job at Void ∷ []

-- at first each job has a fresh row
pub fresh_in : (table : Table) (job : ℕ) → job < length table.jobs → slice_get (first_rows table) job ≡ Some (fresh_row job)
fresh_in table job below =
    let total : ℕ = row_count (table_size table) in
    let count : length (first_rows table) ≡ total = length-map-range_with_len fresh_row 0 total in
    slice_get-get_or (first_rows table) job (fresh_row job) (omega (arith, count, below))
    ∙ ap Some (get_or-map-range_with_len fresh_row 0 total job job (fresh_row job) (omega (arith, below)) (omega arith))

void_ended : (table : Table) (job : ℕ) (at started called : ℤ) (by j : ℕ) (t : ℤ) (kind : Kind) → HasEnd table (void_log job at started) j t kind
    → IsHeld (void_row job at called by ∷ []) j t kind
void_ended table job at started called by j t kind known =
    elim (IsEffective-cases table (Start job at started ∷ []) (End job at Void) (End j t kind) known) [
      | inl e ↦ record {
        row = void_row job at called by;
        among = Contains-head (void_row job at called by) [];
        of_job = cc;
        due_at = cc;
        of_kind = cc;
      }
      | inr more ↦ elim (IsEffective-cases table [] (Start job at started) (End j t kind) more) [
        | inl e ↦ absurd (cc)
        | inr none ↦ absurd (nothing_effective table (End j t kind) none)
      ]
    ]

module _ (table : Table) (job : ℕ) (at started called : ℤ) (by : ℕ) (spec : Job) (zone : TimeZone) (sound : IsSound table)
    (may : MayStart table first_force job (fresh_row job) at started) (is_in : IsJobIn table 0 job spec zone) (called_then : HasCome spec.kind zone at called)
    (is_void : IsCallKind table 0 job at called Void) where
  known : job < length table.jobs
  known = slice_get_within table.jobs job spec is_in.is_job

  takes : TakesStart table (first_rows table) job at started
  takes = record {
    known = known;
    row = fresh_row job;
    is_row = fresh_in table job known;
    idle = refl;
    may = subst (λ (force : InForce). MayStart table force job (fresh_row job) at started) (sym (first_in_force table)) may;
  }

  backed : IsBacked table (void_log job at started) (void_row job at called by)
  backed = record {
    version = 0;
    start = record {
      now = started;
      before = [];
      after = End job at Void ∷ [];
      parts = refl;
      rows = first_rows table;
      clerk = refl;
      takes = takes;
      in_force = ap (λ (force : InForce). force.version) (first_in_force table);
    };
    spec = spec;
    zone = zone;
    is_in = is_in;
    come = called_then;
    kind = is_void;
  }

  all_backed : All (IsBacked table (void_log job at started)) (void_row job at called by ∷ [])
  all_backed = All-cons (IsBacked table (void_log job at started)) (void_row job at called by) [] backed (All-nil (IsBacked table (void_log job at started)))

  once : AreNamedOnce (void_row job at called by ∷ [])
  once i j d less within = absurd (omega arith)

  started_void_fits : Fits table (void_log job at started) (void_row job at called by ∷ [])
  started_void_fits = fits_whole table (void_log job at started) (void_row job at called by ∷ []) sound once all_backed
      (λ j t kind known. void_ended table job at started called by j t kind known)

pub void_fits : (table : Table) (job : ℕ) (at started called : ℤ) (by : ℕ) (spec : Job) (zone : TimeZone) → IsSound table → IsNextDue table 0 job None at
    → at ≤ℤ started → IsJobIn table 0 job spec zone → HasCome spec.kind zone at called → IsCallKind table 0 job at called Void
    → Fits table (void_log job at started) (void_row job at called by ∷ [])
void_fits table job at started called by spec zone sound next come is_in called_then is_void =
    started_void_fits table job at started called by spec zone sound (inl (next, come)) is_in called_then is_void

pub void_of_date_fits : (table : Table) (job : ℕ) (date started called : ℤ) (by : ℕ) (spec : Job) (zone : TimeZone) → IsSound table
    → IsJobOpen table 0 job None None started date → IsJobIn table 0 job spec zone → HasCome spec.kind zone date called → IsCallKind table 0 job date called Void
    → Fits table (void_log job date started) (void_row job date called by ∷ [])
void_of_date_fits table job date started called by spec zone sound opens is_in called_then is_void =
    started_void_fits table job date started called by spec zone sound (inr opens) is_in called_then is_void
