-- Of a sound table, entries leave a launch table, and a job's starts and ends along them are there and are one.
use Rattle.std.proofs.Common.{◌≡◌, ◌≢◌, ℕ, ◌+◌, ◌<◌, length, ◌≤ℤ◌, ◌⊎◌, inl, inr, List, [], ◌∷◌, Option, None, Some, ℤ, refl, sym, ap, ◌∙◌, subst, arith}
use Rattle.std.specs.Prelude.{slice_get}
use Rattle.paxos_base.specs.declared.entry.Entry.{Entry}
use Rattle.paxos_base.specs.declared.entry.Entry.TheVariants.{Noop, Start, End, Table as TableEntry}
use Rattle.paxos_base.specs.declared.entry.Kind.{Kind}
use Rattle.paxos_base.specs.declared.entry.Kind.TheVariants.{Launch, Void}
use Rattle.paxos_base.specs.declared.rows.JobRow.{JobRow}
use Rattle.due_set.specs.Anacron.{IsJobOpen}
use Rattle.due_set.specs.Table.{Table, IsNextDue, IsSound}
use Rattle.due_set.proofs.CountLemmas.{IsNextDue-same}
use Rattle.due_set.proofs.DecideLemmas.{IsDecided, decided_both, decided_either, decided_le, decided_same}
use Rattle.due_set.proofs.ExistLemmas.{next_or_none}
use Rattle.due_set.proofs.OpenLemmas.{open_or_not, opens_on_one_date}
use Rattle.launch_machine.specs.Clerk.{Applies, AppliesAll, IsClerkOf, MayStart, TakesStart, TakesEnd, TakesEffect, first_rows, in_force, later_of, rows_after}
use Rattle.launch_machine.specs.declared.force.InForce.{InForce}
use Rattle.launch_machine.specs.Starts.{AddsAdoption, AddsEnd, AddsStart, AdoptionsFrom, AdoptionsOf, EndsFrom, EndsJob, EndsOf, StartsFrom, StartsJob, StartsOf}
use Rattle.launch_machine.proofs.AdoptionLemmas.{takes_table_or_not}
use Rattle.launch_machine.proofs.ClerkLemmas.{Applies-same}
use Rattle.launch_machine.proofs.MachineLemmas.{same_row}
use Rattle.std.proofs.lemmas.Bool.{cases_eq, cases_lt}

pub same_kind_or_not : (a b : Kind) → (a ≡ b) ⊎ (a ≢ b)
same_kind_or_not Launch Launch = inl refl
same_kind_or_not Launch Void = inr (λ e. cc)
same_kind_or_not Void Launch = inr (λ e. cc)
same_kind_or_not Void Void = inl refl

decided_next : (table : Table) → IsSound table → (version job : ℕ) (after : Option ℤ) (at : ℤ) → IsDecided (IsNextDue table version job after at)
decided_next table sound version job after at = elim (next_or_none table sound version job after) [
  | inl (first, next) ↦ elim (decided_same first at) [
    | inl e ↦ inl (subst (IsNextDue table version job after) e next)
    | inr ne ↦ inr (λ other. ne (IsNextDue-same table version job after first at next other))
  ]
  | inr none ↦ inr (λ other. none at other.due other.later)
]

-- whether the job's launch may be started
may_start_or_not : (table : Table) → IsSound table → (force : InForce) (job : ℕ) (row : JobRow) (at now : ℤ) → IsDecided (MayStart table force job row at now)
may_start_or_not table sound force job row at now =
    let version : ℕ = force.version in
    let after : Option ℤ = later_of row.cursor force.since in
    decided_either (IsNextDue table version job after at × (at ≤ℤ now)) (IsJobOpen table version job row.last row.cursor now at)
    (decided_both (IsNextDue table version job after at) (at ≤ℤ now) (decided_next table sound version job after at) (decided_le at now))
    (elim (open_or_not table version job row.last row.cursor now sound) [
      | inl (date, opens) ↦ elim (decided_same date at) [
        | inl e ↦ inl (subst (IsJobOpen table version job row.last row.cursor now) e opens)
        | inr ne ↦ inr (λ other. ne (opens_on_one_date table version job row.last row.cursor now date at opens other))
      ]
      | inr none ↦ inr (none at)
    ])

-- whether a start takes effect, by its job's row
start_by_row : (table : Table) → IsSound table → (rows : List JobRow) (job : ℕ) (at now : ℤ) (row : JobRow) → job < length table.jobs → slice_get rows job ≡ Some row
    → (open_now : Option ℤ) → row.open_now ≡ open_now → IsDecided (TakesStart table rows job at now)
start_by_row table sound rows job at now row known is_row (Some since) is_open =
    inr (λ takes. cc (ap (λ (r : JobRow). r.open_now) (same_row rows job takes.row row takes.is_row is_row), takes.idle, is_open))
start_by_row table sound rows job at now row known is_row None idle = elim (may_start_or_not table sound (in_force table rows) job row at now) [
  | inl may ↦ inl (record { known = known; row = row; is_row = is_row; idle = idle; may = may })
  | inr not ↦ inr (λ takes. not (subst (λ (r : JobRow). MayStart table (in_force table rows) job r at now) (same_row rows job takes.row row takes.is_row is_row) takes.may))
]

-- whether an end takes effect, by its job's row
end_by_row : (rows : List JobRow) (job : ℕ) (at : ℤ) (row : JobRow) → slice_get rows job ≡ Some row
    → (open_now cursor : Option ℤ) → row.open_now ≡ open_now → row.cursor ≡ cursor → IsDecided (TakesEnd rows job at)
end_by_row rows job at row is_row None cursor is_open is_cursor =
    inr (λ takes. cc (ap (λ (r : JobRow). r.open_now) (same_row rows job takes.row row takes.is_row is_row), takes.is_open, is_open))
end_by_row rows job at row is_row (Some since) None is_open is_cursor =
    inr (λ takes. cc (ap (λ (r : JobRow). r.cursor) (same_row rows job takes.row row takes.is_row is_row), takes.cursor, is_cursor))
end_by_row rows job at row is_row (Some since) (Some other) is_open is_cursor = elim (decided_same other at) [
  | inl e ↦ inl (record { row = row; is_row = is_row; since = since; is_open = is_open; cursor = is_cursor ∙ ap Some e })
  | inr ne ↦ inr (λ takes. ne (cc (ap (λ (r : JobRow). r.cursor) (same_row rows job takes.row row takes.is_row is_row), takes.cursor, is_cursor)))
]

-- of a sound table an entry takes effect or it doesn't
takes_or_not : (table : Table) → IsSound table → (rows : List JobRow) (entry : Entry) → IsDecided (TakesEffect table rows entry)
takes_or_not table sound rows Noop = inr (λ takes. takes)
takes_or_not table sound rows (TableEntry version now) = takes_table_or_not table sound rows version now
takes_or_not table sound rows (Start job at now) = by_row (slice_get rows job) refl
  where
    by_row : (found : Option JobRow) → slice_get rows job ≡ found → IsDecided (TakesStart table rows job at now)
    by_row None none = inr (λ takes. cc (takes.is_row, none))
    by_row (Some row) is_row = elim (cases_lt job (length table.jobs)) [
      | inl below ↦ start_by_row table sound rows job at now row below is_row row.open_now refl
      | inr past ↦ inr (λ takes. omega (arith, past, takes.known))
    ]
takes_or_not table sound rows (End job at kind) = by_row (slice_get rows job) refl
  where
    by_row : (found : Option JobRow) → slice_get rows job ≡ found → IsDecided (TakesEnd rows job at)
    by_row None none = inr (λ takes. cc (takes.is_row, none))
    by_row (Some row) is_row = end_by_row rows job at row is_row row.open_now row.cursor refl refl

pub one_applied : (table : Table) → IsSound table → (rows : List JobRow) (entry : Entry) → (middle : List JobRow) × Applies table rows entry middle
one_applied table sound rows entry = elim (takes_or_not table sound rows entry) [
  | inl takes ↦ (rows_after table rows entry, inl (takes, refl))
  | inr not ↦ (rows, inr (not, refl))
]

pub all_applied : (table : Table) → IsSound table → (rows : List JobRow) (entries : List Entry) → (last : List JobRow) × AppliesAll table rows entries last
all_applied table sound rows [] = (rows, refl)
all_applied table sound rows (entry ∷ entries) =
    let step = one_applied table sound rows entry in
    let rest = all_applied table sound step.0 entries in
    (rest.0, (step.0, step.1, rest.1))

-- entries leave a launch table
pub clerk_exists : (table : Table) → IsSound table → (entries : List Entry) → (rows : List JobRow) × IsClerkOf table entries rows
clerk_exists table sound entries = all_applied table sound (first_rows table) entries

-- whether an entry that is applied starts a launch of the job
starts_or_not : (table : Table) (rows : List JobRow) (entry : Entry) (middle : List JobRow) (job : ℕ) (later : List ℤ) → Applies table rows entry middle
    → (instants : List ℤ) × AddsStart table rows entry job later instants
starts_or_not table rows Noop middle job later applies = (later, inr (λ at starts. cc (starts.is), refl))
starts_or_not table rows (TableEntry version now) middle job later applies = (later, inr (λ at starts. cc (starts.is), refl))
starts_or_not table rows (End j at kind) middle job later applies = (later, inr (λ other starts. cc (starts.is), refl))
starts_or_not table rows (Start j at now) middle job later (inr (not, e)) =
    (later, inr (λ other starts. not (subst (TakesEffect table rows) (sym starts.is) starts.takes), refl))
starts_or_not table rows (Start j at now) middle job later (inl (takes, e)) =
    elim (cases_eq job j) [
      | inl same ↦ (
        at ∷ later,
        inl (
          at,
          record {
            now = now;
            is = ap (λ (k : ℕ). Start k at now) (sym same);
            takes = subst (λ (k : ℕ). TakesStart table rows k at now) (sym same) takes;
          },
          refl,
        ),
      )
      | inr ne ↦ (later, inr (λ other starts. ne (number other starts), refl))
    ]
  where
    number : (other : ℤ) → StartsJob table rows (Start j at now) job other → job ≡ j
    number other starts = let is : Start j at now ≡ Start job other starts.now = starts.is in cc

-- entries that are applied start some launches of the job
pub starts_exist : (table : Table) (rows : List JobRow) (entries : List Entry) (last : List JobRow) (job : ℕ) → AppliesAll table rows entries last
    → (instants : List ℤ) × StartsFrom table rows entries job instants
starts_exist table rows [] last job all = ([], refl)
starts_exist table rows (entry ∷ entries) last job (middle, step, rest) =
    let more = starts_exist table middle entries last job rest in
    let here = starts_or_not table rows entry middle job more.0 step in
    (here.0, (middle, more.0, step, here.1, more.1))

-- whether an entry that is applied ends a launch of the job with the kind
ends_or_not : (table : Table) (rows : List JobRow) (entry : Entry) (middle : List JobRow) (job : ℕ) (kind : Kind) (later : ℕ) → Applies table rows entry middle
    → (count : ℕ) × AddsEnd rows entry job kind later count
ends_or_not table rows Noop middle job kind later applies = (later, inr (λ ends. cc (ends.is), refl))
ends_or_not table rows (TableEntry version now) middle job kind later applies = (later, inr (λ ends. cc (ends.is), refl))
ends_or_not table rows (Start j at now) middle job kind later applies = (later, inr (λ ends. cc (ends.is), refl))
ends_or_not table rows (End j at k) middle job kind later (inr (not, e)) =
    (later, inr (λ ends. not (subst (TakesEffect table rows) (sym ends.is) ends.takes), refl))
ends_or_not table rows (End j at k) middle job kind later (inl (takes, e)) =
    elim (cases_eq job j) [
      | inr ne ↦ (later, inr (λ ends. ne (number ends), refl))
      | inl same ↦ elim (same_kind_or_not kind k) [
        | inr ne ↦ (later, inr (λ ends. ne (kinds ends), refl))
        | inl same_kind ↦ (
          later + 1,
          inl (
            record {
              at = at;
              is = ap (λ (i : ℕ). End i at k) (sym same) ∙ ap (End job at) (sym same_kind);
              takes = subst (λ (i : ℕ). TakesEnd rows i at) (sym same) takes;
            },
            refl,
          ),
        )
      ]
    ]
  where
    number : EndsJob rows (End j at k) job kind → job ≡ j
    number ends = let is : End j at k ≡ End job ends.at kind = ends.is in cc

    kinds : EndsJob rows (End j at k) job kind → kind ≡ k
    kinds ends = let is : End j at k ≡ End job ends.at kind = ends.is in cc

ends_exist : (table : Table) (rows : List JobRow) (entries : List Entry) (last : List JobRow) (job : ℕ) (kind : Kind) → AppliesAll table rows entries last
    → (count : ℕ) × EndsFrom table rows entries job kind count
ends_exist table rows [] last job kind all = (0, refl)
ends_exist table rows (entry ∷ entries) last job kind (middle, step, rest) =
    let more = ends_exist table middle entries last job kind rest in
    let here = ends_or_not table rows entry middle job kind more.0 step in
    (here.0, (middle, more.0, step, here.1, more.1))

pub starts_of_exist : (table : Table) → IsSound table → (entries : List Entry) (job : ℕ) → (instants : List ℤ) × StartsOf table entries job instants
starts_of_exist table sound entries job =
    let clerk = clerk_exists table sound entries in starts_exist table (first_rows table) entries clerk.0 job clerk.1

pub ends_of_exist : (table : Table) → IsSound table → (entries : List Entry) (job : ℕ) (kind : Kind) → (count : ℕ) × EndsOf table entries job kind count
ends_of_exist table sound entries job kind =
    let clerk = clerk_exists table sound entries in ends_exist table (first_rows table) entries clerk.0 job kind clerk.1

-- an entry adds one start, or none
AddsStart-same : (table : Table) (rows : List JobRow) (entry : Entry) (job : ℕ) (later a b : List ℤ) → AddsStart table rows entry job later a
    → AddsStart table rows entry job later b → a ≡ b
AddsStart-same table rows entry job later a b (inl (at, starts, e)) (inl (other, again, f)) =
    let is : Start job at starts.now ≡ Start job other again.now = sym starts.is ∙ again.is in
    let same : at ≡ other = cc in
    e ∙ ap (λ (t : ℤ). t ∷ later) same ∙ sym f
AddsStart-same table rows entry job later a b (inl (at, starts, e)) (inr (none, f)) = absurd (none at starts)
AddsStart-same table rows entry job later a b (inr (none, e)) (inl (at, starts, f)) = absurd (none at starts)
AddsStart-same table rows entry job later a b (inr (none, e)) (inr (again, f)) = e ∙ sym f

StartsFrom-same : (table : Table) (rows : List JobRow) (entries : List Entry) (job : ℕ) (a b : List ℤ) → StartsFrom table rows entries job a
    → StartsFrom table rows entries job b → a ≡ b
StartsFrom-same table rows [] job a b e f = e ∙ sym f
StartsFrom-same table rows (entry ∷ entries) job a b (middle, later, step, adds, rest) (other, later_b, step_b, adds_b, rest_b) =
    let rows_are : other ≡ middle = Applies-same table rows entry other middle step_b step in
    let same : later_b ≡ later =
    StartsFrom-same table middle entries job later_b later (subst (λ (m : List JobRow). StartsFrom table m entries job later_b) rows_are rest_b) rest in
    AddsStart-same table rows entry job later a b adds (subst (λ (l : List ℤ). AddsStart table rows entry job l b) same adds_b)

pub StartsOf-same : (table : Table) (entries : List Entry) (job : ℕ) (a b : List ℤ) → StartsOf table entries job a → StartsOf table entries job b → a ≡ b
StartsOf-same table entries job a b = StartsFrom-same table (first_rows table) entries job a b

AddsEnd-same : (rows : List JobRow) (entry : Entry) (job : ℕ) (kind : Kind) (later a b : ℕ) → AddsEnd rows entry job kind later a
    → AddsEnd rows entry job kind later b → a ≡ b
AddsEnd-same rows entry job kind later a b (inl (ends, e)) (inl (again, f)) = e ∙ sym f
AddsEnd-same rows entry job kind later a b (inl (ends, e)) (inr (none, f)) = absurd (none ends)
AddsEnd-same rows entry job kind later a b (inr (none, e)) (inl (ends, f)) = absurd (none ends)
AddsEnd-same rows entry job kind later a b (inr (none, e)) (inr (again, f)) = e ∙ sym f

EndsFrom-same : (table : Table) (rows : List JobRow) (entries : List Entry) (job : ℕ) (kind : Kind) (a b : ℕ) → EndsFrom table rows entries job kind a
    → EndsFrom table rows entries job kind b → a ≡ b
EndsFrom-same table rows [] job kind a b e f = e ∙ sym f
EndsFrom-same table rows (entry ∷ entries) job kind a b (middle, later, step, adds, rest) (other, later_b, step_b, adds_b, rest_b) =
    let rows_are : other ≡ middle = Applies-same table rows entry other middle step_b step in
    let same : later_b ≡ later =
    EndsFrom-same table middle entries job kind later_b later (subst (λ (m : List JobRow). EndsFrom table m entries job kind later_b) rows_are rest_b) rest in
    AddsEnd-same rows entry job kind later a b adds (subst (λ (n : ℕ). AddsEnd rows entry job kind n b) same adds_b)

pub EndsOf-same : (table : Table) (entries : List Entry) (job : ℕ) (kind : Kind) (a b : ℕ) → EndsOf table entries job kind a → EndsOf table entries job kind b → a ≡ b
EndsOf-same table entries job kind a b = EndsFrom-same table (first_rows table) entries job kind a b

-- ---- the versions that are adopted

-- whether an entry that is applied adopts a version
adopts_or_not : (table : Table) (rows : List JobRow) (entry : Entry) (middle : List JobRow) (later : List ℤ) → Applies table rows entry middle
    → (instants : List ℤ) × AddsAdoption table rows entry later instants
adopts_or_not table rows Noop middle later applies = (later, inr (λ now adopts. cc (adopts.is), refl))
adopts_or_not table rows (Start j at now) middle later applies = (later, inr (λ other adopts. cc (adopts.is), refl))
adopts_or_not table rows (End j at kind) middle later applies = (later, inr (λ other adopts. cc (adopts.is), refl))
adopts_or_not table rows (TableEntry version now) middle later (inl (takes, e)) =
    (now ∷ later, inl (now, record { version = version; is = refl; takes = takes }, refl))
adopts_or_not table rows (TableEntry version now) middle later (inr (not, e)) =
    (later, inr (λ other adopts. not (subst (TakesEffect table rows) (sym adopts.is) adopts.takes), refl))

pub adoptions_exist : (table : Table) (rows : List JobRow) (entries : List Entry) (last : List JobRow) → AppliesAll table rows entries last
    → (instants : List ℤ) × AdoptionsFrom table rows entries instants
adoptions_exist table rows [] last all = ([], refl)
adoptions_exist table rows (entry ∷ entries) last (middle, step, rest) =
    let more = adoptions_exist table middle entries last rest in
    let here = adopts_or_not table rows entry middle more.0 step in
    (here.0, (middle, more.0, step, here.1, more.1))

pub adoptions_of_exist : (table : Table) → IsSound table → (entries : List Entry) → (instants : List ℤ) × AdoptionsOf table entries instants
adoptions_of_exist table sound entries =
    let clerk = clerk_exists table sound entries in adoptions_exist table (first_rows table) entries clerk.0 clerk.1

AddsAdoption-same : (table : Table) (rows : List JobRow) (entry : Entry) (later a b : List ℤ) → AddsAdoption table rows entry later a
    → AddsAdoption table rows entry later b → a ≡ b
AddsAdoption-same table rows entry later a b (inl (now, adopts, e)) (inl (other, again, f)) =
    let is : TableEntry adopts.version now ≡ TableEntry again.version other = sym adopts.is ∙ again.is in
    let same : now ≡ other = cc in
    e ∙ ap (λ (t : ℤ). t ∷ later) same ∙ sym f
AddsAdoption-same table rows entry later a b (inl (now, adopts, e)) (inr (none, f)) = absurd (none now adopts)
AddsAdoption-same table rows entry later a b (inr (none, e)) (inl (now, adopts, f)) = absurd (none now adopts)
AddsAdoption-same table rows entry later a b (inr (none, e)) (inr (again, f)) = e ∙ sym f

AdoptionsFrom-same : (table : Table) (rows : List JobRow) (entries : List Entry) (a b : List ℤ) → AdoptionsFrom table rows entries a
    → AdoptionsFrom table rows entries b → a ≡ b
AdoptionsFrom-same table rows [] a b e f = e ∙ sym f
AdoptionsFrom-same table rows (entry ∷ entries) a b (middle, later, step, adds, rest) (other, later_b, step_b, adds_b, rest_b) =
    let rows_are : other ≡ middle = Applies-same table rows entry other middle step_b step in
    let same : later_b ≡ later =
    AdoptionsFrom-same table middle entries later_b later (subst (λ (m : List JobRow). AdoptionsFrom table m entries later_b) rows_are rest_b) rest in
    AddsAdoption-same table rows entry later a b adds (subst (λ (l : List ℤ). AddsAdoption table rows entry l b) same adds_b)

pub AdoptionsOf-same : (table : Table) (entries : List Entry) (a b : List ℤ) → AdoptionsOf table entries a → AdoptionsOf table entries b → a ≡ b
AdoptionsOf-same table entries a b = AdoptionsFrom-same table (first_rows table) entries a b
