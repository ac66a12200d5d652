-- The starts and the ends of a job along a list of entries.
use Rattle.std.proofs.Common.{◌≡◌, ◌≢◌, ℕ, zero, suc, ◌+◌, ◌<◌, ◌≤◌, length, inl, inr, List, [], ◌∷◌, get_or, Option, None, Some, ℤ, ◌<ℤ◌, sym, ap, ◌∙◌, subst, arith}
use Rattle.std.specs.Prelude.{Contains, map, slice_get}
use Rattle.std.specs.List.{AllByRecursion, range_with_len}
use Rattle.std.proofs.lemmas.Int.{ints, int_max_is}
use Rattle.std.proofs.lemmas.Option.{get_or_from_slice_get}
use Rattle.paxos_base.specs.declared.entry.Entry.{Entry}
use Rattle.paxos_base.specs.declared.entry.Entry.TheVariants.{Noop, Start, End, Table as TableEntry}
use Rattle.paxos_base.specs.declared.entry.Kind.{Kind}
use Rattle.paxos_base.specs.declared.rows.JobRow.{JobRow}
use Rattle.due_set.specs.Due.{IsRising}
use Rattle.due_set.specs.Table.{Table, IsAfter}
use Rattle.due_set.proofs.Rising.{Contains-head, Contains-tail, Contains-cases, Contains-none}
use Rattle.paxos_base.specs.Rows.{fresh_row, row_count}
use Rattle.launch_machine.specs.Clerk.{Applies, MayStart, TakesStart, TakesEnd, adopted_row, first_rows, in_force, later_of, opened_row, closed_row, with_row, table_size}
use Rattle.launch_machine.specs.declared.force.InForce.{InForce}
use Rattle.launch_machine.specs.Starts.{StartsFrom, StartsOf, StartsJob}
use Rattle.launch_machine.proofs.MachineLemmas.{set_here, set_there, closed_cursor}
use Rattle.std.proofs.lemmas.Bool.{cases_eq, cases_lt}

-- each instant, or date, is later than the one before it, and may be started
abbrev pub IsStartChain : Table → ℕ → Option ℤ → List ℤ → Type 0
IsStartChain table job cursor [] = Unit {0}
IsStartChain table job cursor (at ∷ later) =
    ((row : JobRow) × (now : ℤ) × (force : InForce) × (row.cursor ≡ cursor) × MayStart table force job row at now) × IsStartChain table job (Some at) later

-- what is after the later of two instants is after both
pub after_later_of : (instant other : Option ℤ) (at : ℤ) → IsAfter (later_of instant other) at → IsAfter instant at × IsAfter other at
after_later_of None None at after = (tt, tt)
after_later_of (Some instant) None at after = (after, tt)
after_later_of None (Some other) at after = (tt, after)
after_later_of (Some instant) (Some other) at after =
    let is = int_max_is instant other in
    (omega (arith, ints, is), omega (arith, ints, is))

-- a launch that may be started is later than the cursor
pub may_start_later : (table : Table) (force : InForce) (job : ℕ) (row : JobRow) (at now : ℤ) → MayStart table force job row at now → IsAfter row.cursor at
may_start_later table force job row at now (inl (next, come)) = (after_later_of row.cursor force.since at next.later).0
may_start_later table force job row at now (inr opens) = subst (IsAfter row.cursor) (sym opens.is_date) opens.may.on.later

pub after_later : (cursor : Option ℤ) (at t : ℤ) → IsAfter cursor at → at <ℤ t → IsAfter cursor t
after_later None at t after lt = tt
after_later (Some before) at t after lt = omega (arith, ints)

pub before_each : (at : ℤ) (instants : List ℤ) → ((t : ℤ) → Contains instants t → at <ℤ t) → AllByRecursion (λ later. at <ℤ later) instants
before_each at [] known = tt
before_each at (first ∷ instants) known =
    (known first (Contains-head first instants), before_each at instants (λ t h. known t (Contains-tail first instants t h)))

all_later : (cursor : Option ℤ) (at : ℤ) (instants : List ℤ) → AllByRecursion (λ later. at <ℤ later) instants → IsAfter cursor at → (t : ℤ) → Contains instants t → IsAfter cursor t
all_later cursor at [] all after t h = absurd (Contains-none t h)
all_later cursor at (first ∷ instants) all after t h = elim (Contains-cases first instants t h) [
  | inl e ↦ subst (IsAfter cursor) e (after_later cursor at first after all.0)
  | inr behind ↦ all_later cursor at instants all.1 after t behind
]

-- a chain rises, and each of it is later than the cursor
record IsRisingAfter (cursor : Option ℤ) (instants : List ℤ) : Type 0 where
  pub rising : IsRising instants
  pub after : (t : ℤ) → Contains instants t → IsAfter cursor t

chain_rises : (table : Table) (job : ℕ) (cursor : Option ℤ) (instants : List ℤ) → IsStartChain table job cursor instants → IsRisingAfter cursor instants
chain_rises table job cursor [] chain = record { rising = tt; after = λ t h. absurd (Contains-none t h) }
chain_rises table job cursor (at ∷ later) ((row, now, force, cursor_is, may), chain) =
    let rest = chain_rises table job (Some at) later chain in
    let after : IsAfter cursor at = subst (λ (c : Option ℤ). IsAfter c at) cursor_is (may_start_later table force job row at now may) in
    let each = before_each at later rest.after in
    record {
      rising = (each, rest.rising);
      after = λ t h. elim (Contains-cases at later t h) [
        | inl e ↦ subst (IsAfter cursor) e after
        | inr behind ↦ all_later cursor at later each after t behind
      ];
    }

-- what is said of the job's row, where there is one
abbrev pub HasAt : {X : Type 0} → (JobRow → X) → List JobRow → ℕ → X → Type 0
HasAt part rows job x = (row : JobRow) → slice_get rows job ≡ Some row → part row ≡ x

-- the job's row, where there is one, has this cursor
abbrev pub HasCursor : List JobRow → ℕ → Option ℤ → Type 0
HasCursor rows job cursor = HasAt (λ r. r.cursor) rows job cursor

-- what a change of a row leaves of its job's row
pub changed : (change : JobRow → JobRow) (rows : List JobRow) (job : ℕ) (old new : JobRow) → slice_get rows job ≡ Some old
    → slice_get (with_row change rows job) job ≡ Some new → change old ≡ new
changed change rows job old new is_old is_new =
    let fresh : get_or rows job (fresh_row job) ≡ old = get_or_from_slice_get rows job old (fresh_row job) is_old in
    ap change (sym fresh) ∙ set_here rows job new (change (get_or rows job (fresh_row job))) is_new

pub after_start : (table : Table) (rows : List JobRow) (job : ℕ) (at now : ℤ) (middle : List JobRow) → TakesStart table rows job at now
    → Applies table rows (Start job at now) middle → HasCursor middle job (Some at)
after_start table rows job at now middle takes (inl (again, e)) row is_row =
    let opened : opened_row at now takes.row ≡ row = changed (opened_row at now) rows job takes.row row takes.is_row (ap (λ (m : List JobRow). slice_get m job) (sym e) ∙ is_row) in
    ap (λ (r : JobRow). r.cursor) (sym opened)
after_start table rows job at now middle takes (inr (not, e)) row is_row = absurd (not takes)

pub unchanged : {X : Type 0} (part : JobRow → X) (rows middle : List JobRow) (job : ℕ) (x : X) → middle ≡ rows → HasAt part rows job x → HasAt part middle job x
unchanged part rows middle job x e known row is_row = known row (ap (λ (m : List JobRow). slice_get m job) (sym e) ∙ is_row)

pub elsewhere : {X : Type 0} (part : JobRow → X) (change : JobRow → JobRow) (rows middle : List JobRow) (at job : ℕ) (x : X) → job ≢ at
    → middle ≡ with_row change rows at → HasAt part rows job x → HasAt part middle job x
elsewhere part change rows middle at job x ne e known row is_row =
    known row (sym (set_there rows at job (change (get_or rows at (fresh_row at))) ne) ∙ ap (λ (m : List JobRow). slice_get m job) (sym e) ∙ is_row)

after_end : (rows middle : List JobRow) (job : ℕ) (at : ℤ) (kind : Kind) (cursor : Option ℤ) → TakesEnd rows job at
    → middle ≡ with_row (closed_row at kind) rows job → HasCursor rows job cursor → HasCursor middle job cursor
after_end rows middle job at kind cursor takes e known row is_row =
    let closed : closed_row at kind takes.row ≡ row = changed (closed_row at kind) rows job takes.row row takes.is_row (ap (λ (m : List JobRow). slice_get m job) (sym e) ∙ is_row) in
    ap (λ (r : JobRow). r.cursor) (sym closed) ∙ closed_cursor at kind takes.row ∙ known takes.row takes.is_row

-- an entry that starts no launch of the job leaves its cursor
pub after_other : (table : Table) (rows : List JobRow) (entry : Entry) (middle : List JobRow) (job : ℕ) (cursor : Option ℤ) → job < length table.jobs
    → ((at : ℤ) → StartsJob table rows entry job at → ⊥) → Applies table rows entry middle → HasCursor rows job cursor → HasCursor middle job cursor
after_other table rows Noop middle job cursor below none (inl (takes, e)) known = unchanged (λ r. r.cursor) rows middle job cursor e known
after_other table rows Noop middle job cursor below none (inr (not, e)) known = unchanged (λ r. r.cursor) rows middle job cursor e known
after_other table rows (TableEntry version now) middle job cursor below none (inl (takes, e)) known =
    elsewhere (λ r. r.cursor) (adopted_row version now) rows middle (length table.jobs) job cursor (λ same. omega (arith, below, same)) e known
after_other table rows (TableEntry version now) middle job cursor below none (inr (not, e)) known = unchanged (λ r. r.cursor) rows middle job cursor e known
after_other table rows (Start j at now) middle job cursor below none (inr (not, e)) known = unchanged (λ r. r.cursor) rows middle job cursor e known
after_other table rows (Start j at now) middle job cursor below none (inl (takes, e)) known =
    elim (cases_eq job j) [
      | inl same ↦ absurd (none at (record {
        now = now;
        is = ap (λ (k : ℕ). Start k at now) (sym same);
        takes = subst (λ (k : ℕ). TakesStart table rows k at now) (sym same) takes;
      }))
      | inr ne ↦ elsewhere (λ r. r.cursor) (opened_row at now) rows middle j job cursor ne e known
    ]
after_other table rows (End j at kind) middle job cursor below none (inr (not, e)) known = unchanged (λ r. r.cursor) rows middle job cursor e known
after_other table rows (End j at kind) middle job cursor below none (inl (takes, e)) known =
    elim (cases_eq job j) [
      | inl same ↦ after_end rows middle job at kind cursor (subst (λ (k : ℕ). TakesEnd rows k at) (sym same) takes)
          (e ∙ ap (with_row (closed_row at kind) rows) (sym same)) known
      | inr ne ↦ elsewhere (λ r. r.cursor) (closed_row at kind) rows middle j job cursor ne e known
    ]

-- the starts of a job are a chain
pub starts_chain : (table : Table) (rows : List JobRow) (entries : List Entry) (job : ℕ) (cursor : Option ℤ) (instants : List ℤ) → job < length table.jobs
    → HasCursor rows job cursor → StartsFrom table rows entries job instants → IsStartChain table job cursor instants
starts_chain table rows [] job cursor instants below known e = subst (IsStartChain table job cursor) (sym e) tt
starts_chain table rows (entry ∷ entries) job cursor instants below known (middle, later, step, inl (at, starts, e), more) =
    let applies : Applies table rows (Start job at starts.now) middle = subst (λ (x : Entry). Applies table rows x middle) starts.is step in
    let cursor_is : starts.takes.row.cursor ≡ cursor = known starts.takes.row starts.takes.is_row in
    let chain : IsStartChain table job (Some at) later = starts_chain table middle entries job (Some at) later below (after_start table rows job at starts.now middle starts.takes applies) more in
    subst (IsStartChain table job cursor) (sym e) ((starts.takes.row, starts.now, in_force table rows, cursor_is, starts.takes.may), chain)
starts_chain table rows (entry ∷ entries) job cursor instants below known (middle, later, step, inr (none, e), more) =
    subst (IsStartChain table job cursor) (sym e)
    (starts_chain table middle entries job cursor later below (after_other table rows entry middle job cursor below none step known) more)

-- a job that isn't in the table has none
pub no_starts : (table : Table) (rows : List JobRow) (entries : List Entry) (job : ℕ) (instants : List ℤ) → length table.jobs ≤ job
    → StartsFrom table rows entries job instants → instants ≡ []
no_starts table rows [] job instants past e = e
no_starts table rows (entry ∷ entries) job instants past (middle, later, step, inl (at, starts, e), more) = absurd (omega (arith, past, starts.takes.known))
no_starts table rows (entry ∷ entries) job instants past (middle, later, step, inr (none, e), more) = e ∙ no_starts table middle entries job later past more

pub fresh_cursor : (a n k : ℕ) (row : JobRow) → slice_get (map fresh_row (range_with_len a n)) k ≡ Some row → row.cursor ≡ None
fresh_cursor a zero k row e = cc
fresh_cursor a (suc n) zero row e = let row_is : fresh_row a ≡ row = cc in ap (λ (r : JobRow). r.cursor) (sym row_is)
fresh_cursor a (suc n) (suc k) row e = fresh_cursor (a + 1) n k row e

pub starts_rise : (table : Table) (entries : List Entry) (job : ℕ) (instants : List ℤ) → StartsOf table entries job instants → IsRising instants
starts_rise table entries job instants starts = elim (cases_lt job (length table.jobs)) [
  | inl below ↦
      let chain = starts_chain table (first_rows table) entries job None instants below (fresh_cursor 0 (row_count (table_size table)) job) starts in
      (chain_rises table job None instants chain).rising
  | inr past ↦ subst IsRising (sym (no_starts table (first_rows table) entries job instants past starts)) tt
]

pub cursor_rises : (table : Table) (rows : List JobRow) (job : ℕ) (at now : ℤ) (old new : JobRow) → TakesStart table rows job at now
    → slice_get rows job ≡ Some old → slice_get (with_row (opened_row at now) rows job) job ≡ Some new → (new.cursor ≡ Some at) × IsAfter old.cursor at
cursor_rises table rows job at now old new takes is_old is_new =
    let opened : opened_row at now old ≡ new = changed (opened_row at now) rows job old new is_old is_new in
    let same : Some takes.row ≡ Some old = sym takes.is_row ∙ is_old in
    let row_is : takes.row ≡ old = cc in
    (ap (λ (r : JobRow). r.cursor) (sym opened), subst (λ (r : JobRow). IsAfter r.cursor at) row_is (may_start_later table (in_force table rows) job takes.row at now takes.may))
