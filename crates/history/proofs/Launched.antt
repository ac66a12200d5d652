-- How often a job has been launched: at most once for each minute of the window, since its instants or dates rise. What the table's own row
-- counts is its version.
use Rattle.std.proofs.Common.{◌≡◌, ℕ, zero, suc, ◌+◌, ◌<◌, ◌^◌, inl, inr, Bool, true, false, eqb, Option, Some, None, List, [], ◌∷◌, length, map, get_or, slice_set, ℤ, pos, ◌+ℤ◌, ◌-ℤ◌, ◌<ℤ◌, ◌≤ℤ◌, refl, sym, ap, ◌∙◌, arith, subst}
use Rattle.std.specs.List.{Contains, range_with_len, slice_get}
use Rattle.std.specs.Int.{int_div_euclid}
use Rattle.std.proofs.lemmas.Int.{ints}
use Rattle.std.specs.Prelude.{is_some, not}
use Rattle.std.proofs.lemmas.Option.{get_or_from_slice_get, slice_get_within}
use Rattle.jiff.specs.Types.{TimeZone}
use Rattle.jiff.specs.Words.{offset_at}
use Rattle.jiff_core.proofs.SignedLemmas.{signed_arith}
use Rattle.jiff_core.specs.Timestamp.{IsOffsetSeconds}
use Rattle.zone_minutes.specs.Civil.{day_number}
use Rattle.zone_minutes.specs.Window.{IsInWindow, IsWithinLimits}
use Rattle.zone_minutes.specs.Zone.{local_of, minute_nanos}
use Rattle.zone_minutes.specs.declared.minute.Window.{Window}
use Rattle.zone_minutes.proofs.RunLemmas.{local_of-ahead}
use Rattle.zone_minutes.proofs.ZoneLemmas.{offset_small}
use Rattle.paxos_base.specs.Rows.{RowsStand, fresh_row, row_count}
use Rattle.paxos_base.specs.declared.entry.Entry.{Entry}
use Rattle.paxos_base.specs.declared.entry.Entry.TheVariants.{Noop, Start, End, Table as TableEntry}
use Rattle.paxos_base.specs.declared.entry.Kind.{Kind}
use Rattle.paxos_base.specs.declared.entry.Kind.TheVariants.{Launch, Void}
use Rattle.paxos_base.specs.declared.rows.JobRow.{JobRow}
use Rattle.cluster_sched.specs.Names.{IsDayNear, IsTimeNear}
use Rattle.due_set.specs.Table.{IsAfter, IsSound, Table, is_by_period, version_count}
use Rattle.due_set.proofs.NamedLemmas.{due_says, opening_says}
use Rattle.launch_machine.specs.Clerk.{Applies, AppliesAll, MayStart, adopted_row, closed_row, first_rows, in_force, opened_row, table_size}
use Rattle.launch_machine.specs.declared.force.InForce.{InForce}
use Rattle.launch_machine.proofs.MachineLemmas.{own_known, set_here, set_there}
use Rattle.launch_machine.proofs.VersionRows.{clerk_stands}
use Rattle.std.proofs.lemmas.Bool.{and_parts, cases_eq, eqb-true}
use Rattle.launch_machine.proofs.StartLemmas.{may_start_later}
use Rattle.step_spec.proofs.Lists.{nothing_in}
use Rattle.history.specs.Numbers.{AreRowsBelow}
use Rattle.history.proofs.Counts.{all_in}
use Rattle.due_set.proofs.Rising.{Contains-cases as cons_cases}

-- ---- when a job may start

pub day_near : (window : Window) (zone : TimeZone) (now date : ℤ) → IsInWindow window now → date ≡ day_number (local_of zone now) → IsDayNear window date
day_near window zone now date inside is =
    let small : IsOffsetSeconds (offset_at zone (minute_nanos now)) = offset_small zone (minute_nanos now) in
    let ahead : local_of zone now ≡ now +ℤ int_div_euclid (offset_at zone (minute_nanos now)) (pos 60) =
    local_of-ahead zone now (offset_at zone (minute_nanos now)) refl in
    let since : window.from.0 ≤ℤ now = inside.since in
    let before : now <ℤ window.until.0 = inside.before in
    record {
      since = omega (arith, signed_arith, small, ahead, since, is);
      until = omega (arith, signed_arith, small, ahead, before, is);
    }

-- a launch that may be started is of an instant of the window, or on a day near it
pub start_near : (table : Table) (force : InForce) (job : ℕ) (row : JobRow) (at now : ℤ) → IsSound table → MayStart table force job row at now
    → IsTimeNear table.window (is_by_period table job) at
start_near table force job row at now sound (inl (next, come)) =
    subst (λ by_period. IsTimeNear table.window by_period at) (sym (due_says table force.version job at sound next.due)) next.due.inside
start_near table force job row at now sound (inr opens) =
    subst (λ by_period. IsTimeNear table.window by_period at) (sym (opening_says table force.version job row.last row.cursor now at sound opens))
    (day_near table.window opens.zone now at opens.inside opens.is_date)

-- two launches of a job are fewer minutes, or fewer days, apart than a window has minutes
near_apart : (window : Window) (by_period : Bool) (first at : ℤ) → IsWithinLimits window → IsTimeNear window by_period first → IsTimeNear window by_period at → (at -ℤ first) <ℤ pos 576_000
near_apart window true first at limits near beside =
    let since : (day_number window.from.0 -ℤ pos 2) ≤ℤ first = near.since in
    let until : at ≤ℤ (day_number (window.until.0 -ℤ pos 1) +ℤ pos 2) = beside.until in
    let short : window.until.0 ≤ℤ (window.from.0 +ℤ pos 576_000) = limits.short in
    omega (arith, signed_arith, since, until, short)
near_apart window false first at limits near beside =
    let since : window.from.0 ≤ℤ first = near.since in
    let before : at <ℤ window.until.0 = beside.before in
    let short : window.until.0 ≤ℤ (window.from.0 +ℤ pos 576_000) = limits.short in
    omega (arith, ints, since, before, short)

-- ---- what a row has counted

-- one where there is something
abbrev ones : Option ℤ → ℕ
ones None = 0
ones (Some minute) = 1

-- how many launches of a job have begun
abbrev begun : JobRow → ℕ
begun row = row.launched + row.voided + ones row.open_now

-- a launch of the job was first, and as many as there are minutes or days from it up to the latest have begun, at most
record IsSpread (table : Table) (job : ℕ) (at : ℤ) (count : ℕ) : Type 0 where
  first : ℤ
  first_near : IsTimeNear table.window (is_by_period table job) first
  near : IsTimeNear table.window (is_by_period table job) at
  few : pos count ≤ℤ (at -ℤ first +ℤ pos 1)

abbrev BeganBy : Table → ℕ → Option ℤ → ℕ → Type 0
BeganBy table job None count = count ≡ 0
BeganBy table job (Some at) count = IsSpread table job at count

-- so it is of each row of a job
abbrev AreSpread : Table → List JobRow → Type 0
AreSpread table rows = (job : ℕ) (row : JobRow) → job < length table.jobs → slice_get rows job ≡ Some row → BeganBy table job row.cursor (begun row)

-- rows of which one is put in its place
put_spreads : (table : Table) (rows : List JobRow) (job : ℕ) (new : JobRow) → AreSpread table rows → (job < length table.jobs → BeganBy table job new.cursor (begun new))
    → AreSpread table (slice_set rows job new)
put_spreads table rows job new spread now k row below is = elim (cases_eq k job) [
  | inl same ↦
      let put : new ≡ row = set_here rows job row new (subst (λ (i : ℕ). slice_get (slice_set rows job new) i ≡ Some row) same is) in
      let begun_now = now (subst (λ (i : ℕ). i < length table.jobs) same below) in
      subst (λ (i : ℕ). BeganBy table i row.cursor (begun row)) (sym same) (subst (λ (r : JobRow). BeganBy table job r.cursor (begun r)) put begun_now)
  | inr other ↦ spread k row below (sym (set_there rows job k new other) ∙ is)
]

start_spreads : (table : Table) (force : InForce) (job : ℕ) (row : JobRow) (at now : ℤ) → IsSound table → row.open_now ≡ None → MayStart table force job row at now
    → BeganBy table job row.cursor (begun row) → IsSpread table job at (begun (opened_row at now row))
start_spreads table force job row at now sound idle may spread = go row.cursor (may_start_later table force job row at now may) spread
  where
    near : IsTimeNear table.window (is_by_period table job) at
    near = start_near table force job row at now sound may

    none : ones row.open_now ≡ 0
    none = ap ones idle

    go : (cursor : Option ℤ) → IsAfter cursor at → BeganBy table job cursor (begun row) → IsSpread table job at (begun (opened_row at now row))
    go None after began = record { first = at; first_near = near; near = near; few = omega (arith, ints, none, began) }
    go (Some before) after old =
        let few : pos (begun row) ≤ℤ (before -ℤ old.first +ℤ pos 1) = old.few in
        record { first = old.first; first_near = old.first_near; near = near; few = omega (arith, ints, none, few, after) }

end_spreads : (table : Table) (job : ℕ) (row : JobRow) (at since : ℤ) (kind : Kind) → row.open_now ≡ Some since → BeganBy table job row.cursor (begun row) → BeganBy table job (closed_row at kind row).cursor (begun (closed_row at kind row))
end_spreads table job row at since Launch is_open spread =
    let one : ones row.open_now ≡ 1 = ap ones is_open in
    let same : begun row ≡ begun (closed_row at Launch row) = omega (arith, one) in
    subst (BeganBy table job row.cursor) same spread
end_spreads table job row at since Void is_open spread =
    let one : ones row.open_now ≡ 1 = ap ones is_open in
    let same : begun row ≡ begun (closed_row at Void row) = omega (arith, one) in
    subst (BeganBy table job row.cursor) same spread

-- ---- entries

after_spreads : (table : Table) (rows : List JobRow) (entry : Entry) (middle : List JobRow) → IsSound table → AreSpread table rows → Applies table rows entry middle → AreSpread table middle
after_spreads table rows Noop middle sound spread (inl (takes, is)) = absurd takes
after_spreads table rows (TableEntry version now) middle sound spread (inl (takes, is)) =
    let own : ℕ = length table.jobs in
    rw is (put_spreads table rows own (adopted_row version now (get_or rows own (fresh_row own))) spread (λ below. absurd (omega (arith, below))))
after_spreads table rows (Start job at now) middle sound spread (inl (takes, is)) =
    let new = start_spreads table (in_force table rows) job takes.row at now sound takes.idle takes.may (spread job takes.row takes.known takes.is_row) in
    rw is (put_spreads table rows job (opened_row at now (get_or rows job (fresh_row job))) spread
    (λ below. subst (λ (row : JobRow). IsSpread table job at (begun (opened_row at now row))) (sym (get_or_from_slice_get rows job takes.row (fresh_row job) takes.is_row)) new))
after_spreads table rows (End job at kind) middle sound spread (inl (takes, is)) =
    rw is (put_spreads table rows job (closed_row at kind (get_or rows job (fresh_row job))) spread (λ below.
    let new = end_spreads table job takes.row at takes.since kind takes.is_open (spread job takes.row below takes.is_row) in
    subst (λ (row : JobRow). BeganBy table job (closed_row at kind row).cursor (begun (closed_row at kind row))) (sym (get_or_from_slice_get rows job takes.row (fresh_row job) takes.is_row)) new))
after_spreads table rows entry middle sound spread (inr (none, is)) = rw is spread

all_spread : (table : Table) (rows : List JobRow) (entries : List Entry) (last : List JobRow) → IsSound table → AreSpread table rows → AppliesAll table rows entries last → AreSpread table last
all_spread table rows [] last sound spread is = rw is spread
all_spread table rows (entry ∷ entries) last sound spread (middle, applies, rest) =
    all_spread table middle entries last sound (after_spreads table rows entry middle sound spread applies) rest

none_begun : (table : Table) (from count job : ℕ) (row : JobRow) → slice_get (map fresh_row (range_with_len from count)) job ≡ Some row → (j : ℕ) → BeganBy table j row.cursor (begun row)
none_begun table from zero job row is j = absurd cc
none_begun table from (suc count) zero row is j =
    let same : fresh_row from ≡ row = cc in subst (λ (r : JobRow). BeganBy table j r.cursor (begun r)) same refl
none_begun table from (suc count) (suc job) row is j = none_begun table (from + 1) count job row is j

few_begun : (table : Table) (job : ℕ) (row : JobRow) → IsSound table → BeganBy table job row.cursor (begun row) → begun row < 2 ^ 20
few_begun table job row sound spread = go row.cursor spread
  where
    go : (cursor : Option ℤ) → BeganBy table job cursor (begun row) → begun row < 2 ^ 20
    go None none = omega (arith, none)
    go (Some at) is =
        let few : pos (begun row) ≤ℤ (at -ℤ is.first +ℤ pos 1) = is.few in
        let short : (at -ℤ is.first) <ℤ pos 576_000 = near_apart table.window (is_by_period table job) is.first at sound.limits is.first_near is.near in
        omega (arith, ints, few, short)

-- the place of what is in a list
pub place_of : {X : Type 0} (xs : List X) (x : X) → Contains xs x → (k : ℕ) × (slice_get xs k ≡ Some x)
place_of [] x has = nothing_in has
place_of (y ∷ xs) x has = elim (cons_cases y xs x has) [
  | inl same ↦ (0, ap Some same)
  | inr later ↦ let rest = place_of xs x later in (suc rest.0, rest.1)
]

-- the table's own row has a version of the table as its count
own_few : (table : Table) (rows : List JobRow) (row : JobRow) → IsSound table → RowsStand rows (table_size table) → slice_get rows (length table.jobs) ≡ Some row
    → (row.launched < 2 ^ 20) × (row.voided < 2 ^ 20)
own_few table rows row sound stand is =
    let known : (get_or rows (length table.jobs) row).launched < version_count table = own_known table rows (length table.jobs) row stand refl in
    let here : get_or rows (length table.jobs) row ≡ row = get_or_from_slice_get rows (length table.jobs) row row is in
    let launched : row.launched < version_count table = subst (λ (r : JobRow). r.launched < version_count table) here known in
    let ended = and_parts (not (is_some row.open_now)) _ (stand.ends row is) in
    let counted = and_parts (not (is_some row.last)) _ ended.1 in
    let none : row.voided ≡ 0 = eqb-true row.voided 0 (and_parts (eqb row.voided 0) _ counted.1).0 in
    (omega (arith, launched, sound.versions.few), omega (arith, none))

-- the counts of a launch table are below 2^20
pub few_launched : (table : Table) (entries : List Entry) (last : List JobRow) → IsSound table → AppliesAll table (first_rows table) entries last → AreRowsBelow (2 ^ 20) last
few_launched table entries last sound applied =
    let spread = all_spread table (first_rows table) entries last sound (λ job row below is. none_begun table 0 (row_count (table_size table)) job row is job) applied in
    let stand = clerk_stands table entries last applied in
    all_in (λ row. (row.launched < 2 ^ 20) × (row.voided < 2 ^ 20)) last (λ row has.
    let at = place_of last row has in
    elim (cases_eq at.0 (length table.jobs)) [
      | inl own ↦ own_few table last row sound stand (subst (λ (k : ℕ). slice_get last k ≡ Some row) own at.1)
      | inr other ↦
          let within = slice_get_within last at.0 row at.1 in
          let few = few_begun table at.0 row sound (spread at.0 row (omega (arith, within, stand.numbered.count, other)) at.1) in
          (omega (arith, few), omega (arith, few))
    ])
