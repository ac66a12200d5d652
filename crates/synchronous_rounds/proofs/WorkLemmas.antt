-- The work of a leader falls where an entry is learned.
use Rattle.std.proofs.Common.{◌≡◌, ℕ, suc, zero, ◌+◌, ◌<◌, ◌≤◌, ◌⊎◌, List, [], ◌∷◌, length, leb, Option, None, Some, ℤ, pos, refl, sym, ap, ◌∙◌, inl, inr, arith, subst}
use Rattle.std.specs.Prelude.{◌≤ℤ◌, ◌<ℤ◌, slice_get, slice_index_or, slice_set}
use Rattle.std.proofs.lemmas.Bool.{cases_Bool, cases_eq, leb-true}
use Rattle.std.proofs.lemmas.Int.{ints}
use Rattle.std.proofs.lemmas.List.{get_or-set_other, get_or-set_same}
use Rattle.std.proofs.lemmas.Option.{slice_get_within}
use Rattle.paxos_base.specs.Rows.{fresh_row}
use Rattle.paxos_base.specs.Vote.{votes_from}
use Rattle.paxos_base.specs.declared.entry.Entry.{Entry}
use Rattle.paxos_base.specs.declared.entry.Entry.TheVariants.{Noop, Start, End, Table as TableEntry}
use Rattle.paxos_base.specs.declared.entry.Kind.{Kind}
use Rattle.paxos_base.specs.declared.entry.Kind.TheVariants.{Launch, Void}
use Rattle.paxos_base.specs.declared.entry.Vote.{Vote}
use Rattle.paxos_base.specs.declared.rows.JobRow.{JobRow}
use Rattle.cluster_sched.specs.declared.row.SchedRow.{SchedRow}
use Rattle.due_set.specs.Table.{IsAfter, IsSound, Table}
use Rattle.launch_machine.specs.Clerk.{Applies, MayStart, TakesEffect, TakesEnd, adopted_row, closed_row, force_of, in_force, opened_row, rows_after, with_row}
use Rattle.launch_machine.specs.declared.force.InForce.{InForce}
use Rattle.launch_machine.proofs.StartLemmas.{may_start_later}
use Rattle.launch_machine.proofs.VersionRows.{started_force}
use Rattle.term_core.specs.declared.flight.Flight.{Flight}
use Rattle.term_core.specs.declared.term.Term.TheVariants.{Leader}
use Rattle.step_spec.specs.Propose.{is_long}
use Rattle.step_spec.specs.State.{State}
use Rattle.synchronous_rounds.specs.Flights.{IsNeeded, Proposal}
use Rattle.synchronous_rounds.specs.Measure.{ahead, due_one, launch_work, open_one, row_work, rows_work, span, wait_of, work}
use Rattle.synchronous_rounds.proofs.DateLemmas.{dates_inside}

-- ---- votes

span_rises : (slot : ℕ) (best : List Vote) → span (slot + 1) best ≤ span slot best
span_rises slot [] = omega arith
span_rises slot (vote ∷ best) = let rest = span_rises slot best in omega (arith, rest)

span_falls : (slot : ℕ) (best : List Vote) (vote : Vote) (others : List Vote) → votes_from slot best ≡ vote ∷ others → span (slot + 1) best < span slot best
unfolding votes_from
span_falls slot [] vote others is = absurd cc
span_falls slot (first ∷ best) vote others is =
    elim (cases_Bool (leb slot first.slot)) [
      | inl here ↦
          let least = leb-true slot first.slot here in
          let rest = span_rises slot best in
          omega (arith, least, rest)
      | inr below ↦
          let so : votes_from slot best ≡ vote ∷ others = rw below at is in
          let rest = span_falls slot best vote others so in
          omega (arith, rest)
    ]

-- ---- rows

-- a job's row has less work, or a row behind those of the jobs is closed
rows_fall : (until : ℤ) (jobs : ℕ) (rows : List JobRow) (job : ℕ) (row changed : JobRow) → slice_get rows job ≡ Some row → row_work until changed < row_work until row
    → (jobs ≤ job → open_one changed.open_now < open_one row.open_now) → rows_work until jobs (slice_set rows job changed) < rows_work until jobs rows
rows_fall until jobs [] job row changed is less closes = absurd cc
rows_fall until zero (first ∷ rows) zero row changed is less closes =
    let same : first ≡ row = cc in
    let equal = ap (λ (r : JobRow). open_one r.open_now) same in
    let fewer = closes (omega arith) in
    omega (arith, fewer, equal)
rows_fall until zero (first ∷ rows) (suc job) row changed is less closes =
    let rest = rows_fall until zero rows job row changed is less (λ past. closes (omega arith)) in
    omega (arith, rest)
rows_fall until (suc jobs) (first ∷ rows) zero row changed is less closes =
    let same : first ≡ row = cc in
    let equal = ap (row_work until) same in
    omega (arith, less, equal)
rows_fall until (suc jobs) (first ∷ rows) (suc job) row changed is less closes =
    let rest = rows_fall until jobs rows job row changed is less (λ past. closes (omega (arith, past))) in
    omega (arith, rest)

-- the table's own row has as much work once a version is adopted
rows_kept : (until : ℤ) (jobs : ℕ) (rows : List JobRow) (job : ℕ) (other : JobRow) (version : ℕ) (now : ℤ) → jobs ≤ job
    → rows_work until jobs (slice_set rows job (adopted_row version now (slice_index_or rows job other))) ≡ rows_work until jobs rows
rows_kept until jobs [] job other version now past = refl
rows_kept until zero (first ∷ rows) zero other version now past = refl
rows_kept until zero (first ∷ rows) (suc job) other version now past = ap (λ more. open_one first.open_now + more) (rows_kept until zero rows job other version now (omega arith))
rows_kept until (suc jobs) (first ∷ rows) zero other version now past = absurd (omega (arith, past))
rows_kept until (suc jobs) (first ∷ rows) (suc job) other version now past = ap (λ more. row_work until first + more) (rows_kept until jobs rows job other version now (omega (arith, past)))

row_found : (rows : List JobRow) (job : ℕ) (row other : JobRow) → slice_get rows job ≡ Some row → slice_index_or rows job other ≡ row
row_found [] job row other is = absurd cc
row_found (first ∷ rows) zero row other is = cc
row_found (first ∷ rows) (suc job) row other is = row_found rows job row other is

-- a later launch is less far from the window's end
ahead_falls : (until at : ℤ) (cursor : Option ℤ) → IsAfter cursor at → pos 0 ≤ℤ at → at <ℤ until → ahead until (Some at) < ahead until cursor
ahead_falls until at None after since before = omega (arith, ints)
ahead_falls until at (Some cursor) after since before = omega (arith, ints)

start_falls : (until at now : ℤ) (row : JobRow) → row.open_now ≡ None → IsAfter row.cursor at → pos 0 ≤ℤ at → at <ℤ until → row_work until (opened_row at now row) < row_work until row
start_falls until at now row idle after since before =
    let less = ahead_falls until at row.cursor after since before in
    omega (arith, less)

end_falls : (until at since : ℤ) (kind : Kind) (row : JobRow) → row.open_now ≡ Some since → row_work until (closed_row at kind row) < row_work until row
end_falls until at since Launch row is = let one = ap open_one is in omega (arith, one)
end_falls until at since Void row is = let one = ap open_one is in omega (arith, one)

end_closes : (at since : ℤ) (kind : Kind) (row : JobRow) → row.open_now ≡ Some since → open_one (closed_row at kind row).open_now < open_one row.open_now
end_closes at since Launch row is = let one = ap open_one is in omega (arith, one)
end_closes at since Void row is = let one = ap open_one is in omega (arith, one)

-- ---- versions

end_counts : (at : ℤ) (kind : Kind) (row : JobRow) → row.launched ≤ (closed_row at kind row).launched
end_counts at Launch row = omega arith
end_counts at Void row = omega arith

-- an end leaves no version to be adopted once more
end_version : (table : Table) (rows : List JobRow) (job : ℕ) (at : ℤ) (kind : Kind) → TakesEnd rows job at
    → (in_force table rows).version ≤ (in_force table (with_row (closed_row at kind) rows job)).version
end_version table rows job at kind takes = elim (cases_eq job (length table.jobs)) [
  | inl same ↦
      let own : ℕ = length table.jobs in
      let old : JobRow = slice_index_or rows own (fresh_row own) in
      let within : own < length rows = subst (λ (k : ℕ). k < length rows) same (slice_get_within rows job takes.row takes.is_row) in
      let put = ap force_of (get_or-set_same rows own (closed_row at kind old) (fresh_row own) within) in
      let more = end_counts at kind old in
      let version = ap (λ (force : InForce). force.version) put in
      subst (λ (k : ℕ). (in_force table rows).version ≤ (in_force table (with_row (closed_row at kind) rows k)).version) (sym same) (omega (arith, version, more))
  | inr other ↦
      let own : ℕ = length table.jobs in
      let put = ap force_of (get_or-set_other rows job own (closed_row at kind (slice_index_or rows job (fresh_row job))) (fresh_row own) (λ same. other (sym same))) in
      let version = ap (λ (force : InForce). force.version) put in
      omega (arith, version)
]

-- an entry that takes effect leaves less to ask for
effect_falls : (table : Table) → IsSound table → (rows : List JobRow) (entry : Entry) → TakesEffect table rows entry
    → launch_work table (rows_after table rows entry) < launch_work table rows
effect_falls table sound rows Noop takes = absurd takes
effect_falls table sound rows (TableEntry version now) takes =
    let own : ℕ = length table.jobs in
    let put = ap force_of (get_or-set_same rows own (adopted_row version now (slice_index_or rows own (fresh_row own))) (fresh_row own) takes.own) in
    let version_is = ap (λ (force : InForce). force.version) put in
    let kept = rows_kept table.window.until.0 own rows own (fresh_row own) version now (omega arith) in
    omega (arith, version_is, kept, takes.next, takes.known)
effect_falls table sound rows (Start job at now) takes =
    let found = ap (λ (row : JobRow). rows_work until (length table.jobs) (slice_set rows job (opened_row at now row))) (row_found rows job takes.row (fresh_row job) takes.is_row) in
    let version = ap (λ (force : InForce). force.version) (started_force table rows (with_row (opened_row at now) rows job) job at now takes refl) in
    omega (arith, fallen, found, version)
  where
    until : ℤ
    until = table.window.until.0

    later : IsAfter takes.row.cursor at
    later = may_start_later table (in_force table rows) job takes.row at now takes.may

    falls : MayStart table (in_force table rows) job takes.row at now → row_work until (opened_row at now takes.row) < row_work until takes.row
    falls (inl (next, come)) = start_falls until at now takes.row takes.idle later (omega (arith, ints, next.due.inside.since, sound.limits.since)) next.due.inside.before
    falls (inr opens) =
        let bounds = dates_inside table (in_force table rows).version job takes.row.last takes.row.cursor now at sound opens in
        start_falls until at now takes.row takes.idle later bounds.0 bounds.1

    fallen : rows_work until (length table.jobs) (slice_set rows job (opened_row at now takes.row)) < rows_work until (length table.jobs) rows
    fallen = rows_fall until (length table.jobs) rows job takes.row (opened_row at now takes.row) takes.is_row (falls takes.may) (λ past. absurd (omega (arith, past, takes.known)))
effect_falls table sound rows (End job at kind) takes =
    let until : ℤ = table.window.until.0 in
    let fallen = rows_fall until (length table.jobs) rows job takes.row (closed_row at kind takes.row) takes.is_row (end_falls until at takes.since kind takes.row takes.is_open)
    (λ past. end_closes at takes.since kind takes.row takes.is_open) in
    let found = ap (λ (row : JobRow). rows_work until (length table.jobs) (slice_set rows job (closed_row at kind row))) (row_found rows job takes.row (fresh_row job) takes.is_row) in
    let version = end_version table rows job at kind takes in
    omega (arith, fallen, found, version)

-- ---- both

pub learned_work : (proposal : Proposal) → IsSound proposal.at.table → IsNeeded proposal
    → work proposal.at.table proposal.later proposal.best (proposal.at.prefix + 1) < work proposal.at.table proposal.at.rows proposal.best proposal.at.prefix
learned_work proposal sound needed = go (moves proposal.applies) needed
  where
    moves : Applies proposal.at.table proposal.at.rows proposal.entry proposal.later
        → (launch_work proposal.at.table proposal.later < launch_work proposal.at.table proposal.at.rows) ⊎ (proposal.later ≡ proposal.at.rows)
    moves (inl (takes, is)) =
        let fall = effect_falls proposal.at.table sound proposal.at.rows proposal.entry takes in
        let rows = ap (launch_work proposal.at.table) is in
        inl (omega (arith, fall, rows))
    moves (inr (not, is)) = inr is

    go : (launch_work proposal.at.table proposal.later < launch_work proposal.at.table proposal.at.rows) ⊎ (proposal.later ≡ proposal.at.rows) → IsNeeded proposal
        → work proposal.at.table proposal.later proposal.best (proposal.at.prefix + 1) < work proposal.at.table proposal.at.rows proposal.best proposal.at.prefix
    go (inl fall) needed = let votes = span_rises proposal.at.prefix proposal.best in omega (arith, fall, votes)
    go (inr same) (inr changes) = absurd (changes same)
    go (inr same) (inl (vote, others, binds)) =
        let rows = ap (launch_work proposal.at.table) same in
        let votes = span_falls proposal.at.prefix proposal.best vote others binds in
        omega (arith, rows, votes)

pub short_wait : (waits : Option SchedRow) (ballot : ℕ) (best : List Vote) (flight : Option Flight) → wait_of waits (Leader ballot best flight) ≤ 5
short_wait waits ballot best (Some flight) = omega arith
short_wait (Some row) ballot best None = omega arith
short_wait None ballot best None = omega arith

pub one_due : (state : State) → due_one state ≤ 1
one_due state = elim (cases_Bool (is_long state)) [ inl long ↦ rw long (omega arith) | inr short ↦ rw short (omega arith) ]
