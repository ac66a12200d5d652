-- Books that settle, walk or obey a script end quietly, with their log.
use Rattle.std.proofs.Common.{◌≡◌, ℕ, ◌<◌, ◌≤◌, List, [], ◌++◌, length, ℤ, pos, ◌-ℤ◌, ◌≤ℤ◌, refl, sym, subst, arith}
use Rattle.std.specs.Int.{int_min}
use Rattle.std.proofs.lemmas.Int.{ints}
use Rattle.zone_minutes.specs.Window.{IsInWindow}
use Rattle.paxos_base.specs.declared.entry.Entry.{Entry}
use Rattle.paxos_base.specs.declared.rows.JobRow.{JobRow}
use Rattle.due_set.specs.Table.{IsSound, Table}
use Rattle.launch_machine.specs.Clerk.{IsClerkOf, NoStart, NoTable}
use Rattle.launch_machine.specs.Intent.{NoCall}
use Rattle.launch_safety.specs.Settled.{IsSettled}
use Rattle.launch_safety.proofs.Whole.{table_left}
use Rattle.script_text.specs.declared.command.Command.{Command}
use Rattle.step_spec.specs.State.{prefix_of}
use Rattle.agreement.specs.Log.{IsLog}
use Rattle.history.specs.Book.{Row, votes_in}
use Rattle.history.specs.Legal.{IsLegal}
use Rattle.script_semantics.specs.Script.{Obeys}
use Rattle.script_semantics.specs.Settling.{AsksNothingUntil, Settles, Walks, coordinator}
use Rattle.script_semantics.specs.Situation.{Situation, first_situation}
use Rattle.settling.specs.Quiet.{EndsQuietly}
use Rattle.settling.proofs.QuietEndLemmas.{quiet_calls, quiet_learned, quiet_starts, quiet_tables}
use Rattle.settling.specs.Rounds.{IsWithinBounds}
use Rattle.settling.proofs.SettleLeadLemmas.{now_ends}
use Rattle.run_outcome.specs.Readings.{script_end}
use Rattle.run_outcome.proofs.PartLemmas.{Comes, parts_come, rises, settles_come, walks_come}
use Rattle.run_outcome.specs.Continues.{ContinuesBy}
use Rattle.run_outcome.proofs.SpanLemmas.{Spans, came}
use Rattle.run_outcome.proofs.QuietDrainLemmas.{IsLed, settled_leads}
use Rattle.run_outcome.proofs.WalkLemmas.{EndsLed, led_until, walked_leads}

-- a book that goes on with a part comes to what stands after it
spans_by : (part : Situation → List Row → Situation → Type 0) (members : ℕ) (table : Table) (book rows : List Row) (situation after : Situation) → ContinuesBy part members table book rows situation after
    → Comes members situation rows after → Spans members table book rows situation after
spans_by part members table book rows situation after goes comes = record {
  few = goes.few;
  sound = goes.sound;
  legal = goes.legal;
  begins = goes.standing;
  ends = came members table book rows situation after goes.standing comes;
  limits = goes.limits;
}

-- one that leads in a quiet situation of a book ends it quietly
led_ends : (members : ℕ) (table : Table) (who : ℕ) (at : ℤ) (book rows : List Row) (situation after : Situation) (log : List Entry) → Spans members table book rows situation after → IsLed members table who at after
    → IsLog members (votes_in (book ++ rows)) log → EndsQuietly members table (book ++ rows) who at after log
led_ends members table who at book rows situation after log spans led is_log =
    now_ends members table who at (book ++ rows) after log spans.legal spans.ends led.leads led.quiet is_log

-- ---- settling

settles_span : (members : ℕ) (table : Table) (at : ℤ) (book rows : List Row) (situation after : Situation) → ContinuesBy (Settles members table at) members table book rows situation after → Spans members table book rows situation after
settles_span members table at book rows situation after goes =
    spans_by (Settles members table at) members table book rows situation after goes (settles_come members table at situation rows after goes.goes)

pub settling_led : (members : ℕ) (table : Table) (at : ℤ) (book rows : List Row) (situation after : Situation) → IsInWindow table.window at → ContinuesBy (Settles members table at) members table book rows situation after
    → IsLed members table (coordinator members situation) at after
settling_led members table at book rows situation after within goes =
    settled_leads members table at book rows situation after goes.some within (settles_span members table at book rows situation after goes) goes.goes

pub settling_ends : (members : ℕ) (table : Table) (at : ℤ) (book rows : List Row) (situation after : Situation) (log : List Entry) → IsInWindow table.window at
    → ContinuesBy (Settles members table at) members table book rows situation after → IsLog members (votes_in (book ++ rows)) log
    → EndsQuietly members table (book ++ rows) (coordinator members situation) at after log
settling_ends members table at book rows situation after log within goes is_log =
    led_ends members table (coordinator members situation) at book rows situation after log (settles_span members table at book rows situation after goes)
    (settling_led members table at book rows situation after within goes) is_log

-- ---- walking

pub walks_span : (members : ℕ) (table : Table) (to : ℤ) (book rows : List Row) (situation after : Situation) → ContinuesBy (Walks members table to) members table book rows situation after → Spans members table book rows situation after
walks_span members table to book rows situation after goes =
    spans_by (Walks members table to) members table book rows situation after goes (walks_come members table to situation rows after goes.goes)

pub walk_led : (members : ℕ) (table : Table) (to : ℤ) (book rows : List Row) (situation after : Situation) → IsInWindow table.window to → table.window.from.0 ≤ℤ situation.latest
    → ContinuesBy (Walks members table to) members table book rows situation after
    → EndsLed members table (coordinator members situation) (int_min situation.latest to) to after
walk_led members table to book rows situation after inside from goes =
    walked_leads members table to book rows situation after goes.some inside from (walks_span members table to book rows situation after goes) goes.goes

pub walk_led_until : (members : ℕ) (table : Table) (to : ℤ) (book rows : List Row) (situation after : Situation) → IsInWindow table.window to → table.window.from.0 ≤ℤ situation.latest
    → ContinuesBy (Walks members table to) members table book rows situation after → IsLed members table (coordinator members situation) to after
walk_led_until members table to book rows situation after inside from goes =
    led_until members table (coordinator members situation) (int_min situation.latest to) to after (walk_led members table to book rows situation after inside from goes)

pub walk_drained : (members : ℕ) (table : Table) (to : ℤ) (book rows : List Row) (situation after : Situation) (log : List Entry) → IsInWindow table.window to → table.window.from.0 ≤ℤ situation.latest
    → ContinuesBy (Walks members table to) members table book rows situation after → IsLog members (votes_in (book ++ rows)) log
    → (minute : ℤ) × (int_min situation.latest to ≤ℤ minute) × (minute ≤ℤ to) × AsksNothingUntil table minute to (after.standing.replicas (coordinator members situation))
    × EndsQuietly members table (book ++ rows) (coordinator members situation) minute after log
walk_drained members table to book rows situation after log inside from goes is_log =
    let ends = walk_led members table to book rows situation after inside from goes in (
      ends.minute,
      ends.since,
      ends.within,
      ends.rests,
      led_ends members table (coordinator members situation) ends.minute book rows situation after log (walks_span members table to book rows situation after goes) ends.led is_log,
    )

pub walk_ends : (members : ℕ) (table : Table) (to : ℤ) (book rows : List Row) (situation after : Situation) (log : List Entry) → IsInWindow table.window to → table.window.from.0 ≤ℤ situation.latest
    → ContinuesBy (Walks members table to) members table book rows situation after → IsLog members (votes_in (book ++ rows)) log
    → EndsQuietly members table (book ++ rows) (coordinator members situation) to after log
walk_ends members table to book rows situation after log inside from goes is_log =
    led_ends members table (coordinator members situation) to book rows situation after log (walks_span members table to book rows situation after goes)
    (walk_led_until members table to book rows situation after inside from goes) is_log

-- ---- a script

-- the window's last minute is in it
pub last_inside : (table : Table) → IsSound table → IsInWindow table.window (table.window.until.0 -ℤ pos 1)
last_inside table sound = (let ordered = sound.limits.ordered in record { since = omega (arith, ints, ordered); before = omega (arith, ints) })

-- the walk behind a script goes on from what the script has left
pub walks_behind : (members : ℕ) (table : Table) (script : List Command) (rows : List Row) (obeyed : Obeys members table script rows) → 1 ≤ members → members ≤ 7 → IsSound table → IsLegal members table rows
    → IsWithinBounds rows obeyed.after.standing.posted
    → ContinuesBy (Walks members table (table.window.until.0 -ℤ pos 1)) members table obeyed.obeys.front obeyed.obeys.back obeyed.obeys.middle obeyed.after
walks_behind members table script rows obeyed some few sound legal limits =
    let parts = obeyed.obeys in
    let scripted = parts_come members table script (first_situation members table) parts.front parts.middle parts.one in
    record {
      some = some;
      few = few;
      sound = sound;
      legal = subst (λ list. IsLegal members table list) parts.parts legal;
      standing = came members table [] parts.front (first_situation members table) parts.middle refl scripted;
      goes = parts.two;
      limits = subst (λ list. IsWithinBounds list obeyed.after.standing.posted) parts.parts limits;
    }

-- no clock reading of it is before the window
pub latest_since : (members : ℕ) (table : Table) (script : List Command) (rows : List Row) (obeyed : Obeys members table script rows) → table.window.from.0 ≤ℤ (script_end obeyed).latest
latest_since members table script rows obeyed =
    let parts = obeyed.obeys in
    let scripted = parts_come members table script (first_situation members table) parts.front parts.middle parts.one in
    subst (λ reading. table.window.from.0 ≤ℤ reading) (sym scripted.latest) (rises table.window.from.0 parts.front)

pub script_ends : (members : ℕ) (table : Table) (script : List Command) (rows : List Row) (obeyed : Obeys members table script rows) (log : List Entry) → 1 ≤ members → members ≤ 7 → IsSound table
    → IsLegal members table rows → IsWithinBounds rows obeyed.after.standing.posted → IsLog members (votes_in rows) log
    → EndsQuietly members table rows (coordinator members (script_end obeyed)) (table.window.until.0 -ℤ pos 1) obeyed.after log
script_ends members table script rows obeyed log some few sound legal limits is_log =
    let parts = obeyed.obeys in
    let last = table.window.until.0 -ℤ pos 1 in
    subst (λ list. EndsQuietly members table list (coordinator members parts.middle) last obeyed.after log) (sym parts.parts)
    (walk_ends members table last parts.front parts.back parts.middle obeyed.after log (last_inside table sound) (latest_since members table script rows obeyed)
    (walks_behind members table script rows obeyed some few sound legal limits) (subst (λ list. IsLog members (votes_in list) log) parts.parts is_log))

pub script_learned : (members : ℕ) (table : Table) (script : List Command) (rows : List Row) (obeyed : Obeys members table script rows) (log : List Entry) (who : ℕ) → 1 ≤ members → members ≤ 7 → IsSound table
    → IsLegal members table rows → IsWithinBounds rows obeyed.after.standing.posted → IsLog members (votes_in rows) log → who < members
    → prefix_of (obeyed.after.standing.replicas who) ≡ length log
script_learned members table script rows obeyed log who some few sound legal limits is_log member =
    quiet_learned members table rows (coordinator members (script_end obeyed)) (table.window.until.0 -ℤ pos 1) obeyed.after log who
    (script_ends members table script rows obeyed log some few sound legal limits is_log) member

pub script_calls : (members : ℕ) (table : Table) (script : List Command) (rows : List Row) (obeyed : Obeys members table script rows) (log : List Entry) (launch : List JobRow) → 1 ≤ members → members ≤ 7 → IsSound table
    → IsLegal members table rows → IsWithinBounds rows obeyed.after.standing.posted → IsLog members (votes_in rows) log → IsClerkOf table log launch
    → NoCall table launch (table.window.until.0 -ℤ pos 1)
script_calls members table script rows obeyed log launch some few sound legal limits is_log clerk =
    quiet_calls members table rows (coordinator members (script_end obeyed)) (table.window.until.0 -ℤ pos 1) obeyed.after log launch
    (script_ends members table script rows obeyed log some few sound legal limits is_log) clerk

pub script_starts : (members : ℕ) (table : Table) (script : List Command) (rows : List Row) (obeyed : Obeys members table script rows) (log : List Entry) (launch : List JobRow) → 1 ≤ members → members ≤ 7 → IsSound table
    → IsLegal members table rows → IsWithinBounds rows obeyed.after.standing.posted → IsLog members (votes_in rows) log → IsClerkOf table log launch
    → NoStart table launch (table.window.until.0 -ℤ pos 1)
script_starts members table script rows obeyed log launch some few sound legal limits is_log clerk =
    quiet_starts members table rows (coordinator members (script_end obeyed)) (table.window.until.0 -ℤ pos 1) obeyed.after log launch
    (script_ends members table script rows obeyed log some few sound legal limits is_log) clerk

pub script_tables : (members : ℕ) (table : Table) (script : List Command) (rows : List Row) (obeyed : Obeys members table script rows) (log : List Entry) (launch : List JobRow) → 1 ≤ members → members ≤ 7 → IsSound table
    → IsLegal members table rows → IsWithinBounds rows obeyed.after.standing.posted → IsLog members (votes_in rows) log → IsClerkOf table log launch
    → NoTable table launch (table.window.until.0 -ℤ pos 1)
script_tables members table script rows obeyed log launch some few sound legal limits is_log clerk =
    quiet_tables members table rows (coordinator members (script_end obeyed)) (table.window.until.0 -ℤ pos 1) obeyed.after log launch
    (script_ends members table script rows obeyed log some few sound legal limits is_log) clerk

-- so the log has nothing left to do
pub script_settled : (members : ℕ) (table : Table) (script : List Command) (rows : List Row) (obeyed : Obeys members table script rows) (log : List Entry) → 1 ≤ members → members ≤ 7 → IsSound table
    → IsLegal members table rows → IsWithinBounds rows obeyed.after.standing.posted → IsLog members (votes_in rows) log → IsSettled table log (table.window.until.0 -ℤ pos 1)
script_settled members table script rows obeyed log some few sound legal limits is_log =
    let (launch, clerk) = table_left members table rows log few legal is_log in
    record {
      rows = launch;
      clerk = clerk;
      no_call = script_calls members table script rows obeyed log launch some few sound legal limits is_log clerk;
      no_start = script_starts members table script rows obeyed log launch some few sound legal limits is_log clerk;
      no_table = script_tables members table script rows obeyed log launch some few sound legal limits is_log clerk;
    }
