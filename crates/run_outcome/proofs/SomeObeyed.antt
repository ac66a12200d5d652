-- A book that obeys a script within the limits, its walk, and the settling that this begins with.
use Rattle.std.proofs.Common.{◌≡◌, ℕ, ◌<◌, ◌≤◌, List, [], ℤ, pos, ◌-ℤ◌, ◌≤ℤ◌, length, subst, arith}
use Rattle.std.specs.List.{Contains}
use Rattle.std.specs.Int.{int_min}
use Rattle.std.proofs.lemmas.Int.{ints, clamps}
use Rattle.zone_minutes.specs.Window.{IsInWindow}
use Rattle.due_set.specs.Table.{IsSound, Table}
use Rattle.script_text.specs.declared.command.Command.{Command}
use Rattle.step_spec.proofs.Lists.{nothing_in}
use Rattle.history.specs.Book.{PostedLetter, Row}
use Rattle.history.specs.Legal.{IsLegal}
use Rattle.script_semantics.specs.Script.{Obeys}
use Rattle.script_semantics.specs.Settling.{Settles, Walks}
use Rattle.script_semantics.specs.Situation.{Situation}
use Rattle.settling.specs.Rounds.{IsWithinBounds}
use Rattle.run_outcome.specs.Readings.{script_turns}
use Rattle.run_outcome.proofs.PartLemmas.{settles_come}
use Rattle.run_outcome.proofs.SomeWalk.{some_walk}
use Rattle.run_outcome.specs.Continues.{ContinuesBy}
use Rattle.run_outcome.proofs.SpanLemmas.{came, front_of}
use Rattle.run_outcome.proofs.ScriptLemmas.{last_inside, latest_since, walks_behind, walks_span}

-- few turns, and no letter
pub within_bounds : (rows : List Row) (posted : List PostedLetter) → length rows ≤ 100 → posted ≡ [] → IsWithinBounds rows posted
within_bounds rows posted few none = record {
  turns = omega (arith, few);
  letters = λ letter has. nothing_in (subst (λ list. Contains list letter) none has);
}

pub some_obeyed : (table : Table) × (script : List Command) × (rows : List Row) × (obeyed : Obeys 1 table script rows)
    × IsSound table × IsLegal 1 table rows × IsWithinBounds rows obeyed.after.standing.posted × (0 < length (script_turns obeyed))
some_obeyed =
    let (table, script, rows, obeyed, job, at, later, sound, legal, long, due, due_later, order, by, turns, few, none, one) = some_walk in
    (table, script, rows, obeyed, sound, legal, within_bounds rows obeyed.after.standing.posted few none, turns)

pub some_walks : (table : Table) × (to : ℤ) × (book : List Row) × (rows : List Row) × (situation : Situation) × (after : Situation)
    × IsInWindow table.window to × (table.window.from.0 ≤ℤ situation.latest) × ContinuesBy (Walks 1 table to) 1 table book rows situation after
some_walks =
    let (table, script, rows, obeyed, sound, legal, limits, turns) = some_obeyed in (
      table,
      table.window.until.0 -ℤ pos 1,
      obeyed.obeys.front,
      obeyed.obeys.back,
      obeyed.obeys.middle,
      obeyed.after,
      last_inside table sound,
      latest_since 1 table script rows obeyed,
      walks_behind 1 table script rows obeyed (omega arith) (omega arith) sound legal limits,
    )

-- the settling that a walk begins with
settles_first : (members : ℕ) (table : Table) (to : ℤ) (book rows : List Row) (situation after : Situation) → (goes : ContinuesBy (Walks members table to) members table book rows situation after)
    → ContinuesBy (Settles members table (int_min situation.latest to)) members table book goes.goes.front situation goes.goes.middle
settles_first members table to book rows situation after goes =
    let walk = goes.goes in
    let middle = came members table book walk.front situation walk.middle goes.standing (settles_come members table (int_min situation.latest to) situation walk.front walk.middle walk.one) in
    let spans = front_of members table book walk.front walk.back rows situation walk.middle after walk.parts middle (walks_span members table to book rows situation after goes) in
    record { some = goes.some; few = goes.few; sound = goes.sound; legal = spans.legal; standing = goes.standing; goes = walk.one; limits = spans.limits }

pub some_settles : (table : Table) × (at : ℤ) × (book : List Row) × (rows : List Row) × (situation : Situation) × (after : Situation)
    × IsInWindow table.window at × ContinuesBy (Settles 1 table at) 1 table book rows situation after
some_settles =
    let (table, to, book, rows, situation, after, inside, from, goes) = some_walks in
    let since = inside.since in
    let before = inside.before in (
      table,
      int_min situation.latest to,
      book,
      goes.goes.front,
      situation,
      goes.goes.middle,
      record { since = omega (arith, ints, clamps, from, since); before = omega (arith, ints, clamps, before) },
      settles_first 1 table to book rows situation after goes,
    )
