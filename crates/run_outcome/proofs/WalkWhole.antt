-- What a book holds that obeys a script.
use Rattle.std.proofs.Common.{◌≡◌, ℕ, zero, suc, ◌≤◌, List, [], ◌++◌, ℤ, pos, ◌-ℤ◌, ◌≤ℤ◌, ◌<ℤ◌, refl, sym, ap, ◌∙◌, subst, arith, append_assoc}
use Rattle.std.specs.Int.{int_min}
use Rattle.std.proofs.lemmas.Int.{ints, clamps, by_lt_z}
use Rattle.std.proofs.lemmas.List.Elements.{All-append}
use Rattle.std.proofs.lemmas.List.Sums.{fold-append}
use Rattle.due_set.specs.Table.{IsJobDue, IsSound, Table}
use Rattle.paxos_base.specs.declared.entry.Entry.{Entry}
use Rattle.paxos_base.specs.declared.entry.Kind.{Kind}
use Rattle.paxos_base.specs.declared.entry.Kind.TheVariants.{Launch}
use Rattle.script_text.specs.declared.command.Command.{Command}
use Rattle.launch_machine.specs.Clerk.{first_rows}
use Rattle.launch_machine.specs.Starts.{AdoptionsOf}
use Rattle.launch_machine.specs.Versions.{IsDueUnder}
use Rattle.launch_safety.specs.Fits.{HasEnd, HasStart, IsHeld}
use Rattle.launch_safety.specs.Launched.{IsCalledAt}
use Rattle.launch_safety.specs.Settled.{IsSettled}
use Rattle.agreement.specs.Log.{IsLog}
use Rattle.step_spec.specs.State.{State}
use Rattle.history.specs.Book.{Row, Standing, after_row, first_standing, standing_after, votes_in}
use Rattle.history.specs.Legal.{IsLegal}
use Rattle.history.proofs.Turns.{after_rows}
use Rattle.launch_safety.specs.Fitting.{held_in}
use Rattle.script_semantics.specs.Script.{Obeys}
use Rattle.settling.specs.Rounds.{IsWithinBounds}
use Rattle.run_outcome.specs.Whole.{AdoptsNone}
use Rattle.script_semantics.specs.Settling.{AsksNothing, WalksIn, coordinator}
use Rattle.script_semantics.specs.Situation.{Situation, first_situation}
use Rattle.script_semantics.proofs.WalkLemmas.{settled as settles_quiet, drained as drains_quiet}
use Rattle.run_outcome.specs.Readings.{IsGraceLong, script_end, script_turns}
use Rattle.launch_safety.specs.Readings.{AreTurnsBy, IsTurnBy}
use Rattle.run_outcome.proofs.DrainLemmas.{AreRight, drains_by, settles_by}
use Rattle.run_outcome.proofs.PartLemmas.{Comes, drains_come, each_by, latest_by, parts_come, settles_come}
use Rattle.run_outcome.proofs.SettledLemmas.{Passes, called, ended, launched}
use Rattle.run_outcome.proofs.ScriptLemmas.{script_settled}

-- the situation is that of a book
abbrev IsOf : (n : ℕ) (table : Table) (book : List Row) → Situation → Type 0
IsOf n table book situation = situation.standing ≡ standing_after n (first_rows table) book

goes_on : (n : ℕ) (table : Table) (book rows : List Row) (situation after : Situation) → IsOf n table book situation → Comes n situation rows after → IsOf n table (book ++ rows) after
goes_on n table book rows situation after is comes =
    comes.standing ∙ ap (λ st. after_rows n st rows) is
    ∙ sym (fold-append (λ (st : Standing) (row : Row). after_row n st row.turn row.event row.letters) (first_standing n (first_rows table)) book rows)

-- ---- walking past an instant

-- where it asks for nothing at an instant and at those behind it up to another, it asks for nothing there
asks_then : (table : Table) (above at : ℤ) (state : State) → AsksNothing table above state → above ≤ℤ at → (above <ℤ at → AsksNothing table at state) → AsksNothing table at state
asks_then table above at state here low later =
    by_lt_z above at later (λ not_before. let same : above ≡ at = omega (arith, ints, low, not_before) in subst (λ t. AsksNothing table t state) same here)

passes_here : (n : ℕ) (table : Table) (at : ℤ) (book rows : List Row) (situation : Situation) (who : ℕ) → IsOf n table book situation → AreTurnsBy at book → AsksNothing table at (situation.standing.replicas who) → Passes n table at (book ++ rows)
passes_here n table at book rows situation who is by asks = record {
  front = book;
  back = rows;
  parts = refl;
  by = by;
  who = who;
  asks = subst (λ (st : Standing). AsksNothing table at (st.replicas who)) is asks;
}

-- the one that asked for nothing last, where that was at the instant, or else one that asks for nothing at a later one
passes_at : (n : ℕ) (table : Table) (above at : ℤ) (book rows : List Row) (situation : Situation) (last who : ℕ) → IsOf n table book situation → AreTurnsBy at book → above ≤ℤ at
    → AsksNothing table above (situation.standing.replicas last) → (above <ℤ at → AsksNothing table at (situation.standing.replicas who)) → Passes n table at (book ++ rows)
passes_at n table above at book rows situation last who is by low here later =
    by_lt_z above at
    (λ before. passes_here n table at book rows situation who is by (later before))
    (λ not_before.
    let same : above ≡ at = omega (arith, ints, low, not_before) in
    passes_here n table at book rows situation last is by (subst (λ t. AsksNothing table t (situation.standing.replicas last)) same here))

longer : (at : ℤ) (book rows : List Row) → AreTurnsBy at book → AreTurnsBy at rows → AreTurnsBy at (book ++ rows)
longer at book rows one two = All-append (λ (r : Row). IsTurnBy at r.turn) book rows one two

-- A walk to an instant or past it passes the instant: from where it asks for nothing, with right clocks of which none has read a later one.
walks_past : (minutes n : ℕ) (table : Table) (who last : ℕ) (above to at : ℤ) (book rows : List Row) (situation after : Situation)
    → table.window.from.0 ≤ℤ at → above ≤ℤ at → at ≤ℤ to → IsOf n table book situation → AreTurnsBy at book → AreRight situation
    → AsksNothing table above (situation.standing.replicas last) → WalksIn minutes n table who above to situation rows after → Passes n table at (book ++ rows)
walks_past zero n table who last above to at book rows situation after from low high is by right asks walks =
    passes_at n table above at book rows situation last who is by low asks (λ before. walks.is_quiet at before high)
walks_past (suc more) n table who last above to at book rows situation after from low high is by right asks (minute, next, walks) =
    by_lt_z at minute
    (λ passed. passes_at n table above at book rows situation last who is by low asks (λ before. next.least at before passed))
    (λ reached.
    let drained = drains_by n table who at minute situation walks.front walks.middle right from reached walks.one in
    let quiet = drains_quiet n table who minute situation walks.front walks.middle walks.one in
    let there = goes_on n table book walks.front situation walks.middle is (drains_come n table who minute situation walks.front walks.middle walks.one) in
    subst (λ some. Passes n table at some) (append_assoc book walks.front walks.back ∙ ap (λ some. book ++ some) (sym walks.parts))
    (walks_past more n table who who minute to at (book ++ walks.front) walks.back walks.middle after from reached high there
    (longer at book walks.front by drained.by) drained.right quiet.rests walks.two))

module _ (n : ℕ) (table : Table) (script : List Command) (rows : List Row) (obeyed : Obeys n table script rows) where
  abbrev begun : Situation
  begun = first_situation n table

  abbrev last : ℤ
  last = table.window.until.0 -ℤ pos 1

  scripted : Comes n begun obeyed.obeys.front obeyed.obeys.middle
  scripted = parts_come n table script begun obeyed.obeys.front obeyed.obeys.middle obeyed.obeys.one

  of_script : IsOf n table obeyed.obeys.front obeyed.obeys.middle
  of_script = goes_on n table [] obeyed.obeys.front begun obeyed.obeys.middle refl scripted

  pub latest_each : (at : ℤ) → (script_end obeyed).latest ≤ℤ at → AreTurnsBy at (script_turns obeyed)
  latest_each at low = each_by at table.window.from.0 obeyed.obeys.front (subst (λ reading. reading ≤ℤ at) scripted.latest low)

  pub latest_least : (at : ℤ) → table.window.from.0 ≤ℤ at → AreTurnsBy at (script_turns obeyed) → (script_end obeyed).latest ≤ℤ at
  latest_least at from by = subst (λ reading. reading ≤ℤ at) (sym scripted.latest) (latest_by at table.window.from.0 obeyed.obeys.front by from)

  -- it settles no later than at an instant that no clock has passed, and goes on past it
  pub passes : (at : ℤ) → table.window.from.0 ≤ℤ at → at ≤ℤ last → AreTurnsBy at (script_turns obeyed) → Passes n table at rows
  passes at from high by =
      let here = obeyed.obeys.middle in
      let walk = obeyed.obeys.two in
      let settling = int_min here.latest last in
      let latest = latest_least at from by in
      let low : settling ≤ℤ at = omega (arith, ints, clamps, latest) in
      let timely = settles_by n table at settling here walk.front walk.middle from low walk.one in
      let quiet = settles_quiet n table settling here walk.middle walk.front walk.one in
      let there = goes_on n table obeyed.obeys.front walk.front here walk.middle of_script (settles_come n table settling here walk.front walk.middle walk.one) in
      subst (λ some. Passes n table at some)
      (append_assoc obeyed.obeys.front walk.front walk.back ∙ ap (λ some. obeyed.obeys.front ++ some) (sym walk.parts) ∙ sym obeyed.obeys.parts)
      (walks_past walk.two.0 n table (coordinator n here) quiet.0 settling last at (obeyed.obeys.front ++ walk.front) walk.back walk.middle obeyed.after from low high there
      (longer at obeyed.obeys.front walk.front by timely.by) timely.right quiet.1.rests walk.two.1)

pub each_called : (n : ℕ) (table : Table) (script : List Command) (rows : List Row) (obeyed : Obeys n table script rows) (job : ℕ) (at : ℤ) → n ≤ 7 → IsLegal n table rows → AdoptsNone n table rows
    → IsJobDue table 0 job at → AreTurnsBy at (script_turns obeyed) → IsCalledAt (held_in n table rows) job at Launch at
each_called n table script rows obeyed job at few legal none due by =
    let before = due.inside.before in
    called n table rows job at few legal none due (passes n table script rows obeyed at due.inside.since (omega (arith, ints, before)) by)

-- at the window's last minute the whole log has nothing left to do
module _ (n : ℕ) (table : Table) (script : List Command) (rows : List Row) (obeyed : Obeys n table script rows) (log : List Entry) (adoptions : List ℤ) (job : ℕ) (at : ℤ) (some : 1 ≤ n) (few : n ≤ 7)
    (sound : IsSound table) (legal : IsLegal n table rows) (limits : IsWithinBounds rows obeyed.after.standing.posted) (is_log : IsLog n (votes_in rows) log) (adopted : AdoptionsOf table log adoptions) where
  settled : IsSettled table log (table.window.until.0 -ℤ pos 1)
  settled = script_settled n table script rows obeyed log some few sound legal limits is_log

  pub each_ended : IsDueUnder table adoptions job at → HasStart table log job at × (kind : Kind) × HasEnd table log job at kind
  each_ended due = ended table log adoptions job at sound adopted settled due

  pub each_launched : IsGraceLong table → IsDueUnder table adoptions job at → IsHeld (held_in n table rows) job at Launch
  each_launched long due = launched n table rows log adoptions job at few sound legal is_log adopted settled long due
