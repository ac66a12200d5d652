-- What the loops keep that play rounds, drains and walks by the lines of a text.
use Rattle.std.proofs.Common.{◌≡◌, ◌+◌, ◌<◌, ◌^◌, ℕ, suc, ℤ, Bool, true, false, List, [], ◌∷◌, ◌++◌, length, Result, Err, refl, sym, ap, ◌∙◌, subst, arith, ◌≤ℤ◌, append-nil as append_nil}
use Rattle.std.specs.Prelude.{⊤, unsigned_abs, ◌-ℤ◌}
use Rattle.std.specs.Int.{int_min}
use Rattle.std.proofs.lemmas.Int.{clamps, ints}
use Rattle.zone_minutes.specs.Window.{IsInWindow}
use Rattle.zone_minutes.specs.declared.minute.Window.{Window}
use Rattle.due_set.specs.Table.{Table}
use Rattle.history.specs.Book.{Row}
use Rattle.history.specs.declared.turn.Cause.TheVariants.{Campaign}
use Rattle.journal_text.proofs.Determined.{drains_alike, plain_alike, plays_alike, plays_by_alike, settles_alike, drain_round_alike}
use Rattle.script_semantics.proofs.StartLemmas.{same_coordinator}
use Rattle.script_semantics.specs.Arms.{AreRoundsByArms, PlaysByArms}
use Rattle.script_semantics.specs.Commands.{Plain}
use Rattle.script_semantics.specs.Parts.{Plays, Then}
use Rattle.script_semantics.specs.Round.{round_tasks}
use Rattle.script_semantics.specs.Settling.{AsksNothingUntil, Drains, IsDrainRound, IsLedToQuiet, IsNextMinute, IsQuiet, Settles, Walks, WalksOn, cleared, coordinator, restart_tasks}
use Rattle.script_semantics.specs.Situation.{Do, Situation, Task}
use Rattle.step_spec.specs.State.{State}
use Rattle.run_replay.proofs.QuietLemmas.{quiet_runs}
use Rattle.run_replay.specs.Quiet.{SaysWhether}
use Rattle.run_replay.specs.Replay.{IsInSituation, IsReplayAt}
use Rattle.run_replay.specs.declared.replay.Replay.{Replay}
use Rattle.run_audit.proofs.BeginLemmas.{drain_begins, drain_round_begins, plain_begins, plays_begins, plays_by_arms_begins, settling_begins}
use Rattle.run_audit.proofs.EndLemmas.{drain_ends, drain_round_ends, plain_ends, plays_by_ends, plays_ends, settling_ends}
use Rattle.run_audit.proofs.LeadLemmas.{leads_then, minute_leads, quiet_ends, round_leads, stops_in_minute, stops_in_round, walk_ends_there}
use Rattle.run_audit.proofs.PartLemmas.{AreAsOne, LeadsOn, comes_as, leads_by, leads_come, played_none, stops_as, then_leads, then_stops}
use Rattle.run_audit.proofs.StopLemmas.{stops_first}
use Rattle.run_audit.specs.Begins.{BeginsDrain, BeginsDrainRound, BeginsRounds, BeginsSettling, BeginsThen, BeginsToLead, BeginsToPlay, BeginsToPlayByArms, BeginsWalk, BeginsWalkOn}
use Rattle.run_audit.specs.Played.{ComesOf, HasPlayedOn, RunsInReplay, StopsIn, StopsPart}
use Rattle.run_audit.specs.declared.lines.Rest.{Rest}
use Rattle.run_audit.specs.declared.verdict.Stop.{Stop}

-- ---- one part and then another

-- a first part was played, and this comes of the second
pub then_comes : {X : Type 0} (table : Table) (asked : Situation → List Task) (next : ℕ → Situation → List Row → Type 0) (second : ℕ → Situation → List Row → Situation → Type 0)
    (old now new : Replay) (text rest behind : Rest) (result : Result X Stop) → HasPlayedOn table (Plays old.book.members asked) old text now rest
    → ComesOf table (next now.book.members) (second now.book.members) now rest new behind result
    → ComesOf table (BeginsThen (BeginsToPlay old.book.members asked) (Plays old.book.members asked) (next old.book.members)) (Then (Plays old.book.members asked) (second old.book.members))
    old text new behind result
then_comes table asked next second old now new text rest behind result played comes =
    let n = old.book.members in
    leads_come table (BeginsThen (BeginsToPlay n asked) (Plays n asked) (next n)) (next n) (Then (Plays n asked) (second n)) (second n) old now new text rest behind result
    (then_leads table (BeginsToPlay n asked) (next n) (Plays n asked) (second n) old text (plays_begins n asked) (plays_ends n asked) (plays_alike n asked) now rest played)
    (subst (λ (m : ℕ). ComesOf table (next m) (second m) now rest new behind result) played.members comes)

-- the first part stops
pub first_stops : (table : Table) (asked : Situation → List Task) (next : Situation → List Row → Type 0) (second : Situation → List Row → Situation → Type 0) (old : Replay) (text : Rest) (stop : Stop)
    → StopsPart table (BeginsToPlay old.book.members asked) (Plays old.book.members asked) old text stop
    → StopsPart table (BeginsThen (BeginsToPlay old.book.members asked) (Plays old.book.members asked) next) (Then (Plays old.book.members asked) second) old text stop
first_stops table asked next second old text =
    let n = old.book.members in
    then_stops table (BeginsToPlay n asked) next (Plays n asked) second old text (plays_begins n asked) (plays_ends n asked) (plays_alike n asked)

-- ---- draining

module _ (table : Table) (who : ℕ) (at : ℤ) (members : ℕ) (now : Replay) (same : now.book.members ≡ members) where
  -- what an answer says of the situation
  pub quiet_now : (answer : Bool) → SaysWhether table (IsQuiet now.book.members table who at) now answer → answer ≡ true → (rows : List Row) (situation : Situation) → IsReplayAt table rows now situation
      → IsQuiet members table who at situation
  quiet_now answer says holds rows situation is = subst (λ (n : ℕ). IsQuiet n table who at situation) same ((says rows situation is).0 holds)

  pub busy_now : (answer : Bool) → SaysWhether table (IsQuiet now.book.members table who at) now answer → answer ≡ false → (rows : List Row) (situation : Situation) → IsReplayAt table rows now situation
      → IsQuiet members table who at situation → ⊥
  busy_now answer says isnt rows situation is quiet =
      let holds : answer ≡ true = (says rows situation is).1 (subst (λ (n : ℕ). IsQuiet n table who at situation) (sym same) quiet) in
      let both : true ≡ false = sym holds ∙ isnt in
      cc

  -- where it is quiet the drain is whole
  pub quiet_played : (rest : Rest) → rest.number + length rest.text.now < 2 ^ 32 → ((rows : List Row) (situation : Situation) → IsReplayAt table rows now situation → IsQuiet members table who at situation)
      → HasPlayedOn table (Drains members table who at) now rest now rest
  quiet_played rest few quiet = record {
    plays = λ rows situation is. record {
      part = [];
      after = situation;
      is = quiet_ends members table who at situation (quiet rows situation is);
      text_is = refl;
      number = let same : rest.number ≡ rest.number + 0 = omega arith in same;
      ready = subst (λ (l : List Row). IsReplayAt table l now situation) (sym (append_nil rows)) is;
    };
    members = refl;
    few = few;
  }

  -- and the replica runs
  pub quiet_there : IsInSituation table now → ((rows : List Row) (situation : Situation) → IsReplayAt table rows now situation → IsQuiet members table who at situation) → RunsInReplay who now
  quiet_there ready quiet =
      quiet_runs table ready.rows now ready.situation ready.is who at (subst (λ (n : ℕ). IsQuiet n table who at ready.situation) (sym same) (quiet ready.rows ready.situation ready.is))

  -- a round leads from the drain into it again
  pub round_on : (new : Replay) (rest behind : Rest) → ((rows : List Row) (situation : Situation) → IsReplayAt table rows now situation → IsQuiet members table who at situation → ⊥)
      → HasPlayedOn table (IsDrainRound now.book.members table who at) now rest new behind
      → LeadsOn table (BeginsDrain members table who at) (Drains members table who at) (BeginsDrain members table who at) (Drains members table who at) now new rest behind
  round_on new rest behind busy played =
      leads_by table members (BeginsDrain members table who at) (Drains members table who at) (BeginsDrain members table who at) (Drains members table who at) (IsDrainRound members table who at) now new rest behind
      same (subst (λ (n : ℕ). HasPlayedOn table (IsDrainRound n table who at) now rest new behind) same played)
      (λ rows situation is done middle one. round_leads members table who at situation done middle (busy rows situation is) one)

  -- the drain stops where its round stops
  pub round_stops : (rest : Rest) (stop : Stop) → ((rows : List Row) (situation : Situation) → IsReplayAt table rows now situation → IsQuiet members table who at situation → ⊥)
      → StopsPart table (BeginsDrainRound now.book.members table who at) (IsDrainRound now.book.members table who at) now rest stop
      → StopsPart table (BeginsDrain members table who at) (Drains members table who at) now rest stop
  round_stops rest stop busy stops =
      stops_as table (BeginsDrainRound members table who at) (BeginsDrain members table who at) (IsDrainRound members table who at) (Drains members table who at) now rest stop
      (λ rows situation is Next part stopped.
      subst (λ (n : ℕ). StopsIn n (BeginsDrain members table who at) (Drains members table who at) Next situation part) (sym same)
      (stops_in_round members table who at situation part Next (busy rows situation is)
      (stops_first members (BeginsDrainRound members table who at) (IsDrainRound members table who at) (BeginsDrain members table who at) (Drains members table who at) Next
      (drain_round_begins members table who at) (drain_round_ends members table who at) (drain_round_alike members table who at) situation part
      (subst (λ (n : ℕ). StopsIn n (BeginsDrainRound members table who at) (IsDrainRound members table who at) Next situation part) same stopped))))
      (subst (λ (n : ℕ). StopsPart table (BeginsDrainRound n table who at) (IsDrainRound n table who at) now rest stop) same stops)

-- ---- settling

-- all have started again, and a replica that was found then leads
module _ (table : Table) (at : ℤ) (who : ℕ) (old now : Replay) (text rest : Rest) (played : HasPlayedOn table (Plain old.book.members (restart_tasks old.book.members) cleared) old text now rest)
    (leads : (rows : List Row) (situation : Situation) → IsReplayAt table rows now situation → who ≡ coordinator now.book.members situation) where
  abbrev stands : Situation → List Task
  stands here = Do who Campaign ∷ []

  abbrev n : ℕ
  n = old.book.members

  start_leads : LeadsOn table (BeginsSettling n table at) (Settles n table at) (BeginsToLead n table at) (IsLedToQuiet n table at) old now text rest
  start_leads =
      then_leads table (BeginsToPlay n (restart_tasks n)) (BeginsToLead n table at) (Plain n (restart_tasks n) cleared) (IsLedToQuiet n table at) old text
      (plain_begins n (restart_tasks n) cleared) (plain_ends n (restart_tasks n) cleared) (plain_alike n (restart_tasks n) cleared (λ here. refl)) now rest played

  -- leading by its number is leading as the coordinator
  as_coordinator : (rows : List Row) (situation : Situation) → IsReplayAt table rows now situation
      → AreAsOne (BeginsThen (BeginsToPlay n stands) (Plays n stands) (BeginsDrain n table who at)) (BeginsToLead n table at) (Then (Plays n stands) (Drains n table who at)) (IsLedToQuiet n table at) situation
  as_coordinator rows situation is =
      let found : who ≡ coordinator n situation = leads rows situation is ∙ ap (λ (m : ℕ). coordinator m situation) played.members in
      let begins : ℕ → List Row → Type 0 =
      λ k part. BeginsThen (BeginsToPlay n (λ here. Do k Campaign ∷ [])) (Plays n (λ here. Do k Campaign ∷ [])) (BeginsDrain n table k at) situation part in
      let whole : ℕ → List Row → Situation → Type 0 = λ k part after. Then (Plays n (λ here. Do k Campaign ∷ [])) (Drains n table k at) situation part after in
      record {
        begins_so = λ part had. subst (λ k. begins k part) found had;
        begins_back = λ part had. subst (λ k. begins k part) (sym found) had;
        ends_so = λ part after had. subst (λ k. whole k part after) found had;
        ends_back = λ part after had. subst (λ k. whole k part after) (sym found) had;
      }

  pub settling_comes : {X : Type 0} (new : Replay) (behind : Rest) (result : Result X Stop)
      → ComesOf table (BeginsThen (BeginsToPlay now.book.members stands) (Plays now.book.members stands) (BeginsDrain now.book.members table who at))
      (Then (Plays now.book.members stands) (Drains now.book.members table who at)) now rest new behind result
      → ComesOf table (BeginsSettling n table at) (Settles n table at) old text new behind result
  settling_comes new behind result comes =
      leads_come table (BeginsSettling n table at) (BeginsToLead n table at) (Settles n table at) (IsLedToQuiet n table at) old now new text rest behind result start_leads
      (comes_as table (BeginsThen (BeginsToPlay n stands) (Plays n stands) (BeginsDrain n table who at)) (BeginsToLead n table at) (Then (Plays n stands) (Drains n table who at)) (IsLedToQuiet n table at)
      now rest new behind result as_coordinator
      (subst (λ (m : ℕ). ComesOf table (BeginsThen (BeginsToPlay m stands) (Plays m stands) (BeginsDrain m table who at)) (Then (Plays m stands) (Drains m table who at)) now rest new behind result)
      played.members comes))

  pub settling_stops : (stop : Stop)
      → StopsPart table (BeginsThen (BeginsToPlay now.book.members stands) (Plays now.book.members stands) (BeginsDrain now.book.members table who at))
      (Then (Plays now.book.members stands) (Drains now.book.members table who at)) now rest stop
      → StopsPart table (BeginsSettling n table at) (Settles n table at) old text stop
  settling_stops stop stops = settling_comes {X = ⊤} now rest (Err stop) stops

  -- it was the coordinator before
  pub led_before : (rows : List Row) (situation : Situation) → IsReplayAt table rows old situation → who ≡ coordinator n situation
  led_before rows situation is =
      let had = played.plays rows situation is in
      leads (rows ++ had.part) had.after had.ready ∙ ap (λ (m : ℕ). coordinator m had.after) played.members ∙ same_coordinator n situation had.part had.after had.is

pub start_stops : (table : Table) (at : ℤ) (old : Replay) (text : Rest) (stop : Stop)
    → StopsPart table (BeginsToPlay old.book.members (restart_tasks old.book.members)) (Plain old.book.members (restart_tasks old.book.members) cleared) old text stop
    → StopsPart table (BeginsSettling old.book.members table at) (Settles old.book.members table at) old text stop
start_stops table at old text =
    let n = old.book.members in
    then_stops table (BeginsToPlay n (restart_tasks n)) (BeginsToLead n table at) (Plain n (restart_tasks n) cleared) (IsLedToQuiet n table at) old text
    (plain_begins n (restart_tasks n) cleared) (plain_ends n (restart_tasks n) cleared) (plain_alike n (restart_tasks n) cleared (λ here. refl))

-- ---- walking

pub earlier_inside : (window : Window) (at one other : ℤ) → at ≡ int_min one other → window.from.0 ≤ℤ one → IsInWindow window other → IsInWindow window at
earlier_inside window at one other is since inside =
    let from = inside.since in
    let before = inside.before in
    record { since = omega (arith, ints, clamps); before = omega (arith, ints, clamps) }

-- the next minute is of the window, and nearer to its end
pub next_inside : (window : Window) (table : Table) (state : State) (above to minute : ℤ) → IsInWindow window above → IsInWindow window to → IsNextMinute table state above to minute
    → IsInWindow window minute
next_inside window table state above to minute from inside next =
    let since = from.since in
    let before = inside.before in
    let later = next.later in
    let within = next.within in
    record { since = omega (arith, ints); before = omega (arith, ints) }

pub next_nearer : (window : Window) (table : Table) (state : State) (above to minute : ℤ) → IsInWindow window to → IsNextMinute table state above to minute
    → unsigned_abs (window.until.0 -ℤ minute) < unsigned_abs (window.until.0 -ℤ above)
next_nearer window table state above to minute inside next =
    let before = inside.before in
    let later = next.later in
    let within = next.within in
    omega (arith, ints)

module _ (table : Table) (who : ℕ) (above to : ℤ) (members : ℕ) (now : Replay) (same : now.book.members ≡ members) where
  module _ (minute : ℤ) (next : (rows : List Row) (situation : Situation) → IsReplayAt table rows now situation → IsNextMinute table (situation.standing.replicas who) above to minute) where
    -- the drain of the next minute leads on
    pub minute_on : (new : Replay) (rest behind : Rest) → HasPlayedOn table (Drains now.book.members table who minute) now rest new behind
        → LeadsOn table (BeginsWalkOn members table who above to) (WalksOn members table who above to) (BeginsWalkOn members table who minute to) (WalksOn members table who minute to) now new rest behind
    minute_on new rest behind played =
        leads_by table members (BeginsWalkOn members table who above to) (WalksOn members table who above to) (BeginsWalkOn members table who minute to) (WalksOn members table who minute to)
        (Drains members table who minute) now new rest behind same (subst (λ (n : ℕ). HasPlayedOn table (Drains n table who minute) now rest new behind) same played)
        (λ rows situation is done middle one. minute_leads members table who to above minute situation done middle (next rows situation is) one)

    -- the walk stops where that drain stops
    pub minute_stops : (rest : Rest) (stop : Stop) → StopsPart table (BeginsDrain now.book.members table who minute) (Drains now.book.members table who minute) now rest stop
        → StopsPart table (BeginsWalkOn members table who above to) (WalksOn members table who above to) now rest stop
    minute_stops rest stop stops =
        stops_as table (BeginsDrain members table who minute) (BeginsWalkOn members table who above to) (Drains members table who minute) (WalksOn members table who above to) now rest stop
        (λ rows situation is Next part stopped.
        subst (λ (n : ℕ). StopsIn n (BeginsWalkOn members table who above to) (WalksOn members table who above to) Next situation part) (sym same)
        (stops_in_minute members table who to above minute situation part Next (next rows situation is)
        (stops_first members (BeginsDrain members table who minute) (Drains members table who minute) (BeginsWalkOn members table who minute to) (WalksOn members table who minute to) Next
        (drain_begins members table who minute) (drain_ends members table who minute) (drains_alike members table who minute) situation part
        (subst (λ (n : ℕ). StopsIn n (BeginsDrain members table who minute) (Drains members table who minute) Next situation part) same stopped))))
        (subst (λ (n : ℕ). StopsPart table (BeginsDrain n table who minute) (Drains n table who minute) now rest stop) same stops)

  -- where no later minute asks for anything the walk is whole
  pub walk_played : (rest : Rest) → rest.number + length rest.text.now < 2 ^ 32
      → ((rows : List Row) (situation : Situation) → IsReplayAt table rows now situation → AsksNothingUntil table above to (situation.standing.replicas who))
      → HasPlayedOn table (WalksOn members table who above to) now rest now rest
  walk_played rest few none = record {
    plays = λ rows situation is. record {
      part = [];
      after = situation;
      is = walk_ends_there members table who to above situation (none rows situation is);
      text_is = refl;
      number = let same : rest.number ≡ rest.number + 0 = omega arith in same;
      ready = subst (λ (l : List Row). IsReplayAt table l now situation) (sym (append_nil rows)) is;
    };
    members = refl;
    few = few;
  }

-- what a walk keeps: the replica runs, and the minute is of the window
pub record HasWalkedTo (table : Table) (who : ℕ) (at above to : ℤ) (old now : Replay) (text rest : Rest) : Type 0 where
  pub leads : LeadsOn table (BeginsWalkOn old.book.members table who at to) (WalksOn old.book.members table who at to) (BeginsWalkOn old.book.members table who above to)
      (WalksOn old.book.members table who above to) old now text rest
  pub runs : RunsInReplay who now
  pub inside : IsInWindow table.window above

-- a walk begins by settling at the earlier of two instants, and the replica that leads then walks on
module _ (table : Table) (at to : ℤ) (who : ℕ) (old : Replay) (text : Rest) (earlier : at ≡ int_min old.latest.0 to) where
  abbrev m : ℕ
  m = old.book.members

  -- settling here and walking on from here is walking
  walk_as_one : ((rows : List Row) (situation : Situation) → IsReplayAt table rows old situation → who ≡ coordinator m situation) → (rows : List Row) (situation : Situation) → IsReplayAt table rows old situation
      → AreAsOne (BeginsThen (BeginsSettling m table at) (Settles m table at) (BeginsWalkOn m table who at to)) (BeginsWalk m table to) (Then (Settles m table at) (WalksOn m table who at to)) (Walks m table to) situation
  walk_as_one leads rows situation is =
      let found : who ≡ coordinator m situation = leads rows situation is in
      let here : at ≡ int_min situation.latest to = earlier ∙ ap (λ latest. int_min latest to) is.latest in
      let begins : ℤ → ℕ → List Row → Type 0 = λ a k part. BeginsThen (BeginsSettling m table a) (Settles m table a) (BeginsWalkOn m table k a to) situation part in
      let whole : ℤ → ℕ → List Row → Situation → Type 0 = λ a k part after. Then (Settles m table a) (WalksOn m table k a to) situation part after in
      record {
        begins_so = λ part had. subst (λ a. begins a (coordinator m situation) part) here (subst (λ k. begins at k part) found had);
        begins_back = λ part had. subst (λ k. begins at k part) (sym found) (subst (λ a. begins a (coordinator m situation) part) (sym here) had);
        ends_so = λ part after had. subst (λ a. whole a (coordinator m situation) part after) here (subst (λ k. whole at k part after) found had);
        ends_back = λ part after had. subst (λ k. whole at k part after) (sym found) (subst (λ a. whole a (coordinator m situation) part after) (sym here) had);
      }

  pub walk_comes : {X : Type 0} (now new : Replay) (rest behind : Rest) (result : Result X Stop)
      → ((rows : List Row) (situation : Situation) → IsReplayAt table rows old situation → who ≡ coordinator m situation) → HasPlayedOn table (Settles m table at) old text now rest
      → ComesOf table (BeginsWalkOn now.book.members table who at to) (WalksOn now.book.members table who at to) now rest new behind result
      → ComesOf table (BeginsWalk m table to) (Walks m table to) old text new behind result
  walk_comes now new rest behind result leads settled comes =
      comes_as table (BeginsThen (BeginsSettling m table at) (Settles m table at) (BeginsWalkOn m table who at to)) (BeginsWalk m table to) (Then (Settles m table at) (WalksOn m table who at to)) (Walks m table to)
      old text new behind result (walk_as_one leads)
      (leads_come table (BeginsThen (BeginsSettling m table at) (Settles m table at) (BeginsWalkOn m table who at to)) (BeginsWalkOn m table who at to) (Then (Settles m table at) (WalksOn m table who at to))
      (WalksOn m table who at to) old now new text rest behind result
      (then_leads table (BeginsSettling m table at) (BeginsWalkOn m table who at to) (Settles m table at) (WalksOn m table who at to) old text (settling_begins m table at) (settling_ends m table at)
      (settles_alike m table at) now rest settled)
      (subst (λ (k : ℕ). ComesOf table (BeginsWalkOn k table who at to) (WalksOn k table who at to) now rest new behind result) settled.members comes))

-- a walk stops where its settling stops
pub walk_stops : (table : Table) (at to : ℤ) (old : Replay) (text : Rest) (stop : Stop) → at ≡ int_min old.latest.0 to
    → StopsPart table (BeginsSettling old.book.members table at) (Settles old.book.members table at) old text stop
    → StopsPart table (BeginsWalk old.book.members table to) (Walks old.book.members table to) old text stop
walk_stops table at to old text stop earlier stops =
    let n = old.book.members in
    stops_as table (BeginsSettling n table at) (BeginsWalk n table to) (Settles n table at) (Walks n table to) old text stop
    (λ rows situation is Next part stopped.
    let here : at ≡ int_min situation.latest to = earlier ∙ ap (λ latest. int_min latest to) is.latest in
    let who = coordinator n situation in
    let both =
    stops_first n (BeginsSettling n table at) (Settles n table at) (BeginsWalkOn n table who at to) (WalksOn n table who at to) Next (settling_begins n table at) (settling_ends n table at) (settles_alike n table at)
    situation part stopped in
    let begins : ℤ → List Row → Type 0 = λ a part. BeginsThen (BeginsSettling n table a) (Settles n table a) (BeginsWalkOn n table who a to) situation part in
    let whole : ℤ → List Row → Situation → Type 0 = λ a part after. Then (Settles n table a) (WalksOn n table who a to) situation part after in
    record {
      begun = subst (λ a. begins a part) here both.begun;
      not_whole = λ front more after had twins. both.not_whole front more after (subst (λ a. whole a front after) (sym here) had) twins;
      stuck = λ others row twins goes had. both.stuck others row twins goes (subst (λ a. begins a (others ++ row ∷ [])) (sym here) had);
    })
    stops

-- ---- rounds on disks that may be armed

module _ (table : Table) (at : ℤ) (members : ℕ) where
  abbrev asked : Situation → List Task
  asked = round_tasks members table.window at

  -- rounds, so many of them left
  pub round_more : (left more : ℕ) (now new : Replay) (rest behind : Rest) → left ≡ suc more → now.book.members ≡ members
      → HasPlayedOn table (PlaysByArms now.book.members (round_tasks now.book.members table.window at)) now rest new behind
      → LeadsOn table (BeginsRounds members table.window at left) (AreRoundsByArms members table.window at left) (BeginsRounds members table.window at more)
      (AreRoundsByArms members table.window at more) now new rest behind
  round_more left more now new rest behind is same played =
      subst (λ (k : ℕ). LeadsOn table (BeginsRounds members table.window at k) (AreRoundsByArms members table.window at k) (BeginsRounds members table.window at more)
      (AreRoundsByArms members table.window at more) now new rest behind) (sym is)
      (leads_by table members (BeginsRounds members table.window at (suc more)) (AreRoundsByArms members table.window at (suc more)) (BeginsRounds members table.window at more)
      (AreRoundsByArms members table.window at more) (PlaysByArms members asked) now new rest behind same
      (subst (λ (n : ℕ). HasPlayedOn table (PlaysByArms n (round_tasks n table.window at)) now rest new behind) same played)
      (λ rows situation is done middle one.
      leads_then members (BeginsToPlayByArms members asked) (PlaysByArms members asked) (BeginsRounds members table.window at more) (AreRoundsByArms members table.window at more)
      (plays_by_arms_begins members asked) (plays_by_ends members asked) (plays_by_alike members asked) situation done middle one))

  pub rounds_stop : (left more : ℕ) (now : Replay) (rest : Rest) (stop : Stop) → left ≡ suc more → now.book.members ≡ members
      → StopsPart table (BeginsToPlayByArms now.book.members (round_tasks now.book.members table.window at)) (PlaysByArms now.book.members (round_tasks now.book.members table.window at)) now rest stop
      → StopsPart table (BeginsRounds members table.window at left) (AreRoundsByArms members table.window at left) now rest stop
  rounds_stop left more now rest stop is same stops =
      subst (λ (k : ℕ). StopsPart table (BeginsRounds members table.window at k) (AreRoundsByArms members table.window at k) now rest stop) (sym is)
      (stops_as table (BeginsToPlayByArms members asked) (BeginsRounds members table.window at (suc more)) (PlaysByArms members asked) (AreRoundsByArms members table.window at (suc more)) now rest stop
      (λ rows situation here Next part stopped.
      subst (λ (n : ℕ). StopsIn n (BeginsRounds members table.window at (suc more)) (AreRoundsByArms members table.window at (suc more)) Next situation part) (sym same)
      (stops_first members (BeginsToPlayByArms members asked) (PlaysByArms members asked) (BeginsRounds members table.window at more) (AreRoundsByArms members table.window at more) Next
      (plays_by_arms_begins members asked) (plays_by_ends members asked) (plays_by_alike members asked) situation part
      (subst (λ (n : ℕ). StopsIn n (BeginsToPlayByArms members asked) (PlaysByArms members asked) Next situation part) same stopped)))
      (subst (λ (n : ℕ). StopsPart table (BeginsToPlayByArms n (round_tasks n table.window at)) (PlaysByArms n (round_tasks n table.window at)) now rest stop) same stops))

  -- none is left
  pub rounds_end : (left : ℕ) (now : Replay) (rest : Rest) → left ≡ 0 → rest.number + length rest.text.now < 2 ^ 32
      → HasPlayedOn table (AreRoundsByArms members table.window at left) now rest now rest
  rounds_end left now rest none few = subst (λ (k : ℕ). HasPlayedOn table (AreRoundsByArms members table.window at k) now rest now rest) (sym none) (played_none table now rest few)
