-- A due instant that no clock reading of the script's turns is later than, by the version in force then, was called at that very instant.
use Rattle.std.proofs.Common.{◌≡◌, inl, inr, ℕ, ◌+◌, ◌≤◌, cond, List, [], ◌∷◌, ◌++◌, length, length-append, append-nil, append_assoc, Option, None, Some, false, ℤ, pos, ◌+ℤ◌, ◌-ℤ◌, ◌≤ℤ◌, ◌<ℤ◌, refl, sym, ap, ◌∙◌, subst, arith}
use Rattle.std.specs.Prelude.{int_lt}
use Rattle.std.specs.List.{Contains}
use Rattle.std.proofs.lemmas.Int.{ints, by_lt_z}
use Rattle.std.proofs.lemmas.List.{take_all}
use Rattle.std.proofs.lemmas.List.Elements.{All-append, All-contains, Contains-append_right}
use Rattle.std.proofs.lemmas.List.Sums.{sum_by-append}
use Rattle.jiff.specs.Types.{TimeZone}
use Rattle.zone_minutes.specs.Window.{IsInWindow}
use Rattle.due_set.specs.Calls.{IsOnTime}
use Rattle.due_set.specs.Table.{IsAnacron, IsJobDue, IsSound, Table, is_by_period}
use Rattle.due_set.specs.declared.job.JobKind.{JobKind}
use Rattle.due_set.specs.declared.job.JobKind.TheVariants.{Anacron, Crontab, Never}
use Rattle.due_set.proofs.NamedLemmas.{due_says}
use Rattle.due_set.proofs.Rising.{Contains-cases, Contains-head, Contains-none}
use Rattle.paxos_base.specs.declared.entry.Entry.{Entry}
use Rattle.paxos_base.specs.declared.entry.Entry.TheVariants.{Table as TableEntry}
use Rattle.paxos_base.specs.declared.entry.Kind.TheVariants.{Launch}
use Rattle.paxos_base.specs.declared.rows.JobRow.{JobRow}
use Rattle.cluster_sched.specs.declared.row.SchedRow.{SchedRow}
use Rattle.script_text.specs.declared.command.Command.{Command}
use Rattle.launch_machine.specs.Answers.{IsIntent}
use Rattle.launch_machine.specs.Clerk.{IsBy, IsClerkOf, NoStart, TakesTable, first_rows}
use Rattle.launch_machine.specs.Starts.{AdoptionsFrom, AdoptionsOf}
use Rattle.launch_machine.specs.Versions.{IsDueUnder, version_at}
use Rattle.launch_machine.specs.declared.machine.Intent.TheVariants as intent
use Rattle.launch_machine.specs.declared.machine.Intent.TheVariants.{Rest}
use Rattle.launch_machine.proofs.ExistLemmas.{clerk_exists}
use Rattle.launch_machine.proofs.MachineLemmas.{come_by_instant, not_anacron}
use Rattle.launch_machine.proofs.UnderLemmas.{none_before}
use Rattle.step_spec.specs.State.{prefix_of}
use Rattle.step_spec.specs.Step.{IsLaunchTable}
use Rattle.agreement.specs.Agree.{vote_for}
use Rattle.agreement.specs.Log.{AreChosen, IsLog}
use Rattle.agreement.proofs.OneValue.{voter_of}
use Rattle.history.specs.Book.{Row, votes_in}
use Rattle.history.specs.Legal.{IsLegal}
use Rattle.history.proofs.Agreement.{book_log}
use Rattle.history.proofs.FrontLemmas.{front_legal}
use Rattle.launch_safety.specs.Asked.{IsAskedAt, state_before}
use Rattle.launch_safety.specs.Fits.{Fits, IsBacked, IsHeld}
use Rattle.launch_safety.specs.Fitting.{held_in}
use Rattle.launch_safety.specs.Launched.{IsCalledAt}
use Rattle.launch_safety.specs.Readings.{AreTurnsBy, IsTurnBy}
use Rattle.launch_safety.specs.Settled.{IsSettled}
use Rattle.launch_safety.proofs.LogLemmas.{chosen_there}
use Rattle.launch_safety.proofs.ReadLemmas.{held_by}
use Rattle.launch_safety.proofs.SettledLemmas.{settled_sound}
use Rattle.launch_safety.proofs.Whole.{held_backed, whole}
use Rattle.launch_safety.proofs.WholeReadings.{adoption_asked}
use Rattle.script_semantics.specs.Script.{Obeys}
use Rattle.script_semantics.specs.Settling.{Walks, coordinator}
use Rattle.settling.specs.Quiet.{EndsQuietly}
use Rattle.settling.specs.Rounds.{IsWithinBounds}
use Rattle.settling.proofs.QuietEndLemmas.{quiet_calls, quiet_starts, quiet_tables}
use Rattle.run_outcome.specs.Continues.{ContinuesBy}
use Rattle.run_outcome.specs.Readings.{script_end, script_turns}
use Rattle.run_outcome.proofs.FrontLemmas.{held_on, log_on, short_at, table_at}
use Rattle.run_outcome.proofs.Minutes.{Place, earlier, later, place}
use Rattle.run_outcome.proofs.PartLemmas.{walks_come}
use Rattle.run_outcome.proofs.ScriptLemmas.{latest_since, walk_ends, walks_behind, walks_span}
use Rattle.run_outcome.proofs.SpanLemmas.{Spans, came, front_of}
use Rattle.run_outcome.proofs.StopLemmas.{IsTurnAfter, Stops, walk_stops}
use Rattle.run_outcome.proofs.WalkWhole.{latest_least}

-- ---- the versions that a longer log adopts

-- the instants at which entries in two parts adopt versions
record SplitsAt (table : Table) (rows : List JobRow) (front back : List Entry) (adoptions : List ℤ) : Type 0 where
  middle : List JobRow
  one : List ℤ
  two : List ℤ
  is : adoptions ≡ one ++ two
  first : AdoptionsFrom table rows front one
  second : AdoptionsFrom table middle back two

-- those of all the entries are those of the one part, and then those of the other
adoptions_split : (table : Table) (rows : List JobRow) (front back : List Entry) (adoptions : List ℤ) → AdoptionsFrom table rows (front ++ back) adoptions
    → SplitsAt table rows front back adoptions
adoptions_split table rows [] back adoptions adopted = record { middle = rows; one = []; two = adoptions; is = refl; first = refl; second = adopted }
adoptions_split table rows (entry ∷ front) back adoptions (middle, behind, step, adds, rest) =
    let tail = adoptions_split table middle front back behind rest in
    elim adds [
      | inl (now, adopts, e) ↦ record {
        middle = tail.middle;
        one = now ∷ tail.one;
        two = tail.two;
        is = e ∙ ap (λ instants. now ∷ instants) tail.is;
        first = (middle, tail.one, step, inl (now, adopts, refl), tail.first);
        second = tail.second;
      }
      | inr (none, e) ↦ record {
        middle = tail.middle;
        one = tail.one;
        two = tail.two;
        is = e ∙ tail.is;
        first = (middle, tail.one, step, inr (none, refl), tail.first);
        second = tail.second;
      }
    ]

-- an entry among others that adopts a version at the instant
record IsAdoptedIn (entries : List Entry) (now : ℤ) : Type 0 where
  before : List Entry
  after : List Entry
  version : ℕ
  parts : entries ≡ before ++ TableEntry version now ∷ after

-- also where one more stands before them
adopted_behind : (entry : Entry) (entries : List Entry) (now : ℤ) → IsAdoptedIn entries now → IsAdoptedIn (entry ∷ entries) now
adopted_behind entry entries now found = record {
  before = entry ∷ found.before;
  after = found.after;
  version = found.version;
  parts = ap (λ rest. entry ∷ rest) found.parts;
}

-- each instant of an adoption has its entry
adopted_there : (table : Table) (rows : List JobRow) (entries : List Entry) (adoptions : List ℤ) (now : ℤ) → AdoptionsFrom table rows entries adoptions
    → Contains adoptions now → IsAdoptedIn entries now
adopted_there table rows [] adoptions now none has = absurd (Contains-none now (subst (λ instants. Contains instants now) none has))
adopted_there table rows (entry ∷ entries) adoptions now (middle, instants, step, inl (first, adopts, e), rest) has =
    elim (Contains-cases first instants now (subst (λ some. Contains some now) e has)) [
      | inl same ↦ record {
        before = [];
        after = entries;
        version = adopts.version;
        parts = ap (λ some. some ∷ entries) (adopts.is ∙ ap (λ instant. TableEntry adopts.version instant) same);
      }
      | inr behind ↦ adopted_behind entry entries now (adopted_there table middle entries instants now rest behind)
    ]
adopted_there table rows (entry ∷ entries) adoptions now (middle, instants, step, inr (none, e), rest) has =
    adopted_behind entry entries now (adopted_there table middle entries instants now rest (subst (λ some. Contains some now) e has))

-- later adoptions leave the version at an instant that none of them is before
same_version : (one two : List ℤ) (at : ℤ) → ((now : ℤ) → Contains two now → at ≤ℤ now) → version_at (one ++ two) at ≡ version_at one at
same_version one two at late = omega (arith, sum_by-append (λ now. cond (int_lt now at) 1 0) one two, none_before two at late)

-- what comes no later than an instant comes no later than a later one
by_later : (now at : ℤ) (instant : Option ℤ) → now ≤ℤ at → IsBy now instant → IsBy at instant
by_later now at None low by = tt
by_later now at (Some instant) low by = omega (arith, ints, low, by)

-- a version that would be adopted would be at a later instant too, if no start takes effect then
takes_later : (table : Table) (rows : List JobRow) (version : ℕ) (now at : ℤ) → now ≤ℤ at → NoStart table rows at → TakesTable table rows version now
    → TakesTable table rows version at
takes_later table rows version now at low none takes =
    let come = takes.come in
    record {
      own = takes.own;
      next = takes.next;
      known = takes.known;
      come = omega (arith, ints, come, low);
      since = by_later now at _ low takes.since;
      ended = λ job row is. record {
        closed = (takes.ended job row is).closed;
        passed = λ known plain. by_later now at row.cursor low ((takes.ended job row is).passed known plain);
      };
      no_start = none;
    }

-- an adoption of the log was asked for at its place
adoption_logged : (n : ℕ) (table : Table) (book : List Row) (log before after : List Entry) (version : ℕ) (now : ℤ) → n ≤ 7 → IsLegal n table book
    → IsLog n (votes_in book) log → log ≡ before ++ TableEntry version now ∷ after → IsAskedAt n table book (length before) now (intent.Adopt version)
adoption_logged n table book log before after version now few legal is_log parts =
    let entry = TableEntry version now in
    let chosen = chosen_there n (votes_in book) 0 before after entry (subst (λ some. AreChosen n (votes_in book) 0 some) parts is_log.chosen) in
    let voter = voter_of n (votes_in book) (0 + length before) entry chosen in
    let slot : 0 + length before ≡ length before = omega arith in
    subst (λ at_slot. IsAskedAt n table book at_slot now (intent.Adopt version)) slot
    (adoption_asked n table book (record { by = voter.0; vote = vote_for (0 + length before) chosen.ballot entry }) version now few legal voter.1 refl)

-- where there are none, the list is empty
empty : (entries : List Entry) → length entries ≡ 0 → entries ≡ []
empty [] none = refl
empty (entry ∷ entries) none = absurd (omega (arith, none))

-- within grace a launch of an instant is on time at it
on_time : (kind : JobKind) (zone : TimeZone) (grace : ℕ) (at now : ℤ) → (IsAnacron kind → ⊥) → now ≤ℤ (at +ℤ pos grace) → IsOnTime kind zone grace at now
on_time (Anacron period first last) zone grace at now plain within = absurd (plain tt)
on_time (Crontab fields) zone grace at now plain within = within
on_time Never zone grace at now plain within = within

-- ---- a book that obeys a script

module _ (n : ℕ) (table : Table) (script : List Command) (rows : List Row) (obeyed : Obeys n table script rows) (some : 1 ≤ n) (few : n ≤ 7)
    (sound : IsSound table) (legal : IsLegal n table rows) (limits : IsWithinBounds rows obeyed.after.standing.posted) (at : ℤ)
    (inside : IsInWindow table.window at) (by : AreTurnsBy at (script_turns obeyed)) where
  -- its walk is to the window's last minute
  abbrev last : ℤ
  last = table.window.until.0 -ℤ pos 1

  -- its walk comes to the instant, and goes on
  stops : Stops (Walks n table at (script_end obeyed)) at obeyed.obeys.back
  stops =
      let before = inside.before in
      walk_stops n table last at (script_end obeyed) obeyed.obeys.back obeyed.after inside.since (latest_least n table script rows obeyed at inside.since by)
      (omega (arith, ints, before)) (omega (arith, ints)) obeyed.obeys.two

  -- the front of the book up to there
  abbrev upto : List Row
  upto = script_turns obeyed ++ stops.front

  -- the book goes on with the rest of the walk
  upto_parts : rows ≡ upto ++ stops.back
  upto_parts = obeyed.obeys.parts ∙ ap (λ rest. script_turns obeyed ++ rest) stops.parts ∙ sym (append_assoc (script_turns obeyed) stops.front stops.back)

  -- no clock of the front has passed the instant
  upto_by : AreTurnsBy at upto
  upto_by = All-append (λ (r : Row). IsTurnBy at r.turn) (script_turns obeyed) stops.front by stops.by

  -- the whole walk goes on from the script, within the limits
  whole_goes : ContinuesBy (Walks n table last) n table (script_turns obeyed) obeyed.obeys.back (script_end obeyed) obeyed.after
  whole_goes = walks_behind n table script rows obeyed some few sound legal limits

  -- so does its front
  spans : Spans n table (script_turns obeyed) stops.front (script_end obeyed) stops.middle
  spans =
      front_of n table (script_turns obeyed) stops.front stops.back obeyed.obeys.back (script_end obeyed) stops.middle obeyed.after stops.parts
      (came n table (script_turns obeyed) stops.front (script_end obeyed) stops.middle whole_goes.standing
      (walks_come n table at (script_end obeyed) stops.front stops.middle stops.goes))
      (walks_span n table last (script_turns obeyed) obeyed.obeys.back (script_end obeyed) obeyed.after whole_goes)

  -- which is a walk to the instant
  goes : ContinuesBy (Walks n table at) n table (script_turns obeyed) stops.front (script_end obeyed) stops.middle
  goes = record {
    some = some;
    few = few;
    sound = sound;
    legal = spans.legal;
    standing = spans.begins;
    goes = stops.goes;
    limits = spans.limits;
  }

  -- so it ends quietly there, with the log of the front
  module _ (log : List Entry) (is_log : IsLog n (votes_in upto) log) where
    quiet : EndsQuietly n table upto (coordinator n (script_end obeyed)) at stops.middle log
    quiet =
        walk_ends n table at (script_turns obeyed) stops.front (script_end obeyed) stops.middle log inside
        (latest_since n table script rows obeyed) goes is_log

    -- by which nothing is asked for
    rests : (launch : List JobRow) → IsClerkOf table log launch → IsIntent table launch at Rest
    rests launch clerk =
        let who = coordinator n (script_end obeyed) in (
          quiet_calls n table upto who at stops.middle log launch quiet clerk,
          quiet_starts n table upto who at stops.middle log launch quiet clerk,
          quiet_tables n table upto who at stops.middle log launch quiet clerk,
        )

    -- it is settled at the instant
    settled : IsSettled table log at
    settled =
        let left = clerk_exists table sound log in
        record {
          rows = left.0;
          clerk = left.1;
          no_call = (rests left.0 left.1).0;
          no_start = (rests left.0 left.1).1;
          no_table = (rests left.0 left.1).2;
        }

    -- no version is to be adopted behind it at the instant or before
    none_sooner : (launch : List JobRow) (version : ℕ) (now : ℤ) → IsClerkOf table log launch → TakesTable table launch version now → now ≤ℤ at → ⊥
    none_sooner launch version now clerk takes low =
        (rests launch clerk).2 version (takes_later table launch version now at low (rests launch clerk).1 takes)

    -- a replica that had learned as much by a turn of the front had the launch table of the whole of it
    front_clerk : (front back : List Row) (row : Row) (who : ℕ) (launch : List JobRow) → upto ≡ front ++ row ∷ back
        → length log ≤ prefix_of (state_before n table front who) → IsLaunchTable table (state_before n table front who) launch → IsClerkOf table log launch
    front_clerk front back row who launch parts far is_table =
        let front_is : IsLegal n table front = front_legal n table front (row ∷ back) (subst (λ book. IsLegal n table book) parts spans.legal) in
        let (known, is_known) = book_log n table front few front_is in
        let (rest, on) = log_on n table upto few spans.legal front (row ∷ back) known log parts is_known is_log in
        let short = short_at n table front known who few front_is is_known in
        let long : length log ≡ length known + length rest = ap length on ∙ length-append known rest in
        let none : rest ≡ [] = empty rest (omega (arith, short, long, far)) in
        let all = take_all (prefix_of (state_before n table front who)) known (omega (arith, short, long, far)) in
        let same = all ∙ sym (on ∙ ap (λ more. known ++ more) none ∙ append-nil known) in
        subst (λ entries. IsClerkOf table entries launch) same (table_at n table front known who launch few front_is is_known is_table)

    -- ---- what the log of the whole book adopts behind it

    module _ (whole_log : List Entry) (is_whole : IsLog n (votes_in rows) whole_log) (more : List Entry) (on : whole_log ≡ log ++ more) (now : ℤ)
        (adopted : IsAdoptedIn more now) where
      -- it was asked for in a turn of the book
      asked : IsAskedAt n table rows (length (log ++ adopted.before)) now (intent.Adopt adopted.version)
      asked =
          adoption_logged n table rows whole_log (log ++ adopted.before) adopted.after adopted.version now few legal is_whole
          (on ∙ ap (λ rest. log ++ rest) adopted.parts ∙ sym (append_assoc log adopted.before (TableEntry adopted.version now ∷ adopted.after)))

      -- that isn't of the front, unless it reads a later instant
      front_late : (rest : List Row) → upto ≡ asked.front ++ asked.row ∷ rest → now ≤ℤ at → ⊥
      front_late rest parts low =
          let learned = asked.learned in
          let far : length log ≤ prefix_of (state_before n table asked.front asked.who) = omega (arith, learned, length-append log adopted.before) in
          none_sooner asked.launch adopted.version now (front_clerk asked.front rest asked.row asked.who asked.launch parts far asked.launch_is) asked.asks.1 low

      -- and each turn behind the front does
      back_late : (less : List Row) → stops.back ≡ less ++ asked.row ∷ asked.back → at <ℤ now
      back_late less parts =
          All-contains (λ (r : Row). IsTurnAfter at r.turn) stops.back asked.row stops.behind
          (subst (λ list. Contains list asked.row) (sym parts) (Contains-append_right less (asked.row ∷ asked.back) asked.row (Contains-head asked.row asked.back)))
          now asked.reads

      -- so it is no sooner, wherever the turn stands
      by_place : Place upto stops.back asked.front asked.row asked.back → at ≤ℤ now
      by_place (earlier rest parts same) = by_lt_z now at (λ sooner. absurd (front_late rest parts (omega (arith, ints, sooner)))) (λ low. low)
      by_place (later less same parts) = (let behind = back_late less parts in omega (arith, ints, behind))

      adopted_late : at ≤ℤ now
      adopted_late = by_place (place upto stops.back asked.front asked.row asked.back (sym upto_parts ∙ asked.parts))

    -- ---- what is held at the end of the front

    -- a row of the instant is a launch that was called then
    called_then : (job : ℕ) (held : SchedRow) → is_by_period table job ≡ false → Contains (held_in n table upto) held → held.name.job ≡ job
        → held.name.at ≡ at → (held.kind ≡ Launch) × (held.now.0 ≡ at)
    called_then job held plain among of_job due_at =
        let backed : IsBacked table log held = held_backed n table upto log held few spans.legal is_log among in
        let named : is_by_period table held.name.job ≡ false = subst (λ number. is_by_period table number ≡ false) (sym of_job) plain in
        let come = come_by_instant table backed.version held.name.job backed.spec backed.zone held.name.at held.now.0 sound named backed.is_in backed.come in
        let low = held_by n table at upto held spans.legal upto_by among in
        let timely = on_time backed.spec.kind backed.zone table.grace held.name.at held.now.0
        (not_anacron table backed.version held.name.job backed.spec sound named backed.is_in.is_job) (omega (arith, ints, low, due_at)) in
        ((backed.kind backed.spec backed.zone backed.is_in).1 timely, omega (arith, ints, low, come, due_at))

    -- so a due instant, by the versions that the front's log adopts, was called then
    called_upto : (adoptions : List ℤ) (job : ℕ) → AdoptionsOf table log adoptions → IsDueUnder table adoptions job at
        → IsCalledAt (held_in n table upto) job at Launch at
    called_upto adoptions job adopted due =
        let (start, kind, ended) = settled_sound table log adoptions at job at sound adopted settled due (omega (arith, ints)) in
        let fits : Fits table log (held_in n table upto) = whole n table upto few spans.legal log is_log in
        let found : IsHeld (held_in n table upto) job at kind = fits.ended job at kind ended in
        let called = called_then job found.row (due_says table (version_at adoptions at) job at sound due) found.among found.of_job found.due_at in
        record { row = found.row; among = found.among; of_job = found.of_job; due_at = found.due_at; of_kind = called.0; called = called.1 }

    -- and so was one by the versions that a longer log adopts, which are as many before the instant
    called_on : (whole_log more : List Entry) (adoptions : List ℤ) (job : ℕ) → IsLog n (votes_in rows) whole_log → whole_log ≡ log ++ more
        → SplitsAt table (first_rows table) log more adoptions → IsDueUnder table adoptions job at → IsCalledAt (held_in n table upto) job at Launch at
    called_on whole_log more adoptions job is_whole on split due =
        let due_split : IsDueUnder table (split.one ++ split.two) job at = subst (λ instants. IsDueUnder table instants job at) split.is due in
        let late = λ (now : ℤ) (has : Contains split.two now). adopted_late whole_log is_whole more on now
        (adopted_there table split.middle more split.two now split.second has) in
        called_upto split.one job split.first (subst (λ version. IsJobDue table version job at) (same_version split.one split.two at late) due_split)

  -- what is held after the front is held after the book
  called_at : (whole_log : List Entry) (adoptions : List ℤ) (job : ℕ) → IsLog n (votes_in rows) whole_log → AdoptionsOf table whole_log adoptions
      → IsDueUnder table adoptions job at → IsCalledAt (held_in n table rows) job at Launch at
  called_at whole_log adoptions job is_whole adopted due =
      let (log, is_log) = book_log n table upto few spans.legal in
      let (more, on) = log_on n table rows few legal upto stops.back log whole_log upto_parts is_log is_whole in
      let split = adoptions_split table (first_rows table) log more adoptions (subst (λ entries. AdoptionsOf table entries adoptions) on adopted) in
      let called = called_on log is_log whole_log more adoptions job is_whole on split due in
      record {
        row = called.row;
        among = held_on n table rows upto stops.back called.row upto_parts called.among;
        of_job = called.of_job;
        due_at = called.due_at;
        of_kind = called.of_kind;
        called = called.called;
      }

-- Each due instant, by the versions in force then, that no clock of the script's turns has passed was called at that instant, and launched.
pub called_under : (n : ℕ) (table : Table) (script : List Command) (rows : List Row) (obeyed : Obeys n table script rows) (log : List Entry)
    (adoptions : List ℤ) (job : ℕ) (at : ℤ)
    → 1 ≤ n → n ≤ 7 → IsSound table → IsLegal n table rows → IsWithinBounds rows obeyed.after.standing.posted → IsLog n (votes_in rows) log
    → AdoptionsOf table log adoptions → IsDueUnder table adoptions job at → AreTurnsBy at (script_turns obeyed)
    → IsCalledAt (held_in n table rows) job at Launch at
called_under n table script rows obeyed log adoptions job at some few sound legal limits is_log adopted due by =
    called_at n table script rows obeyed some few sound legal limits at due.inside by log adoptions job is_log adopted due
