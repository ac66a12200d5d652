-- A book of one replica that obeys a script without commands: it settles at the window's one minute, and launches the job of that day.
use Rattle.std.proofs.Common.{◌≡◌, ℕ, suc, ℤ, pos, ◌-ℤ◌, Option, Some, None, List, [], ◌∷◌, ◌++◌, length, refl, sym, ap, ◌∙◌, inl, inr, arith, subst, append-nil, append_assoc}
use Rattle.std.specs.List.{Contains}
use Rattle.std.specs.Int.{int_min}
use Rattle.std.proofs.lemmas.Int.{ints, clamps}
use Rattle.zone_minutes.specs.declared.minute.Minute.{Minute}
use Rattle.paxos_base.specs.Vote.{votes_from}
use Rattle.paxos_base.specs.declared.entry.Entry.{Entry}
use Rattle.paxos_base.specs.declared.entry.Vote.{Vote}
use Rattle.paxos_base.specs.declared.rows.JobRow.{JobRow}
use Rattle.due_set.specs.Table.{IsSound, Table}
use Rattle.cluster_sched.specs.declared.row.SchedRow.{SchedRow}
use Rattle.launch_machine.specs.Answers.{IsIntent}
use Rattle.launch_machine.specs.Clerk.{AppliesAll, first_rows}
use Rattle.launch_machine.specs.declared.machine.Intent.TheVariants as intent
use Rattle.launch_machine.proofs.ClerkLemmas.{AppliesAll-same}
use Rattle.launch_safety.specs.Launched.{IsLatest, OpensBy}
use Rattle.step_spec.specs.State.{State, prefix_of}
use Rattle.step_spec.proofs.Lists.{nothing_in}
use Rattle.history.specs.Book.{Row, Standing}
use Rattle.history.specs.Legal.{IsLegal}
use Rattle.history.specs.declared.turn.Cause.{Cause}
use Rattle.history.specs.declared.turn.Cause.TheVariants.{Answer, Campaign}
use Rattle.launch_safety.proofs.Alone.{leading}
use Rattle.launch_safety.specs.Fitting.{held_in}
use Rattle.script_semantics.specs.Round.{clock_reading, round_tasks}
use Rattle.script_semantics.specs.Script.{Obeys}
use Rattle.script_semantics.specs.Settling.{AsksNothing, DrainsIn, IsFreeTerm, IsQuiet, Settles, Walks, WalksOn, cleared, campaign_tasks, restart_tasks}
use Rattle.script_semantics.specs.Parts.{Then}
use Rattle.script_semantics.specs.Situation.{Performs, Situation, Task, Do, after_turn, delivered, first_situation}
use Rattle.history.proofs.Asks.{with_table}
use Rattle.run_outcome.proofs.SomeDaily.{applied_end, applied_none, applied_start, call_asked, call_row, daily, idle, now, opened, opens, over, rest_asked, sound, start_asked, today}
use Rattle.launch_safety.proofs.Whole.{no_adoptions}
use Rattle.run_outcome.specs.Whole.{AdoptsNone}
use Rattle.run_outcome.proofs.SomeTurns.{Has, Move, calls, delivers, ended_state, ends, leads, new, rests, started_state, starts, tick_now}
use Rattle.due_set.proofs.Rising.{Contains-cases as cons_cases}

-- ---- turns of tasks

-- turns of some tasks, with what they leave
record Performed (book : List Row) (situation : Situation) (tasks : List Task) (state : State) (held : List SchedRow) (waits : Option SchedRow) : Type 0 where
  rows : List Row
  after : Situation
  performs : Performs 1 tasks situation rows after
  has : Has (book ++ rows) after state held waits

performs_none : (book : List Row) (situation : Situation) (state : State) (held : List SchedRow) (waits : Option SchedRow) → Has book situation state held waits → Performed book situation [] state held waits
performs_none book situation state held waits has = record {
  rows = [];
  after = delivered (length situation.standing.posted) situation;
  performs = record { turns = refl; is = refl };
  has = subst (λ some. Has some (delivered (length situation.standing.posted) situation) state held waits) (sym (append-nil book))
      (delivers book situation state held waits (length situation.standing.posted) has);
}

performs_one : (book : List Row) (situation : Situation) (cause : Cause) (one other : State) (held held_then : List SchedRow) (waits waits_then : Option SchedRow) → Move one held waits cause other held_then waits_then
    → Has book situation one held waits → Performed book situation (Do 0 cause ∷ []) other held_then waits_then
performs_one book situation cause one other held held_then waits waits_then move has =
    let goes = move book situation has in
    record {
      rows = goes.row ∷ [];
      after = delivered (length situation.standing.posted) (after_turn 1 situation goes.row);
      performs = record { turns = (goes.does, refl); is = refl };
      has = delivers (book ++ goes.row ∷ []) (after_turn 1 situation goes.row) other held_then waits_then (length situation.standing.posted) goes.has;
    }

performs_two : (book : List Row) (situation : Situation) (cause second : Cause) (one other last : State) (held held_then held_last : List SchedRow) (waits waits_then waits_last : Option SchedRow)
    → Move one held waits cause other held_then waits_then → Move other held_then waits_then second last held_last waits_last
    → Has book situation one held waits → Performed book situation (Do 0 cause ∷ Do 0 second ∷ []) last held_last waits_last
performs_two book situation cause second one other last held held_then held_last waits waits_then waits_last move next has =
    let goes = move book situation has in
    let there = after_turn 1 situation goes.row in
    let more = next (book ++ goes.row ∷ []) there goes.has in
    record {
      rows = goes.row ∷ more.row ∷ [];
      after = delivered (length situation.standing.posted) (after_turn 1 there more.row);
      performs = record { turns = (goes.does, (more.does, refl)); is = refl };
      has = delivers (book ++ goes.row ∷ more.row ∷ []) (after_turn 1 there more.row) last held_last waits_last (length situation.standing.posted)
          (subst (λ some. Has some (after_turn 1 there more.row) last held_last waits_last) (append_assoc book (goes.row ∷ []) (more.row ∷ [])) more.has);
    }

-- ---- rounds

-- a clock that is right reads the minute
reads : clock_reading daily.window now (pos 0) ≡ record { 0 = now }
reads = (let make : ℤ → Minute = λ at. record { 0 = at } in let same : (clock_reading daily.window now (pos 0)).0 ≡ now = omega (arith, ints, clamps) in ap make same)

tick_tasks : (book : List Row) (situation : Situation) (state : State) (held : List SchedRow) → Has book situation state held None → round_tasks 1 daily.window now situation ≡ Do 0 tick_now ∷ []
tick_tasks book situation state held has = rw (has.runs, has.waits_is, has.mails_are 0, has.right 0, reads) refl

answer_tasks : (book : List Row) (situation : Situation) (state : State) (held : List SchedRow) (row : SchedRow) → Has book situation state held (Some row)
    → round_tasks 1 daily.window now situation ≡ Do 0 Answer ∷ Do 0 tick_now ∷ []
answer_tasks book situation state held row has = rw (has.runs, has.waits_is, has.mails_are 0, has.right 0, reads) refl

abbrev Rounded : (book : List Row) (situation : Situation) (state : State) (held : List SchedRow) (waits : Option SchedRow) → Type 0
Rounded book situation state held waits = Performed book situation (round_tasks 1 daily.window now situation) state held waits

ticks : (book : List Row) (situation : Situation) (one other : State) (held held_then : List SchedRow) (waits_then : Option SchedRow) → Move one held None tick_now other held_then waits_then
    → Has book situation one held None → Rounded book situation other held_then waits_then
ticks book situation one other held held_then waits_then move has =
    subst (λ tasks. Performed book situation tasks other held_then waits_then) (sym (tick_tasks book situation one held has)) (performs_one book situation tick_now one other held held_then None waits_then move has)

answers : (book : List Row) (situation : Situation) → Has book situation started_state (call_row ∷ []) (Some call_row) → Rounded book situation ended_state (call_row ∷ []) None
answers book situation has =
    subst (λ tasks. Performed book situation tasks ended_state (call_row ∷ []) None) (sym (answer_tasks book situation started_state (call_row ∷ []) call_row has))
    (performs_two book situation Answer tick_now started_state ended_state ended_state (call_row ∷ []) (call_row ∷ []) (call_row ∷ []) (Some call_row) None None ends rests has)

-- ---- draining

-- rounds until it is quiet, with what they leave
record Drained (rounds : ℕ) (book : List Row) (situation : Situation) : Type 0 where
  rows : List Row
  after : Situation
  drains : DrainsIn rounds 1 daily 0 now situation rows after
  has : Has (book ++ rows) after ended_state (call_row ∷ []) None

-- a leader doesn't stand for leader
leader_still : (votes : List Vote) (entries : List Entry) (state : State) → state ≡ leading daily votes entries → campaign_tasks 0 state.term ≡ []
leader_still votes entries state is = rw is refl

-- a round that comes before the others
drains_more : (rounds : ℕ) (situation stood went after : Situation) (campaign turns others : List Row) → (IsQuiet 1 daily 0 now situation → ⊥)
    → Performs 1 (campaign_tasks 0 (situation.standing.replicas 0).term) situation campaign stood → Performs 1 (round_tasks 1 daily.window now stood) stood turns went
    → DrainsIn rounds 1 daily 0 now went others after → DrainsIn (suc rounds) 1 daily 0 now situation ((campaign ++ turns) ++ others) after
drains_more rounds situation stood went after campaign turns others busy first round rest = record {
  not_yet = busy;
  goes_on = record {
    front = campaign ++ turns;
    middle = went;
    back = others;
    parts = refl;
    one = record { front = campaign; middle = stood; back = turns; parts = refl; one = first; two = round };
    two = rest;
  };
}

-- the rows of three parts, behind those of a book
regrouped : (book one two three : List Row) (after : Situation) → Has (((book ++ one) ++ two) ++ three) after ended_state (call_row ∷ []) None → Has (book ++ ((one ++ two) ++ three)) after ended_state (call_row ∷ []) None
regrouped book one two three after has =
    let parts : ((book ++ one) ++ two) ++ three ≡ book ++ ((one ++ two) ++ three) = ap (λ some. some ++ three) (append_assoc book one two) ∙ append_assoc book (one ++ two) three in
    subst (λ some. Has some after ended_state (call_row ∷ []) None) parts has

-- one more round before them
more : (rounds : ℕ) (book : List Row) (situation : Situation) (votes : List Vote) (entries : List Entry) (held : List SchedRow) (waits : Option SchedRow) (other : State) (held_then : List SchedRow) (waits_then : Option SchedRow)
    → (IsQuiet 1 daily 0 now situation → ⊥) → Has book situation (leading daily votes entries) held waits
    → ((longer : List Row) (there : Situation) → Has longer there (leading daily votes entries) held waits → Rounded longer there other held_then waits_then)
    → ((longer : List Row) (there : Situation) → Has longer there other held_then waits_then → Drained rounds longer there)
    → Drained (suc rounds) book situation
more rounds book situation votes entries held waits other held_then waits_then busy has round rest =
    let stood : Performed book situation (campaign_tasks 0 (situation.standing.replicas 0).term) (leading daily votes entries) held waits =
    subst (λ tasks. Performed book situation tasks (leading daily votes entries) held waits) (sym (leader_still votes entries (situation.standing.replicas 0) has.state_is))
    (performs_none book situation (leading daily votes entries) held waits has) in
    let went = round (book ++ stood.rows) stood.after stood.has in
    let rested = rest ((book ++ stood.rows) ++ went.rows) went.after went.has in
    record {
      rows = (stood.rows ++ went.rows) ++ rested.rows;
      after = rested.after;
      drains = drains_more rounds situation stood.after went.after rested.after stood.rows went.rows rested.rows busy stood.performs went.performs rested.drains;
      has = regrouped book stood.rows went.rows rested.rows rested.after rested.has;
    }

-- ---- the launch

-- what the launch table asks for, where it isn't nothing
busy_by : (book : List Row) (situation : Situation) (votes : List Vote) (entries : List Entry) (held : List SchedRow) (waits : Option SchedRow) (rows : List JobRow)
    → Has book situation (leading daily votes entries) held waits → AppliesAll daily (first_rows daily) entries rows → (IsIntent daily rows now intent.Rest → ⊥)
    → AsksNothing daily now (situation.standing.replicas 0) → ⊥
busy_by book situation votes entries held waits rows has applied wants asks =
    let mine : AppliesAll daily (first_rows daily) entries asks.rows = subst (λ (s : State). AppliesAll daily s.kept.rows s.learned asks.rows) has.state_is asks.rows_are in
    wants (subst (λ some. IsIntent daily some now intent.Rest) (AppliesAll-same daily (first_rows daily) entries asks.rows rows mine applied) asks.rests)

abbrev votes_then : List Vote
votes_then = started_state.kept.votes

drained : (book : List Row) (situation : Situation) → Has book situation ended_state (call_row ∷ []) None → Drained 0 book situation
unfolding votes_from
drained book situation has = record {
  rows = [];
  after = situation;
  drains = record {
    is_quiet = record {
      free = subst (λ (s : State). IsFreeTerm (prefix_of s) s.term) (sym has.state_is) refl;
      answered = has.waits_is;
      rests = record {
        rows = with_table over;
        rows_are = subst (λ (s : State). AppliesAll daily s.kept.rows s.learned (with_table over)) (sym has.state_is) applied_end;
        rests = rest_asked;
      };
      caught_up = λ other member. let first : other ≡ 0 = omega (arith, member) in rw first refl;
    };
    stays = record { none = refl; is = refl };
  };
  has = subst (λ some. Has some situation ended_state (call_row ∷ []) None) (sym (append-nil book)) has;
}

called : (book : List Row) (situation : Situation) → Has book situation started_state (call_row ∷ []) (Some call_row) → Drained 1 book situation
called book situation has =
    more 0 book situation votes_then started_state.learned (call_row ∷ []) (Some call_row) ended_state (call_row ∷ []) None
    (λ is. let wrong : Some call_row ≡ None = sym has.waits_is ∙ is.answered in cc) has answers drained

begun : (book : List Row) (situation : Situation) → Has book situation started_state [] None → Drained 2 book situation
begun book situation has =
    more 1 book situation votes_then started_state.learned [] None started_state (call_row ∷ []) (Some call_row)
    (λ is. busy_by book situation votes_then started_state.learned [] None (with_table opened) has applied_start (λ rest. rest.0 0 today call_asked.0.may) is.rests) has
    (λ longer there here. ticks longer there started_state started_state [] (call_row ∷ []) (Some call_row) calls here) called

launches : (book : List Row) (situation : Situation) → Has book situation (leading daily [] []) [] None → Drained 3 book situation
launches book situation has =
    more 2 book situation [] [] [] None started_state [] None
    (λ is. busy_by book situation [] [] [] None (with_table idle) has applied_none (λ rest. rest.1 0 today start_asked.1.takes) is.rests) has
    (λ longer there here. ticks longer there (leading daily [] []) started_state [] [] None starts here) begun

-- ---- the walk

abbrev first : Situation
first = first_situation 1 daily

first_has : Has [] first new [] None
first_has = record {
  legal = λ number row is. absurd cc;
  of_book = refl;
  state_is = refl;
  runs = refl;
  held_are = refl;
  waits_is = refl;
  posted_are = refl;
  mails_are = λ who. refl;
  right = λ who. refl;
  done = λ who. refl;
}

restarted : Performed [] first (restart_tasks 1 first) new [] None
restarted = performs_none [] first new [] None first_has

cleared_has : Has restarted.rows (cleared restarted.after) new [] None
cleared_has = record {
  legal = restarted.has.legal;
  of_book = restarted.has.of_book;
  state_is = restarted.has.state_is;
  runs = restarted.has.runs;
  held_are = restarted.has.held_are;
  waits_is = restarted.has.waits_is;
  posted_are = restarted.has.posted_are;
  mails_are = λ who. refl;
  right = λ who. refl;
  done = λ who. refl;
}

led : Performed restarted.rows (cleared restarted.after) (Do 0 Campaign ∷ []) (leading daily [] []) [] None
led = performs_one restarted.rows (cleared restarted.after) Campaign new (leading daily [] []) [] [] None None leads cleared_has

launched : Drained 3 (restarted.rows ++ led.rows) led.after
launched = launches (restarted.rows ++ led.rows) led.after led.has

abbrev some_rows : List Row
some_rows = restarted.rows ++ (led.rows ++ launched.rows)

settles : Settles 1 daily now first some_rows launched.after
settles = record {
  front = restarted.rows;
  middle = cleared restarted.after;
  back = led.rows ++ launched.rows;
  parts = refl;
  one = record {
    front = restarted.rows;
    middle = restarted.after;
    back = [];
    parts = sym (append-nil restarted.rows);
    one = restarted.performs;
    two = record { none = refl; is = refl };
  };
  two = record { front = led.rows; middle = led.after; back = launched.rows; parts = refl; one = led.performs; two = (3, launched.drains) };
}

abbrev last : ℤ
last = daily.window.until.0 -ℤ pos 1

walks_from : Then (Settles 1 daily now) (WalksOn 1 daily 0 now last) first some_rows launched.after
walks_from = record {
  front = some_rows;
  middle = launched.after;
  back = [];
  parts = sym (append-nil some_rows);
  one = settles;
  two = (0, record { is_quiet = λ other later within. absurd (omega (arith, ints, later, within)); stays = record { none = refl; is = refl } });
}

walks : Walks 1 daily last first some_rows launched.after
walks =
    let at : int_min first.latest last ≡ now = omega (arith, ints, clamps) in
    subst (λ some. Then (Settles 1 daily some) (WalksOn 1 daily 0 some last) first some_rows launched.after) (sym at) walks_from

obeyed : Obeys 1 daily [] some_rows
obeyed = record {
  after = launched.after;
  obeys = record { front = []; middle = first; back = some_rows; parts = refl; one = record { none = refl; is = refl }; two = walks };
}

one_book : (restarted.rows ++ led.rows) ++ launched.rows ≡ some_rows
one_book = append_assoc restarted.rows led.rows launched.rows

is_legal : IsLegal 1 daily some_rows
is_legal = subst (λ rows. IsLegal 1 daily rows) one_book launched.has.legal

-- the table has one version
adopts_none : AdoptsNone 1 daily some_rows
adopts_none log is_log = no_adoptions 1 daily some_rows log (omega arith) is_legal is_log refl

held_is : held_in 1 daily some_rows ≡ call_row ∷ []
held_is =
    sym (ap (λ rows. held_in 1 daily rows) one_book) ∙ sym (ap (λ (st : Standing). st.held) launched.has.of_book) ∙ launched.has.held_are

-- nothing was called before
none_sooner : IsLatest (held_in 1 daily some_rows) 0 now None
none_sooner date then call sooner = elim (cons_cases call_row [] call.row (subst (λ held. Contains held call.row) held_is call.among)) [
  | inl same ↦
      let read : now ≡ call.row.now.0 = ap (λ (r : SchedRow). r.now.0) same in
      let is = call.called in
      omega (arith, ints, read, is, sooner)
  | inr none ↦ nothing_in none
]

pub some_date : (table : Table) × (rows : List Row) × (job : ℕ) × (now : ℤ) × (date : ℤ)
    × IsSound table × IsLegal 1 table rows × Obeys 1 table [] rows × AdoptsNone 1 table rows × OpensBy table (held_in 1 table rows) job now date
some_date = (daily, some_rows, 0, now, today, sound, is_legal, obeyed, adopts_none, record { last = None; latest = none_sooner; opens = opens })
