-- Rounds of one replica, by its turns, and rounds until it is quiet.
use Rattle.std.proofs.Common.{◌≡◌, ℕ, zero, suc, ◌+◌, ◌*◌, ◌<◌, ◌≤◌, ℤ, pos, Option, Some, None, List, [], ◌∷◌, ◌++◌, length, refl, sym, ap, ◌∙◌, arith, subst, append-nil, append_assoc}
use Rattle.std.proofs.lemmas.Int.{ints, clamps}
use Rattle.std.proofs.lemmas.List.{length-append, length_push}
use Rattle.zone_minutes.specs.declared.minute.Minute.{Minute}
use Rattle.paxos_base.specs.Vote.{put_vote, votes_from}
use Rattle.paxos_base.specs.declared.entry.Entry.{Entry}
use Rattle.paxos_base.specs.declared.entry.Vote.{Vote}
use Rattle.paxos_base.specs.declared.rows.JobRow.{JobRow}
use Rattle.cluster_sched.specs.declared.row.SchedRow.{SchedRow}
use Rattle.launch_machine.specs.Answers.{IsIntent}
use Rattle.launch_machine.specs.Clerk.{AppliesAll, first_rows}
use Rattle.launch_machine.specs.declared.machine.Intent.TheVariants as intent
use Rattle.launch_machine.proofs.ClerkLemmas.{AppliesAll-push, AppliesAll-same}
use Rattle.step_spec.specs.State.{State, prefix_of}
use Rattle.history.specs.Book.{Row, under}
use Rattle.history.specs.declared.turn.Cause.{Cause}
use Rattle.history.specs.declared.turn.Cause.TheVariants.{Tick, Answer}
use Rattle.launch_safety.proofs.Alone.{leading, vote}
use Rattle.script_semantics.specs.Round.{IsRound, clock_reading, round_tasks}
use Rattle.script_semantics.specs.Settling.{AsksNothing, DrainsIn, IsFreeTerm, IsQuiet, campaign_tasks}
use Rattle.script_semantics.specs.Situation.{Performs, Situation, Task, Do, after_turn, delivered}
use Rattle.history.proofs.Asks.{with_table}
use Rattle.run_outcome.proofs.SomeMoves.{Has, IsShort, Move, call_row, calls, delivers, ends, name, rests, starts}
use Rattle.run_outcome.proofs.SomeTable.{brief, call_asked, end_applies, end_entry, idle, minute, opened, rest_asked, start_applies, start_asked, start_entry}

-- ---- turns of tasks

-- turns of some tasks, with what they leave
pub record Performed (book : List Row) (situation : Situation) (tasks : List Task) (state : State) (held : List SchedRow) (waits : Option SchedRow) : Type 0 where
  pub rows : List Row
  pub after : Situation
  pub performs : Performs 1 tasks situation rows after
  pub has : Has (book ++ rows) after state held waits
  pub few : length rows ≤ 2

pub performs_none : (book : List Row) (situation : Situation) (state : State) (held : List SchedRow) (waits : Option SchedRow) → Has book situation state held waits → Performed book situation [] state held waits
performs_none book situation state held waits has = record {
  rows = [];
  after = delivered (length situation.standing.posted) situation;
  performs = record { turns = refl; is = refl };
  has = subst (λ some. Has some (delivered (length situation.standing.posted) situation) state held waits) (sym (append-nil book))
      (delivers book situation state held waits (length situation.standing.posted) has);
  few = omega arith;
}

pub performs_one : (book : List Row) (situation : Situation) (cause : Cause) (one other : State) (held held_then : List SchedRow) (waits waits_then : Option SchedRow) → Move one held waits cause other held_then waits_then
    → Has book situation one held waits → Performed book situation (Do 0 cause ∷ []) other held_then waits_then
performs_one book situation cause one other held held_then waits waits_then move has =
    let goes = move book situation has in
    record {
      rows = goes.row ∷ [];
      after = delivered (length situation.standing.posted) (after_turn 1 situation goes.row);
      performs = record { turns = (goes.does, refl); is = refl };
      has = delivers (book ++ goes.row ∷ []) (after_turn 1 situation goes.row) other held_then waits_then (length situation.standing.posted) goes.has;
      few = omega arith;
    }

performs_two : (book : List Row) (situation : Situation) (cause second : Cause) (one other last : State) (held held_then held_last : List SchedRow) (waits waits_then waits_last : Option SchedRow)
    → Move one held waits cause other held_then waits_then → Move other held_then waits_then second last held_last waits_last
    → Has book situation one held waits → Performed book situation (Do 0 cause ∷ Do 0 second ∷ []) last held_last waits_last
performs_two book situation cause second one other last held held_then held_last waits waits_then waits_last move next has =
    let goes = move book situation has in
    let there = after_turn 1 situation goes.row in
    let more = next (book ++ goes.row ∷ []) there goes.has in
    record {
      rows = goes.row ∷ more.row ∷ [];
      after = delivered (length situation.standing.posted) (after_turn 1 there more.row);
      performs = record { turns = (goes.does, (more.does, refl)); is = refl };
      has = delivers (book ++ goes.row ∷ more.row ∷ []) (after_turn 1 there more.row) last held_last waits_last (length situation.standing.posted)
          (subst (λ some. Has some (after_turn 1 there more.row) last held_last waits_last) (append_assoc book (goes.row ∷ []) (more.row ∷ [])) more.has);
      few = omega arith;
    }

-- ---- rounds

-- a clock that is right reads the minute
reads : (k : ℕ) → k < 2 → clock_reading brief.window (minute k) (pos 0) ≡ record { 0 = minute k }
reads k within =
    let make : ℤ → Minute = λ at. record { 0 = at } in
    let same : (clock_reading brief.window (minute k) (pos 0)).0 ≡ minute k = omega (arith, ints, clamps, within) in
    ap make same

pub tick_tasks : (book : List Row) (situation : Situation) (state : State) (held : List SchedRow) (k : ℕ) → k < 2 → Has book situation state held None → round_tasks 1 brief.window (minute k) situation ≡ Do 0 (Tick (record { 0 = minute k })) ∷ []
tick_tasks book situation state held k within has = rw (has.runs, has.waits_is, has.mails_are 0, has.right 0, reads k within) refl

answer_tasks : (book : List Row) (situation : Situation) (state : State) (held : List SchedRow) (row : SchedRow) (k : ℕ) → k < 2 → Has book situation state held (Some row)
    → round_tasks 1 brief.window (minute k) situation ≡ Do 0 Answer ∷ Do 0 (Tick (record { 0 = minute k })) ∷ []
answer_tasks book situation state held row k within has = rw (has.runs, has.waits_is, has.mails_are 0, has.right 0, reads k within) refl

-- turns of the tasks of a round
abbrev pub Rounded : (book : List Row) (situation : Situation) (k : ℕ) (state : State) (held : List SchedRow) (waits : Option SchedRow) → Type 0
Rounded book situation k state held waits = Performed book situation (round_tasks 1 brief.window (minute k) situation) state held waits

pub ticks : (book : List Row) (situation : Situation) (k : ℕ) (one other : State) (held held_then : List SchedRow) (waits_then : Option SchedRow) → k < 2
    → Move one held None (Tick (record { 0 = minute k })) other held_then waits_then → Has book situation one held None → Rounded book situation k other held_then waits_then
ticks book situation k one other held held_then waits_then within move has =
    subst (λ tasks. Performed book situation tasks other held_then waits_then) (sym (tick_tasks book situation one held k within has))
    (performs_one book situation (Tick (record { 0 = minute k })) one other held held_then None waits_then move has)

answers : (book : List Row) (situation : Situation) (k : ℕ) (one other last : State) (held held_then held_last : List SchedRow) (row : SchedRow) (waits_last : Option SchedRow) → k < 2
    → Move one held (Some row) Answer other held_then None → Move other held_then None (Tick (record { 0 = minute k })) last held_last waits_last
    → Has book situation one held (Some row) → Rounded book situation k last held_last waits_last
answers book situation k one other last held held_then held_last row waits_last within move next has =
    subst (λ tasks. Performed book situation tasks last held_last waits_last) (sym (answer_tasks book situation one held row k within has))
    (performs_two book situation Answer (Tick (record { 0 = minute k })) one other last held held_then held_last (Some row) None waits_last move next has)

-- ---- draining

-- rounds until it is quiet, with what they leave
pub record Drained (rounds : ℕ) (book : List Row) (situation : Situation) (k : ℕ) (state : State) (held : List SchedRow) : Type 0 where
  pub rows : List Row
  pub after : Situation
  pub drains : DrainsIn rounds 1 brief 0 (minute k) situation rows after
  pub has : Has (book ++ rows) after state held None
  pub few : length rows ≤ 4 * rounds

drained : (book : List Row) (situation : Situation) (k : ℕ) (state : State) (held : List SchedRow) → Has book situation state held None → IsQuiet 1 brief 0 (minute k) situation → Drained zero book situation k state held
drained book situation k state held has quiet = record {
  rows = [];
  after = situation;
  drains = record { is_quiet = quiet; stays = record { none = refl; is = refl } };
  has = subst (λ some. Has some situation state held None) (sym (append-nil book)) has;
  few = omega arith;
}

-- a leader doesn't stand for leader
leader_still : (votes : List Vote) (entries : List Entry) (state : State) → state ≡ leading brief votes entries → campaign_tasks 0 state.term ≡ []
leader_still votes entries state is = rw is refl

regrouped : (book one two three : List Row) (situation : Situation) (state : State) (held : List SchedRow) → Has (((book ++ one) ++ two) ++ three) situation state held None → Has (book ++ ((one ++ two) ++ three)) situation state held None
regrouped book one two three situation state held has =
    subst (λ some. Has some situation state held None) (ap (λ some. some ++ three) (append_assoc book one two) ∙ append_assoc book (one ++ two) three) has

one_more : (rounds k : ℕ) (situation stood went after : Situation) (one two three : List Row) → (IsQuiet 1 brief 0 (minute k) situation → ⊥)
    → Performs 1 (campaign_tasks 0 (situation.standing.replicas 0).term) situation one stood → IsRound 1 brief.window (minute k) stood two went
    → DrainsIn rounds 1 brief 0 (minute k) went three after → DrainsIn (suc rounds) 1 brief 0 (minute k) situation ((one ++ two) ++ three) after
one_more rounds k situation stood went after one two three busy performs round drains = record {
  not_yet = busy;
  goes_on = record {
    front = one ++ two;
    middle = went;
    back = three;
    parts = refl;
    one = record { front = one; middle = stood; back = two; parts = refl; one = performs; two = round };
    two = drains;
  };
}

-- one more round before them
more : (rounds : ℕ) (book : List Row) (situation : Situation) (k : ℕ) (votes : List Vote) (entries : List Entry) (held : List SchedRow) (waits : Option SchedRow) (other last : State) (held_then held_last : List SchedRow) (waits_then : Option SchedRow)
    → (IsQuiet 1 brief 0 (minute k) situation → ⊥) → Has book situation (leading brief votes entries) held waits
    → ((longer : List Row) (there : Situation) → Has longer there (leading brief votes entries) held waits → Rounded longer there k other held_then waits_then)
    → ((longer : List Row) (there : Situation) → Has longer there other held_then waits_then → Drained rounds longer there k last held_last)
    → Drained (suc rounds) book situation k last held_last
more rounds book situation k votes entries held waits other last held_then held_last waits_then busy has round rest =
    let stood : Performed book situation (campaign_tasks 0 (situation.standing.replicas 0).term) (leading brief votes entries) held waits =
    subst (λ tasks. Performed book situation tasks (leading brief votes entries) held waits) (sym (leader_still votes entries (situation.standing.replicas 0) has.state_is))
    (performs_none book situation (leading brief votes entries) held waits has) in
    let went = round (book ++ stood.rows) stood.after stood.has in
    let rested = rest ((book ++ stood.rows) ++ went.rows) went.after went.has in
    record {
      rows = (stood.rows ++ went.rows) ++ rested.rows;
      after = rested.after;
      drains = one_more rounds k situation stood.after went.after rested.after stood.rows went.rows rested.rows busy stood.performs went.performs rested.drains;
      has = regrouped book stood.rows went.rows rested.rows rested.after last held_last rested.has;
      few =
          let inner = length-append stood.rows went.rows in
          let outer = length-append (stood.rows ++ went.rows) rested.rows in
          let one = stood.few in
          let two = went.few in
          let three = rested.few in
          omega (arith, inner, outer, one, two, three);
    }

-- ---- a launch

-- what the launch table asks for, where it isn't nothing
busy_by : (book : List Row) (situation : Situation) (k : ℕ) (votes : List Vote) (entries : List Entry) (held : List SchedRow) (waits : Option SchedRow) (rows : List JobRow)
    → Has book situation (leading brief votes entries) held waits → AppliesAll brief (first_rows brief) entries rows → (IsIntent brief rows (minute k) intent.Rest → ⊥)
    → AsksNothing brief (minute k) (situation.standing.replicas 0) → ⊥
busy_by book situation k votes entries held waits rows has applied wants asks =
    let mine : AppliesAll brief (first_rows brief) entries asks.rows = subst (λ (s : State). AppliesAll brief s.kept.rows s.learned asks.rows) has.state_is asks.rows_are in
    wants (subst (λ some. IsIntent brief some (minute k) intent.Rest) (AppliesAll-same brief (first_rows brief) entries asks.rows rows mine applied) asks.rests)

pub wants_start : (book : List Row) (situation : Situation) (k : ℕ) (votes : List Vote) (entries : List Entry) (held : List SchedRow) (waits : Option SchedRow) → k < 2
    → Has book situation (leading brief votes entries) held waits → AppliesAll brief (first_rows brief) entries (with_table (idle k))
    → AsksNothing brief (minute k) (situation.standing.replicas 0) → ⊥
wants_start book situation k votes entries held waits within has applied =
    busy_by book situation k votes entries held waits (with_table (idle k)) has applied (λ rest. rest.1 0 (minute k) (start_asked k within).1.takes)

wants_call : (book : List Row) (situation : Situation) (k : ℕ) (votes : List Vote) (entries : List Entry) (held : List SchedRow) (waits : Option SchedRow)
    → Has book situation (leading brief votes entries) held waits → AppliesAll brief (first_rows brief) entries (with_table (opened k))
    → AsksNothing brief (minute k) (situation.standing.replicas 0) → ⊥
wants_call book situation k votes entries held waits has applied =
    busy_by book situation k votes entries held waits (with_table (opened k)) has applied (λ rest. rest.0 0 (minute k) (call_asked k).0.may)

quiet : (book : List Row) (situation : Situation) (k : ℕ) (votes : List Vote) (entries : List Entry) (held : List SchedRow)
    → Has book situation (leading brief votes entries) held None → AppliesAll brief (first_rows brief) entries (with_table (idle (suc k))) → IsQuiet 1 brief 0 (minute k) situation
unfolding votes_from
quiet book situation k votes entries held has applied = record {
  free = subst (λ (s : State). IsFreeTerm (prefix_of s) s.term) (sym has.state_is) refl;
  answered = has.waits_is;
  rests = record {
    rows = with_table (idle (suc k));
    rows_are = subst (λ (s : State). AppliesAll brief s.kept.rows s.learned (with_table (idle (suc k)))) (sym has.state_is) applied;
    rests = rest_asked k;
  };
  caught_up = λ other member. let first : other ≡ 0 = omega (arith, member) in rw first refl;
}

-- a launch of the minute, from its start on
pub record Launched (book : List Row) (situation : Situation) (k : ℕ) (held : List SchedRow) : Type 0 where
  pub votes : List Vote
  pub entries : List Entry
  pub short : length entries ≡ 2 * suc k
  pub applied : AppliesAll brief (first_rows brief) entries (with_table (idle (suc k)))
  pub drained : Drained 3 book situation k (leading brief votes entries) (held ++ call_row k ∷ [])

pub launches : (book : List Row) (situation : Situation) (k : ℕ) (votes : List Vote) (entries : List Entry) (held : List SchedRow) → k < 2 → length entries ≡ 2 * k
    → AppliesAll brief (first_rows brief) entries (with_table (idle k)) → under (name k) held ≡ None → Has book situation (leading brief votes entries) held None → Launched book situation k held
launches book situation k votes entries held within long applied none has = record {
  votes = votes_last;
  entries = entries_last;
  short = omega (arith, length_push entries (start_entry k), length_push entries_then (end_entry k), long);
  applied = applied_last;
  drained =
      more 2 book situation k votes entries held None (leading brief votes_then entries_then) (leading brief votes_last entries_last) held held_then None
      (λ is. wants_start book situation k votes entries held None within has applied is.rests) has
      (λ longer there here. ticks longer there k (leading brief votes entries) (leading brief votes_then entries_then) held held None within (starts k votes entries held within short applied) here)
      started;
}
  where
    short : IsShort entries
    short = omega (arith, long, within)

    votes_then : List Vote
    votes_then = put_vote (vote (0 + length entries) (start_entry k)) votes

    entries_then : List Entry
    entries_then = entries ++ start_entry k ∷ []

    held_then : List SchedRow
    held_then = held ++ call_row k ∷ []

    votes_last : List Vote
    votes_last = put_vote (vote (0 + length entries_then) (end_entry k)) votes_then

    entries_last : List Entry
    entries_last = entries_then ++ end_entry k ∷ []

    short_then : IsShort entries_then
    short_then = omega (arith, length_push entries (start_entry k), long, within)

    short_last : IsShort entries_last
    short_last = omega (arith, length_push entries (start_entry k), length_push entries_then (end_entry k), long, within)

    applied_then : AppliesAll brief (first_rows brief) entries_then (with_table (opened k))
    applied_then = AppliesAll-push brief (first_rows brief) entries (start_entry k) (with_table (idle k)) (with_table (opened k)) applied (start_applies k within)

    applied_last : AppliesAll brief (first_rows brief) entries_last (with_table (idle (suc k)))
    applied_last = AppliesAll-push brief (first_rows brief) entries_then (end_entry k) (with_table (opened k)) (with_table (idle (suc k))) applied_then (end_applies k)

    ended : (longer : List Row) (there : Situation) → Has longer there (leading brief votes_last entries_last) held_then None → Drained 0 longer there k (leading brief votes_last entries_last) held_then
    ended longer there here = drained longer there k (leading brief votes_last entries_last) held_then here (quiet longer there k votes_last entries_last held_then here applied_last)

    called : (longer : List Row) (there : Situation) → Has longer there (leading brief votes_then entries_then) held_then (Some (call_row k)) → Drained 1 longer there k (leading brief votes_last entries_last) held_then
    called longer there here =
        more 0 longer there k votes_then entries_then held_then (Some (call_row k)) (leading brief votes_last entries_last) (leading brief votes_last entries_last) held_then held_then None
        (λ is. let wrong : Some (call_row k) ≡ None = sym here.waits_is ∙ is.answered in cc) here
        (λ book_then situation_then has_then. answers book_then situation_then k (leading brief votes_then entries_then) (leading brief votes_last entries_last) (leading brief votes_last entries_last) held_then held_then held_then (call_row k) None within
        (ends k votes_then entries_then held_then applied_then) (rests k votes_last entries_last held_then within short_last applied_last) has_then)
        ended

    started : (longer : List Row) (there : Situation) → Has longer there (leading brief votes_then entries_then) held None → Drained 2 longer there k (leading brief votes_last entries_last) held_then
    started longer there here =
        more 1 longer there k votes_then entries_then held None (leading brief votes_then entries_then) (leading brief votes_last entries_last) held_then held_then (Some (call_row k))
        (λ is. wants_call longer there k votes_then entries_then held None here applied_then is.rests) here
        (λ book_then situation_then has_then. ticks book_then situation_then k (leading brief votes_then entries_then) (leading brief votes_then entries_then) held held_then (Some (call_row k)) within
        (calls k votes_then entries_then held within short_then applied_then none) has_then)
        called
