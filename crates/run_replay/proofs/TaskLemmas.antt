-- The turns that a situation asks for, as a replay lists them.
use Rattle.std.proofs.Common.{◌≡◌, ℕ, ◌+◌, ◌<◌, ◌&&◌, nat_lt, not, Bool, true, false, if◌then◌else◌, IfOk, List, [], ◌∷◌, ◌++◌, length, take, get_or, ℤ, pos, negsuc, ◌-ℤ◌, ◌≤ℤ◌, ◌<ℤ◌, Option, Result, Ok, Err, None, Some, refl, sym, ap, ◌∙◌, arith, append_assoc, append-nil as append_nil}
use Rattle.std.specs.List.{flat_map, range_with_len, slice_get}
use Rattle.std.specs.Int.{int_max, int_min, saturate_signed, w64}
use Rattle.std.proofs.lemmas.Int.{clamps, ints}
use Rattle.std.proofs.lemmas.List.{map-append}
use Rattle.std.proofs.lemmas.List.Concat.{flat_map-append}
use Rattle.cron_io.proofs.ListLemmas.{range_more}
use Rattle.due_set.specs.Table.{Table}
use Rattle.zone_minutes.specs.declared.minute.Window.{Window}
use Rattle.term_core.specs.declared.term.Term.{Term}
use Rattle.term_core.specs.declared.term.Term.TheVariants.{Follower, Candidate, Leader}
use Rattle.step_spec.specs.State.{State}
use Rattle.history.specs.Book.{Row, Standing}
use Rattle.history.specs.declared.turn.Cause.TheVariants.{Campaign, Tick, Hear}
use Rattle.replica_core.specs.Replica.{ReplicaState}
use Rattle.script_semantics.specs.Commands.{arrival_tasks, has_number}
use Rattle.script_semantics.specs.Round.{answer_tasks, clock_reading, hear_tasks, tasks_of}
use Rattle.script_semantics.specs.Settling.{campaign_tasks}
use Rattle.script_semantics.specs.Situation.{Situation, Task, Do, Restart, Arrive}
use Rattle.world_law.proofs.Called.{late_at_rest}
use Rattle.world_law.specs.Book.{standing_behind}
use Rattle.run_replay.specs.Tasks.{standing_tasks, AreAsked, JoinAsked, follows_by, follows_in, is_follower, task_of, tasks_in}
use Rattle.run_replay.proofs.QuietLemmas.{running_state, stopped_state}
use Rattle.run_replay.proofs.RepeatLemmas.{one_more}
use Rattle.run_replay.proofs.SettingLemmas.{seat_runs}
use Rattle.run_replay.specs.Quiet.{runs_by_seat}
use Rattle.run_replay.specs.Replay.{IsReplayAt, IsSettingOf}
use Rattle.run_replay.specs.declared.replay.Replay.{Replay}
use Rattle.run_replay.specs.declared.replay.Seat.{Seat}
use Rattle.run_replay.specs.declared.replay.Setting.{Setting}
use Rattle.run_replay.specs.declared.tasks.Task.{Task as Listed}
use Rattle.run_replay.specs.declared.tasks.Task.TheVariants as listed

-- ---- what a call answers

pub ok_so : {X E : Type 0} (r : Result X E) (P Q : X → Type 0) → IfOk r P → ((x : X) → P x → Q x) → IfOk r Q
ok_so (Ok x) P Q is so = so x is
ok_so (Err e) P Q is so = tt

-- ---- one task more

pub task_pushed : (old new : List Listed) (task : Listed) → new ≡ old ++ task ∷ [] → tasks_in new ≡ tasks_in old ++ task_of task ∷ []
task_pushed old new task is = ap tasks_in is ∙ map-append task_of old (task ∷ [])

-- one alone
pub one_listed : (asked : Bool) (task : Listed) (items : List Listed) → items ≡ (if asked then task ∷ [] else []) → tasks_in items ≡ (if asked then task_of task ∷ [] else [])
one_listed true task items is = ap tasks_in is
one_listed false task items is = ap tasks_in is

pub letter_next : (who : ℕ) (mail : List ℕ) (place : ℕ) (first old new : List Listed) → place < length mail → tasks_in old ≡ tasks_in first ++ hear_tasks who (take place mail)
    → new ≡ old ++ listed.Do who (Hear (get_or mail place 0)) ∷ [] → tasks_in new ≡ tasks_in first ++ hear_tasks who (take (place + 1) mail)
letter_next who mail place first old new below so_far pushed =
    task_pushed old new (listed.Do who (Hear (get_or mail place 0))) pushed
    ∙ ap (λ front. front ++ Do who (Hear (get_or mail place 0)) ∷ []) so_far
    ∙ append_assoc (tasks_in first) (hear_tasks who (take place mail)) (Do who (Hear (get_or mail place 0)) ∷ [])
    ∙ ap (λ more. tasks_in first ++ more)
    (sym (map-append (λ number. Do who (Hear number)) (take place mail) (get_or mail place 0 ∷ []))
    ∙ ap (hear_tasks who) (sym (one_more mail place below)))

-- ---- a clock

-- a sum that is held within the window is so whether or not it is held within 64 bits before
pub clock_held : (from until sum : ℤ) → pos 0 ≤ℤ from → from <ℤ until → until ≤ℤ pos 120_968_640
    → int_max (int_min (saturate_signed w64 sum) (until -ℤ pos 1)) from ≡ int_max from (int_min sum (until -ℤ pos 1))
clock_held from until (pos n) low ordered high = omega (arith, ints, clamps)
clock_held from until (negsuc n) low ordered high = omega (arith, ints, clamps)

-- ---- rounds

-- what a replica that runs does in a round
pub round_listed : (window : Window) (at : ℤ) (replay : Replay) (who : ℕ) (seat : Seat) (setting : Setting) (first one two three : List Listed) → slice_get replay.seats.items who ≡ Some seat → runs_by_seat seat ≡ true
    → slice_get replay.settings.items who ≡ Some setting → tasks_in one ≡ tasks_in first ++ answer_tasks who setting.waits → tasks_in two ≡ tasks_in one ++ hear_tasks who setting.mail.items
    → three ≡ two ++ listed.Do who (Tick (clock_reading window at setting.skew)) ∷ [] → JoinAsked (λ situation. tasks_of window at situation who) replay first three
round_listed window at replay who seat setting first one two three there runs here answers hears ticks = λ table rows situation is.
    let set : IsSettingOf situation who setting = is.seated.settings who setting here in
    let running : situation.standing.runs who ≡ true = seat_runs table rows replay situation who seat is there ∙ runs in
    let tick : List Task = Do who (Tick (clock_reading window at (situation.skews who))) ∷ [] in
    let heard : List Task = hear_tasks who (situation.mails who) in
    let taken : List Task = answer_tasks who (situation.standing.waits who) in
    let asked : tasks_of window at situation who ≡ taken ++ (heard ++ tick) = rw running refl in
    task_pushed two three (listed.Do who (Tick (clock_reading window at setting.skew))) ticks
    ∙ ap (λ front. front ++ Do who (Tick (clock_reading window at setting.skew)) ∷ [])
    (hears ∙ ap (λ mail. tasks_in one ++ hear_tasks who mail) set.mail ∙ ap (λ front. front ++ heard) (answers ∙ ap (λ waits. tasks_in first ++ answer_tasks who waits) set.waits))
    ∙ ap (λ skew. ((tasks_in first ++ taken) ++ heard) ++ Do who (Tick (clock_reading window at skew)) ∷ []) set.skew
    ∙ append_assoc (tasks_in first ++ taken) heard tick
    ∙ append_assoc (tasks_in first) taken (heard ++ tick)
    ∙ ap (λ more. tasks_in first ++ more) (sym asked)

-- one that is stopped does nothing
pub none_listed : (window : Window) (at : ℤ) (replay : Replay) (who : ℕ) (seat : Seat) (first : List Listed) → slice_get replay.seats.items who ≡ Some seat → runs_by_seat seat ≡ false
    → JoinAsked (λ situation. tasks_of window at situation who) replay first first
none_listed window at replay who seat first there stopped = λ table rows situation is.
    let still : situation.standing.runs who ≡ false = seat_runs table rows replay situation who seat is there ∙ stopped in
    let asked : tasks_of window at situation who ≡ [] = rw still refl in
    sym (append_nil (tasks_in first)) ∙ ap (λ more. tasks_in first ++ more) (sym asked)

-- and starts again
pub restart_listed : (replay : Replay) (who : ℕ) (seat : Seat) (first next : List Listed) → slice_get replay.seats.items who ≡ Some seat → runs_by_seat seat ≡ false → next ≡ first ++ listed.Restart who ∷ []
    → JoinAsked (λ situation. if situation.standing.runs who then [] else Restart who ∷ []) replay first next
restart_listed replay who seat first next there stopped pushed = λ table rows situation is.
    let still : situation.standing.runs who ≡ false = seat_runs table rows replay situation who seat is there ∙ stopped in
    let asked : (if situation.standing.runs who then [] else Restart who ∷ []) ≡ Restart who ∷ [] = rw still refl in
    task_pushed first next (listed.Restart who) pushed ∙ ap (λ more. tasks_in first ++ more) (sym asked)

pub runs_listed : (replay : Replay) (who : ℕ) (seat : Seat) (first : List Listed) → slice_get replay.seats.items who ≡ Some seat → runs_by_seat seat ≡ true
    → JoinAsked (λ situation. if situation.standing.runs who then [] else Restart who ∷ []) replay first first
runs_listed replay who seat first there runs = λ table rows situation is.
    let running : situation.standing.runs who ≡ true = seat_runs table rows replay situation who seat is there ∙ runs in
    let asked : (if situation.standing.runs who then [] else Restart who ∷ []) ≡ [] = rw running refl in
    sym (append_nil (tasks_in first)) ∙ ap (λ more. tasks_in first ++ more) (sym asked)

-- those of the first replicas, one after another
abbrev pub asked_of : (asked : Situation → ℕ → List Task) → (count : ℕ) → Situation → List Task
asked_of asked count situation = flat_map (asked situation) (range_with_len 0 count)

pub asked_next : (asked : Situation → ℕ → List Task) (replay : Replay) (who : ℕ) (old new : List Listed) → AreAsked (asked_of asked who) replay old → JoinAsked (λ situation. asked situation who) replay old new
    → AreAsked (asked_of asked (who + 1)) replay new
asked_next asked replay who old new so_far join = λ table rows situation is.
    join table rows situation is ∙ ap (λ front. front ++ asked situation who) (so_far table rows situation is)
    ∙ ap (λ more. asked_of asked who situation ++ more) (sym (append_nil (asked situation who)))
    ∙ sym (flat_map-append (asked situation) (range_with_len 0 who) (who ∷ []))
    ∙ ap (flat_map (asked situation)) (sym (range_more 0 who who (omega arith)))

pub asked_all : (asked : Situation → ℕ → List Task) (replay : Replay) (who : ℕ) (items : List Listed) → who ≡ length replay.seats.items → AreAsked (asked_of asked who) replay items
    → AreAsked (λ situation. flat_map (asked situation) (range_with_len 0 replay.book.members)) replay items
asked_all asked replay who items whole all = λ table rows situation is.
    all table rows situation is ∙ ap (λ n. flat_map (asked situation) (range_with_len 0 n)) (whole ∙ is.seated.count)

-- ---- standing for leader

follows_asks : (who : ℕ) (term : Term) → campaign_tasks who term ≡ (if is_follower term then Do who Campaign ∷ [] else [])
follows_asks who (Follower ended) = refl
follows_asks who (Candidate ballot first heard best) = refl
follows_asks who (Leader ballot best flight) = refl

standing_by : (table : Table) (rows : List Row) (replay : Replay) (situation : Situation) (who : ℕ) (seat : Seat) (replica : Option ReplicaState) → IsReplayAt table rows replay situation
    → slice_get replay.seats.items who ≡ Some seat → seat.replica ≡ replica → standing_tasks who situation ≡ (if follows_by replica then Do who Campaign ∷ [] else [])
standing_by table rows replay situation who seat None is there stopped =
    ap (λ (state : State). campaign_tasks who state.term) (stopped_state table rows replay situation is who seat there stopped)
standing_by table rows replay situation who seat (Some replica) is there runs =
    ap (λ (state : State). campaign_tasks who state.term) (sym (running_state table rows replay situation is who seat replica there runs)) ∙ follows_asks who replica.state.term

pub standing_listed : (replay : Replay) (who : ℕ) (seat : Seat) (follows : Bool) (items : List Listed) → slice_get replay.seats.items who ≡ Some seat → follows ≡ follows_in seat
    → items ≡ (if follows then listed.Do who Campaign ∷ [] else []) → AreAsked (standing_tasks who) replay items
standing_listed replay who seat follows items there by is = λ table rows situation here.
    one_listed follows (listed.Do who Campaign) items is
    ∙ ap (λ asked. if asked then Do who Campaign ∷ [] else []) by
    ∙ sym (standing_by table rows replay situation who seat seat.replica here there refl)

-- ---- commands

-- a task of a replica that runs, or of one that is stopped
pub runs_asks : (replay : Replay) (who : ℕ) (seat : Seat) (runs : Bool) (task : Listed) (items : List Listed) → slice_get replay.seats.items who ≡ Some seat → runs ≡ runs_by_seat seat
    → items ≡ (if runs then task ∷ [] else []) → AreAsked (λ situation. if situation.standing.runs who then task_of task ∷ [] else []) replay items
runs_asks replay who seat runs task items there by is = λ table rows situation here.
    one_listed runs task items is
    ∙ ap (λ asked. if asked then task_of task ∷ [] else []) (by ∙ sym (seat_runs table rows replay situation who seat here there))

not_if : {X : Type 0} (b : Bool) (x y : X) → (if not b then x else y) ≡ (if b then y else x)
not_if true x y = refl
not_if false x y = refl

pub stopped_asks : (replay : Replay) (who : ℕ) (seat : Seat) (runs : Bool) (task : Listed) (items : List Listed) → slice_get replay.seats.items who ≡ Some seat → runs ≡ runs_by_seat seat
    → items ≡ (if not runs then task ∷ [] else []) → AreAsked (λ situation. if situation.standing.runs who then [] else task_of task ∷ []) replay items
stopped_asks replay who seat runs task items there by is = λ table rows situation here.
    one_listed (not runs) task items is ∙ not_if runs (task_of task ∷ []) []
    ∙ ap (λ asked. if asked then [] else task_of task ∷ []) (by ∙ sym (seat_runs table rows replay situation who seat here there))

pub arrival_asks : (replay : Replay) (late : ℕ) (may : Bool) (items : List Listed) → may ≡ (nat_lt late (length replay.book.ledger.late) && not (has_number late replay.book.arrived))
    → items ≡ (if may then listed.Arrive late ∷ [] else []) → AreAsked (arrival_tasks late) replay items
arrival_asks replay late may items by is = λ table rows situation here.
    one_listed may (listed.Arrive late) items is
    ∙ ap (λ asked. if asked then Arrive late ∷ [] else [])
    (by ∙ ap (λ calls. nat_lt late (length calls) && not (has_number late replay.book.arrived)) (late_at_rest table rows replay.book here.rest here.behind)
    ∙ ap (λ arrived. nat_lt late (length (standing_behind table rows replay.book).late) && not (has_number late arrived)) here.behind.arrived
    ∙ ap (λ (s : Standing). nat_lt late (length s.late) && not (has_number late s.arrived)) (sym here.standing))
