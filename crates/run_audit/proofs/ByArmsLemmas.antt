-- Turns of tasks on disks that may be armed, which are taken one after another by the lines of a text.
use Rattle.std.proofs.Common.{◌≡◌, ◌↔◌, ◌+◌, ◌<◌, ◌≤◌, ◌^◌, ℕ, Bool, IsTrue, true, false, not, List, [], ◌∷◌, ◌++◌, length, reverse, Option, Some, refl, sym, ap, ◌∙◌, subst, inl, inr, arith, append_assoc, append-nil as append_nil}
use Rattle.std.specs.List.{filter, slice_get}
use Rattle.std.specs.Option.{option_to_list}
use Rattle.std.proofs.lemmas.Bool.{cases_Bool}
use Rattle.std.proofs.lemmas.List.{length-append, length-map, reverse-append}
use Rattle.std.proofs.lemmas.List.Elements.{filter-append}
use Rattle.std.proofs.lemmas.List.Sums.{fold_push}
use Rattle.cron_io.specs.Lines.{text_of_lines}
use Rattle.due_set.specs.Table.{Table}
use Rattle.history.specs.Book.{Row, Standing}
use Rattle.history.specs.Legal.{IsLegal, MayFollow}
use Rattle.paxos_base.specs.declared.durable.Delta.{Delta}
use Rattle.world_law.specs.Book.{BookState, posted_as, standing_behind}
use Rattle.journal_text.specs.Journal.{turn_line}
use Rattle.script_semantics.specs.Arms.{IsTurnByArm, PlaysByArms, is_task_of}
use Rattle.script_semantics.proofs.TurnLemmas.{same_changes}
use Rattle.script_semantics.specs.Situation.{Situation, Task, after_turn, after_turns, changes_in, delivered}
use Rattle.run_replay.proofs.SettingLemmas.{posted_are}
use Rattle.run_replay.specs.Replay.{IsInSituation, IsReplayAt}
use Rattle.run_replay.specs.Judged.{changes_with}
use Rattle.run_replay.specs.Settings.{ChangesReplay}
use Rattle.run_replay.specs.Tasks.{task_of, tasks_in}
use Rattle.run_replay.specs.declared.judge.Judged.{Judged}
use Rattle.run_replay.specs.declared.replay.Replay.{Replay}
use Rattle.run_replay.specs.declared.tasks.Task.{Task as Listed}
use Rattle.run_audit.proofs.ArmLemmas.{LeavesTasks, all_taken, plays_by_stop, task_more}
use Rattle.run_audit.proofs.ComingLemmas.{out_of_place}
use Rattle.run_audit.proofs.PlayLemmas.{text_more}
use Rattle.run_audit.specs.Begins.{BeginsToPlayByArms}
use Rattle.run_audit.specs.ByArms.{AreSet, HasStoppedWithin, IsTurnEnding, StopsByArm, TakesByArm, tasks_backwards, tasks_without}
use Rattle.run_audit.specs.Coming.{ComesJudged, StopsNext, TakesNext}
use Rattle.run_audit.specs.Played.{GoesOnWith, HasPlayedOn, PlaysPart, StopsPart, lines_from}
use Rattle.run_audit.specs.declared.lines.Rest.{Rest}
use Rattle.run_audit.specs.declared.verdict.Stop.{Stop}
use Rattle.run_audit.specs.declared.verdict.Stop.TheVariants.{At, OutOfMemory}
use Rattle.run_audit.specs.declared.verdict.Why.TheVariants.{NotObeyed}

-- ---- a list from its end on

filter_reversed : {X : Type 0} (p : X → Bool) (xs : List X) → reverse (filter p xs) ≡ filter p (reverse xs)
filter_reversed p [] = refl
filter_reversed p (x ∷ xs) = elim (cases_Bool (p x)) [
  | inl is ↦
      rw is (reverse-append (x ∷ []) (filter p xs) ∙ ap (λ front. front ++ x ∷ []) (filter_reversed p xs)
      ∙ sym (ap (filter p) (reverse-append (x ∷ []) xs) ∙ filter-append p (reverse xs) (x ∷ []) ∙ rw is refl))
  | inr isnt ↦
      rw isnt (filter_reversed p xs ∙ sym (ap (filter p) (reverse-append (x ∷ []) xs) ∙ filter-append p (reverse xs) (x ∷ []) ∙ rw isnt (append_nil (filter p (reverse xs)))))
]

tasks_filtered : (p : Task → Bool) (tasks : List Listed) → tasks_in (filter (λ task. p (task_of task)) tasks) ≡ filter p (tasks_in tasks)
tasks_filtered p [] = refl
tasks_filtered p (task ∷ tasks) = elim (cases_Bool (p (task_of task))) [
  | inl is ↦ rw is (ap (λ more. task_of task ∷ more) (tasks_filtered p tasks))
  | inr isnt ↦ rw isnt (tasks_filtered p tasks)
]

pub left_last : (tasks before : List Listed) (task : Listed) → tasks ≡ before ++ task ∷ [] → tasks_backwards tasks ≡ task_of task ∷ tasks_backwards before
left_last tasks before task is = ap tasks_backwards is ∙ ap tasks_in (reverse-append before (task ∷ []))

pub left_without : (tasks left : List Listed) (who : ℕ) → left ≡ filter (λ task. not (is_task_of who (task_of task))) tasks → tasks_backwards left ≡ tasks_without (Some who) (tasks_backwards tasks)
left_without tasks left who is =
    ap tasks_backwards is ∙ ap tasks_in (filter_reversed (λ task. not (is_task_of who (task_of task))) tasks) ∙ tasks_filtered (λ task. not (is_task_of who task)) (reverse tasks)

-- ---- tasks, one after another

-- the turns of the first tasks have been taken by the lines of a text, and these tasks are left
pub record BegunByArms (members : ℕ) (table : Table) (rows : List Row) (situation : Situation) (all left : List Task) (now : Replay) (text rest : Rest) : Type 0 where
  pub part : List Row
  pub leaves : LeavesTasks members situation all part left
  pub text_is : text.text.now ≡ text_of_lines (lines_from table (length rows) part) ++ rest.text.now
  pub number : rest.number ≡ text.number + length part
  pub ready : IsReplayAt table (rows ++ part) now (after_turns members situation part)

pub record HasBegunByArms (table : Table) (old now : Replay) (text rest : Rest) (all left : List Task) : Type 0 where
  pub members : now.book.members ≡ old.book.members
  pub few : rest.number + length rest.text.now < 2 ^ 32
  pub begun : (rows : List Row) (situation : Situation) → IsReplayAt table rows old situation → BegunByArms old.book.members table rows situation all left now text rest

pub arms_none : (table : Table) (old : Replay) (text : Rest) (all : List Task) → text.number + length text.text.now < 2 ^ 32 → HasBegunByArms table old old text text all all
arms_none table old text all few = record {
  members = refl;
  few = few;
  begun = λ rows situation is. record {
    part = [];
    leaves = refl;
    text_is = refl;
    number = let same : text.number ≡ text.number + 0 = omega arith in same;
    ready = subst (λ (l : List Row). IsReplayAt table l old situation) (sym (append_nil rows)) is;
  };
}

pub arms_next : (table : Table) (old now new : Replay) (text rest behind : Rest) (all left : List Task) (task : Task) (stopped : Option ℕ) → HasBegunByArms table old now text rest all (task ∷ left)
    → TakesByArm table task now new rest behind stopped → new.book.members ≡ now.book.members → behind.number + length behind.text.now < 2 ^ 32
    → HasBegunByArms table old new text behind all (tasks_without stopped left)
arms_next table old now new text rest behind all left task stopped so_far takes members few = record {
  members = members ∙ so_far.members;
  few = few;
  begun = λ rows situation is.
      let had = so_far.begun rows situation is in
      let next : TakesNext now.book.members table (rows ++ had.part) (after_turns old.book.members situation had.part)
      (IsTurnEnding now.book.members (after_turns old.book.members situation had.part) task stopped) new rest behind =
      takes (rows ++ had.part) (after_turns old.book.members situation had.part) had.ready in
      let size : length (rows ++ had.part) ≡ length rows + length had.part = length-append rows had.part in
      let total : length (had.part ++ next.row ∷ []) ≡ length had.part + 1 = length-append had.part (next.row ∷ []) in
      let first = had.number in
      let second = next.number in
      let turn : IsTurnByArm old.book.members (after_turns old.book.members situation had.part) task next.row =
      subst (λ (n : ℕ). IsTurnByArm n (after_turns old.book.members situation had.part) task next.row) so_far.members next.turn.turn in
      record {
        part = had.part ++ next.row ∷ [];
        leaves = subst (LeavesTasks old.book.members situation all (had.part ++ next.row ∷ [])) (next.turn.ends left)
            (task_more old.book.members situation all had.part task left next.row had.leaves turn);
        text_is =
            had.text_is ∙ ap (λ more. text_of_lines (lines_from table (length rows) had.part) ++ more) next.text_is
            ∙ ap (λ (n : ℕ). text_of_lines (lines_from table (length rows) had.part) ++ (turn_line table (n, next.row.turn) ++ 10 ∷ behind.text.now)) size
            ∙ text_more table (length rows) had.part next.row behind.text.now;
        number = omega (arith, first, second, total);
        ready = subst (λ (l : List Row). IsReplayAt table l new (after_turns old.book.members situation (had.part ++ next.row ∷ []))) (append_assoc rows had.part (next.row ∷ []))
            (subst (λ (s : Situation). IsReplayAt table ((rows ++ had.part) ++ next.row ∷ []) new s) (sym (fold_push (after_turn old.book.members) situation had.part next.row))
            (subst (λ (n : ℕ). IsReplayAt table ((rows ++ had.part) ++ next.row ∷ []) new (after_turn n (after_turns old.book.members situation had.part) next.row)) so_far.members next.ready));
      };
}

pub arms_ready : (table : Table) (old now : Replay) (text rest : Rest) (all left : List Task) → HasBegunByArms table old now text rest all left → IsInSituation table old → IsInSituation table now
arms_ready table old now text rest all left so_far ready =
    let had = so_far.begun ready.rows ready.situation ready.is in
    record { rows = ready.rows ++ had.part; situation = after_turns old.book.members ready.situation had.part; is = had.ready }

-- none is left, and their letters have joined the mails
pub arms_all : (table : Table) (old now new : Replay) (text rest : Rest) (all : List Task) (first : ℕ) → HasBegunByArms table old now text rest all [] → first ≡ length old.book.letters → ChangesReplay (delivered first) now new
    → new.book ≡ now.book → HasPlayedOn table (PlaysByArms old.book.members (λ situation. all)) old text new rest
arms_all table old now new text rest all first so_far count delivers book = record { plays = plays; members = ap (λ (book : BookState). book.members) book ∙ so_far.members; few = so_far.few }
  where
    plays : PlaysPart table (PlaysByArms old.book.members (λ situation. all)) old text new rest
    plays rows situation is =
        let had = so_far.begun rows situation is in
        let posted : first ≡ length situation.standing.posted = count ∙ sym (length-map old.book.letters posted_as) ∙ ap length (sym (posted_are table rows old situation is)) in
        record {
          part = had.part;
          after = delivered first (after_turns old.book.members situation had.part);
          is = record {
            turns = all_taken old.book.members situation all had.part had.leaves;
            is = ap (λ (n : ℕ). delivered n (after_turns old.book.members situation had.part)) posted;
          };
          text_is = had.text_is;
          number = had.number;
          ready = delivers table (rows ++ had.part) (after_turns old.book.members situation had.part) had.ready;
        }

-- the next task's turn isn't the next
pub arms_stop : (table : Table) (old now : Replay) (text rest : Rest) (all left : List Task) (task : Task) (stop : Stop) → HasBegunByArms table old now text rest all (task ∷ left) → StopsByArm table task now rest stop
    → StopsPart table (BeginsToPlayByArms old.book.members (λ situation. all)) (PlaysByArms old.book.members (λ situation. all)) old text stop
arms_stop table old now text rest all left task OutOfMemory so_far stops = tt
arms_stop table old now text rest all left task (At line why) so_far stops = λ rows situation is.
    let members = old.book.members in
    let asked : Situation → List Task = λ here. all in
    let had = so_far.begun rows situation is in
    let stopped : StopsNext members table (rows ++ had.part) (IsTurnByArm members (after_turns members situation had.part) task) rest line why =
    subst (λ (n : ℕ). StopsNext n table (rows ++ had.part) (IsTurnByArm n (after_turns members situation had.part) task) rest line why) so_far.members
    (stops (rows ++ had.part) (after_turns members situation had.part) had.ready) in
    let legal : IsLegal members table (rows ++ had.part) = subst (λ (n : ℕ). IsLegal n table (rows ++ had.part)) so_far.members had.ready.behind.legal in
    record {
      part = had.part;
      legal = legal;
      rest = rest.text.now;
      stops = plays_by_stop members asked situation had.part task left (GoesOnWith members table (rows ++ had.part) rest.text.now) had.leaves stopped.none;
      text_is = had.text_is;
      line_is = stopped.line_is ∙ had.number;
      reason = stopped.reason;
    }

-- ---- the turn of a task that was judged

module _ (table : Table) (rows : List Row) (old judging : Replay) (situation : Situation) (text rest : Rest) (judged : Judged) (here : IsReplayAt table rows old situation)
    (comes : ComesJudged table rows old judging text rest judged) where
  abbrev n : ℕ
  n = old.book.members

  abbrev row : Row
  row = comes.is.row

  -- what is set is as it was before
  pub still_set : AreSet situation judging.settings.items
  still_set who setting there = here.seated.settings who setting (ap (λ settings. slice_get settings.items who) (sym comes.is.settings) ∙ there)

  -- the changes of a turn with the line are those that were judged
  pub changes_there : (other : Row) → GoesOnWith n table rows text.text.now other
      → changes_in n situation.standing other.turn other.event ≡ changes_with judged.out.delta judged.lost
  changes_there other goes =
      let standing = standing_behind table rows old.book in
      let turn : other.turn ≡ row.turn = comes.one other goes in
      let beside : MayFollow n table standing other.turn row = subst (λ turn. MayFollow n table standing turn row) (sym turn) comes.is.told_by.may in
      ap (λ (s : Standing). changes_in n s other.turn other.event) here.standing
      ∙ same_changes n table standing other.turn other row goes.may beside
      ∙ ap (λ turn. changes_in n standing turn row.event) (turn ∙ comes.is.is.turn_is)
      ∙ comes.is.changes

  pub changes_here : changes_in n situation.standing row.turn row.event ≡ changes_with judged.out.delta judged.lost
  changes_here =
      ap (λ (s : Standing). changes_in n s row.turn row.event) here.standing
      ∙ ap (λ turn. changes_in n (standing_behind table rows old.book) turn row.event) comes.is.is.turn_is
      ∙ comes.is.changes

  module _ (task : Task) (answer : Bool) (change : Option Delta) (same : option_to_list change ≡ changes_with judged.out.delta judged.lost)
      (tells : (members : ℕ) (situation : Situation) (row : Row) → AreSet situation judging.settings.items → row.turn ≡ judged.turn
      → changes_in members situation.standing row.turn row.event ≡ option_to_list change → IsTrue answer ↔ IsTurnByArm members situation task row) where
    -- it isn't the task's
    pub arm_unwanted : answer ≡ false → StopsNext n table rows (IsTurnByArm n situation task) text text.number NotObeyed
    arm_unwanted isnt = record {
      line_is = refl;
      reason = out_of_place table rows old judging text rest judged comes;
      none = λ other goes wanted.
          let holds : answer ≡ true =
          (tells n situation other still_set (comes.one other goes ∙ comes.is.is.turn_is) (changes_there other goes ∙ sym same)).1 wanted in
          let both : true ≡ false = sym holds ∙ isnt in
          cc;
    }

    -- it was taken
    pub arm_taken : (new : Replay) (stopped : Option ℕ) → answer ≡ true → HasStoppedWithin stopped judged.turn → IsReplayAt table (rows ++ row ∷ []) new (after_turn n situation row)
        → TakesNext n table rows situation (IsTurnEnding n situation task stopped) new text rest
    arm_taken new stopped holds ended joins = record {
      row = row;
      turn = record {
        turn = (tells n situation row still_set comes.is.is.turn_is (changes_here ∙ sym same)).0 holds;
        ends = subst (HasStoppedWithin stopped) (sym comes.is.is.turn_is) ended;
      };
      text_is = comes.first.parts ∙ ap (λ line. line ++ 10 ∷ rest.text.now) comes.line_is;
      number = comes.number;
      ready = joins;
    }

-- ---- what a list of tasks keeps

-- as many or fewer are left
pub fewer_left : {X : Type 0} (p : X → Bool) (xs : List X) → length (filter p xs) ≤ length xs
fewer_left p [] = omega arith
fewer_left p (x ∷ xs) = elim (cases_Bool (p x)) [
  | inl is ↦ let less = fewer_left p xs in rw is (omega (arith, less))
  | inr isnt ↦ let less = fewer_left p xs in rw isnt (omega (arith, less))
]

pub none_left : (left : List Listed) → length left ≡ 0 → tasks_backwards left ≡ []
none_left [] none = refl
none_left (task ∷ left) none = absurd (omega (arith, none))
