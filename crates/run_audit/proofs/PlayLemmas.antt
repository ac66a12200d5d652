-- Turns of tasks that are taken one after another by the lines of a text.
use Rattle.std.proofs.Common.{◌≡◌, ◌+◌, ◌<◌, ◌≤◌, ◌^◌, ℕ, List, [], ◌∷◌, ◌++◌, length, map, Result, Ok, Err, take, drop, get_or, suc, refl, sym, ap, ◌∙◌, subst, arith, append_assoc, add-one, append-nil as append_nil}
use Rattle.std.specs.List.{enumerate_from}
use Rattle.std.specs.Prelude.{IsErrAnd}
use Rattle.std.proofs.Math.Seq.{drop-cons, take-suc}
use Rattle.std.proofs.lemmas.List.{length-append, length-map, map-append, take-append-drop, take_all}
use Rattle.std.proofs.lemmas.List.Sums.{fold_push}
use Rattle.cron_io.proofs.LineLemmas.{text_of_lines-append}
use Rattle.cron_io.specs.Lines.{text_of_lines}
use Rattle.due_set.specs.Table.{Table}
use Rattle.history.specs.Book.{Row}
use Rattle.history.specs.Legal.{IsLegal}
use Rattle.history.specs.declared.turn.Cause.TheVariants.{Campaign}
use Rattle.history.specs.declared.turn.Turn.{Turn}
use Rattle.world_law.specs.Book.{BookState, posted_as}
use Rattle.journal_text.specs.Journal.{turn_line}
use Rattle.script_semantics.specs.Parts.{Plays}
use Rattle.script_semantics.specs.Situation.{AreTurnsFor, IsTurnFor, Situation, Task, after_turn, after_turns, delivered}
use Rattle.run_replay.proofs.SettingLemmas.{posted_are}
use Rattle.run_replay.specs.Replay.{IsInSituation, IsReplayAt}
use Rattle.run_replay.specs.Settings.{ChangesReplay}
use Rattle.run_replay.specs.Tasks.{task_of, tasks_in}
use Rattle.run_replay.specs.declared.replay.Replay.{Replay}
use Rattle.run_replay.specs.declared.tasks.Task.{Task as Listed}
use Rattle.run_replay.specs.declared.tasks.Task.TheVariants as listed
use Rattle.run_audit.proofs.StopLemmas.{plays_stop}
use Rattle.run_audit.specs.Begins.{BeginsToPlay}
use Rattle.run_audit.specs.Coming.{StopsNext, StopsTask, TakesNext, TakesTask}
use Rattle.run_audit.specs.Played.{ComesOf, GoesOnWith, HasPlayedOn, PlaysPart, StopsPart, lines_from}
use Rattle.run_audit.specs.Sound.{turns_of}
use Rattle.run_audit.specs.declared.lines.Rest.{Rest}
use Rattle.run_audit.specs.declared.verdict.Stop.{Stop}
use Rattle.run_audit.specs.declared.verdict.Stop.TheVariants.{At, OutOfMemory}

-- ---- lines

-- the lines of rows, and of one more
enumerate_more : {X : Type 0} (first : ℕ) (xs : List X) (x : X) → enumerate_from first (xs ++ x ∷ []) ≡ enumerate_from first xs ++ (first + length xs, x) ∷ []
enumerate_more first [] x = let same : first + 0 ≡ first = omega arith in ap (λ (n : ℕ). (n, x) ∷ []) (sym same)
enumerate_more first (y ∷ ys) x =
    let same : (first + 1) + length ys ≡ first + length (y ∷ ys) = omega arith in
    ap (λ rest. (first, y) ∷ rest) (enumerate_more (first + 1) ys x ∙ ap (λ (n : ℕ). enumerate_from (first + 1) ys ++ (n, x) ∷ []) same)

lines_more : (table : Table) (first : ℕ) (part : List Row) (row : Row) → lines_from table first (part ++ row ∷ []) ≡ lines_from table first part ++ turn_line table (first + length part, row.turn) ∷ []
lines_more table first part row =
    ap (λ (turns : List Turn). map (turn_line table) (enumerate_from first turns)) (map-append (λ (row : Row). row.turn) part (row ∷ []))
    ∙ ap (map (turn_line table)) (enumerate_more first (turns_of part) row.turn)
    ∙ map-append (turn_line table) (enumerate_from first (turns_of part)) ((first + length (turns_of part), row.turn) ∷ [])
    ∙ ap (λ (n : ℕ). lines_from table first part ++ turn_line table (first + n, row.turn) ∷ []) (length-map part (λ (row : Row). row.turn))

pub text_more : (table : Table) (first : ℕ) (part : List Row) (row : Row) (rest : List ℕ)
    → text_of_lines (lines_from table first part) ++ (turn_line table (first + length part, row.turn) ++ 10 ∷ rest) ≡ text_of_lines (lines_from table first (part ++ row ∷ [])) ++ rest
text_more table first part row rest =
    let line = turn_line table (first + length part, row.turn) in
    let front = text_of_lines (lines_from table first part) in
    ap (λ more. front ++ more) (sym (append_assoc line (10 ∷ []) rest))
    ∙ sym (append_assoc front (line ++ 10 ∷ []) rest)
    ∙ ap (λ more. (front ++ more) ++ rest) (sym (append_nil (line ++ 10 ∷ [])))
    ∙ ap (λ whole. whole ++ rest) (sym (text_of_lines-append (lines_from table first part) (line ∷ [])))
    ∙ ap (λ lines. text_of_lines lines ++ rest) (sym (lines_more table first part row))

-- ---- stops

-- a stop that is handed on
pub comes_err : {X : Type 0} (table : Table) (begins : Situation → List Row → Type 0) (whole : Situation → List Row → Situation → Type 0) (old : Replay) (text : Rest) (new : Replay) (rest : Rest)
    (result : Result X Stop) (stop : Stop) → IsErrAnd result (λ found. found ≡ stop) → StopsPart table begins whole old text stop → ComesOf table begins whole old text new rest result
comes_err table begins whole old text new rest (Ok done) stop is stops = absurd is
comes_err table begins whole old text new rest (Err found) stop is stops = subst (StopsPart table begins whole old text) (sym is) stops

-- want of memory
pub comes_out : {X : Type 0} (table : Table) (begins : Situation → List Row → Type 0) (whole : Situation → List Row → Situation → Type 0) (old : Replay) (text : Rest) (new : Replay) (rest : Rest)
    (result : Result X Stop) → IsErrAnd result (λ found. found ≡ OutOfMemory) → ComesOf table begins whole old text new rest result
comes_out table begins whole old text new rest result is = comes_err table begins whole old text new rest result OutOfMemory is tt

-- ---- tasks, one after another

turns_more : (members : ℕ) (situation : Situation) (done : List Task) (part : List Row) (task : Task) (row : Row) → AreTurnsFor members situation done part
    → IsTurnFor (after_turns members situation part).fates task row.turn → AreTurnsFor members situation (done ++ task ∷ []) (part ++ row ∷ [])
turns_more members situation [] [] task row are turn = (turn, refl)
turns_more members situation [] (other ∷ part) task row are turn = absurd cc
turns_more members situation (first ∷ done) [] task row are turn = absurd cc
turns_more members situation (first ∷ done) (other ∷ part) task row are turn = (are.0, turns_more members (after_turn members situation other) done part task row are.1 turn)

-- the turns of the first tasks have been taken by the lines of a text
pub record BegunWith (members : ℕ) (table : Table) (rows : List Row) (situation : Situation) (done : List Task) (now : Replay) (text rest : Rest) : Type 0 where
  pub part : List Row
  pub turns : AreTurnsFor members situation done part
  pub text_is : text.text.now ≡ text_of_lines (lines_from table (length rows) part) ++ rest.text.now
  pub number : rest.number ≡ text.number + length part
  pub ready : IsReplayAt table (rows ++ part) now (after_turns members situation part)

pub record HasBegun (table : Table) (old now : Replay) (text rest : Rest) (done : List Task) : Type 0 where
  pub members : now.book.members ≡ old.book.members
  pub few : rest.number + length rest.text.now < 2 ^ 32
  pub begun : (rows : List Row) (situation : Situation) → IsReplayAt table rows old situation → BegunWith old.book.members table rows situation done now text rest

pub begun_none : (table : Table) (old : Replay) (text : Rest) → text.number + length text.text.now < 2 ^ 32 → HasBegun table old old text text []
begun_none table old text few = record {
  members = refl;
  few = few;
  begun = λ rows situation is. record {
    part = [];
    turns = refl;
    text_is = refl;
    number = let same : text.number ≡ text.number + 0 = omega arith in same;
    ready = subst (λ (l : List Row). IsReplayAt table l old situation) (sym (append_nil rows)) is;
  };
}

pub begun_next : (table : Table) (old now new : Replay) (text rest behind : Rest) (done : List Task) (task : Task) → HasBegun table old now text rest done → TakesTask table task now new rest behind
    → new.book.members ≡ now.book.members → behind.number + length behind.text.now < 2 ^ 32 → HasBegun table old new text behind (done ++ task ∷ [])
begun_next table old now new text rest behind done task so_far takes members few = record {
  members = members ∙ so_far.members;
  few = few;
  begun = λ rows situation is.
      let had = so_far.begun rows situation is in
      let next : TakesNext now.book.members table (rows ++ had.part) (after_turns old.book.members situation had.part) (λ row. IsTurnFor (after_turns old.book.members situation had.part).fates task row.turn) new rest behind =
      takes (rows ++ had.part) (after_turns old.book.members situation had.part) had.ready in
      let size : length (rows ++ had.part) ≡ length rows + length had.part = length-append rows had.part in
      let total : length (had.part ++ next.row ∷ []) ≡ length had.part + 1 = length-append had.part (next.row ∷ []) in
      let first = had.number in
      let second = next.number in
      record {
        part = had.part ++ next.row ∷ [];
        turns = turns_more old.book.members situation done had.part task next.row had.turns next.turn;
        text_is =
            had.text_is ∙ ap (λ more. text_of_lines (lines_from table (length rows) had.part) ++ more) next.text_is
            ∙ ap (λ (n : ℕ). text_of_lines (lines_from table (length rows) had.part) ++ (turn_line table (n, next.row.turn) ++ 10 ∷ behind.text.now)) size
            ∙ text_more table (length rows) had.part next.row behind.text.now;
        number = omega (arith, first, second, total);
        ready = subst (λ (l : List Row). IsReplayAt table l new (after_turns old.book.members situation (had.part ++ next.row ∷ []))) (append_assoc rows had.part (next.row ∷ []))
            (subst (λ (s : Situation). IsReplayAt table ((rows ++ had.part) ++ next.row ∷ []) new s) (sym (fold_push (after_turn old.book.members) situation had.part next.row))
            (subst (λ (n : ℕ). IsReplayAt table ((rows ++ had.part) ++ next.row ∷ []) new (after_turn n (after_turns old.book.members situation had.part) next.row)) so_far.members next.ready));
      };
}

pub begun_ready : (table : Table) (old now : Replay) (text rest : Rest) (done : List Task) → HasBegun table old now text rest done → IsInSituation table old → IsInSituation table now
begun_ready table old now text rest done so_far ready =
    let had = so_far.begun ready.rows ready.situation ready.is in
    record { rows = ready.rows ++ had.part; situation = after_turns old.book.members ready.situation had.part; is = had.ready }

-- all have been taken, and their letters have joined the mails
pub begun_all : (table : Table) (old now new : Replay) (text rest : Rest) (tasks : List Task) (first : ℕ) → HasBegun table old now text rest tasks → first ≡ length old.book.letters → ChangesReplay (delivered first) now new
    → new.book ≡ now.book → HasPlayedOn table (Plays old.book.members (λ situation. tasks)) old text new rest
begun_all table old now new text rest tasks first so_far all delivers book = record { plays = plays; members = ap (λ (book : BookState). book.members) book ∙ so_far.members; few = so_far.few }
  where
    plays : PlaysPart table (Plays old.book.members (λ situation. tasks)) old text new rest
    plays rows situation is =
        let had = so_far.begun rows situation is in
        let posted : first ≡ length situation.standing.posted = all ∙ sym (length-map old.book.letters posted_as) ∙ ap length (sym (posted_are table rows old situation is)) in
        record {
          part = had.part;
          after = delivered first (after_turns old.book.members situation had.part);
          is = record { turns = had.turns; is = ap (λ (n : ℕ). delivered n (after_turns old.book.members situation had.part)) posted };
          text_is = had.text_is;
          number = had.number;
          ready = delivers table (rows ++ had.part) (after_turns old.book.members situation had.part) had.ready;
        }

-- the next task's turn isn't the next
pub begun_stops : (table : Table) (old now : Replay) (text rest : Rest) (done : List Task) (task : Task) (left : List Task) (stop : Stop) → HasBegun table old now text rest done → StopsTask table task now rest stop
    → StopsPart table (BeginsToPlay old.book.members (λ situation. done ++ task ∷ left)) (Plays old.book.members (λ situation. done ++ task ∷ left)) old text stop
begun_stops table old now text rest done task left OutOfMemory so_far stops = tt
begun_stops table old now text rest done task left (At line why) so_far stops = λ rows situation is.
    let members = old.book.members in
    let asked : Situation → List Task = λ here. done ++ task ∷ left in
    let had = so_far.begun rows situation is in
    let stopped : StopsNext members table (rows ++ had.part) (λ row. IsTurnFor (after_turns members situation had.part).fates task row.turn) rest line why =
    subst (λ (n : ℕ). StopsNext n table (rows ++ had.part) (λ row. IsTurnFor (after_turns members situation had.part).fates task row.turn) rest line why) so_far.members
    (stops (rows ++ had.part) (after_turns members situation had.part) had.ready) in
    let legal : IsLegal members table (rows ++ had.part) = subst (λ (n : ℕ). IsLegal n table (rows ++ had.part)) so_far.members had.ready.behind.legal in
    record {
      part = had.part;
      legal = legal;
      rest = rest.text.now;
      stops = plays_stop members asked situation done task left had.part (GoesOnWith members table (rows ++ had.part) rest.text.now) refl had.turns stopped.none;
      text_is = had.text_is;
      line_is = stopped.line_is ∙ had.number;
      reason = stopped.reason;
    }

-- ---- places of a list of tasks

-- what a read past the end would give
abbrev pub default_task : Listed
default_task = listed.Do 0 Campaign

pub tasks_more : (tasks : List Listed) (place : ℕ) → place < length tasks → tasks_in (take place tasks) ++ task_of (get_or tasks place default_task) ∷ [] ≡ tasks_in (take (place + 1) tasks)
tasks_more tasks place below =
    sym (ap tasks_in (ap (λ n. take n tasks) (add-one place) ∙ take-suc tasks place default_task below) ∙ map-append task_of (take place tasks) (get_or tasks place default_task ∷ []))

pub tasks_split : (tasks : List Listed) (place : ℕ) → place < length tasks
    → tasks_in (take place tasks) ++ task_of (get_or tasks place default_task) ∷ tasks_in (drop (suc place) tasks) ≡ tasks_in tasks
tasks_split tasks place below =
    sym (map-append task_of (take place tasks) (get_or tasks place default_task ∷ drop (suc place) tasks))
    ∙ ap (λ more. tasks_in (take place tasks ++ more)) (sym (drop-cons tasks place default_task below))
    ∙ ap tasks_in (take-append-drop place tasks)

-- all of them
pub tasks_whole : (tasks : List Listed) (place : ℕ) → length tasks ≤ place → tasks_in (take place tasks) ≡ tasks_in tasks
tasks_whole tasks place past = ap tasks_in (take_all place tasks past)
