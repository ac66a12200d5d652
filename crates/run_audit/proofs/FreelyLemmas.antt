-- Turns in no order that are taken one after another by the lines of a text.
use Rattle.std.proofs.Common.{◌≡◌, ◌+◌, ◌<◌, ◌≤◌, ◌^◌, not, ◌↔◌, IsTrue, ℕ, ℤ, Bool, true, false, List, [], ◌∷◌, ◌++◌, length, Option, None, Some, refl, sym, ap, ◌∙◌, subst, inl, inr, arith, append_assoc, append-nil as append_nil}
use Rattle.std.specs.List.{slice_get}
use Rattle.std.specs.Option.{option_to_list}
use Rattle.std.proofs.lemmas.Bool.{cases_lt}
use Rattle.std.proofs.lemmas.List.{length-append, length-map}
use Rattle.cron_io.specs.Lines.{text_of_lines}
use Rattle.zone_minutes.specs.declared.minute.Window.{Window}
use Rattle.due_set.proofs.SoundLemmas.{at_place as found_at}
use Rattle.due_set.specs.Table.{Table}
use Rattle.paxos_base.specs.declared.durable.Delta.{Delta}
use Rattle.launch_machine.specs.Clerk.{first_rows}
use Rattle.history.specs.Book.{Row, Standing, standing_after, turn_of}
use Rattle.history.specs.Legal.{IsLegal, MayFollow}
use Rattle.history.specs.declared.turn.Cause.{Cause}
use Rattle.journal_line.specs.Told.{ToldLine}
use Rattle.journal_text.specs.Journal.{turn_line}
use Rattle.script_semantics.proofs.SeenLemmas.{seen_passes, still_by_arm}
use Rattle.script_semantics.specs.Arms.{IsTurnByArm}
use Rattle.script_semantics.specs.Free.{IsFreePart, after_all_posted, course_of, next_cause}
use Rattle.script_semantics.specs.Situation.{Situation, Do, changes_in}
use Rattle.world_law.specs.Book.{posted_as}
use Rattle.run_replay.proofs.SettingLemmas.{seat_runs, some_same}
use Rattle.run_replay.specs.Judged.{IsJudged, changes_with}
use Rattle.run_replay.specs.Quiet.{runs_by_seat}
use Rattle.run_replay.specs.Replay.{IsInSituation, IsReplayAt}
use Rattle.run_replay.specs.declared.judge.Judged.{Judged}
use Rattle.run_replay.specs.declared.replay.Replay.{Replay}
use Rattle.run_replay.specs.declared.replay.Setting.{Setting}
use Rattle.run_audit.proofs.ByArmsLemmas.{changes_here, changes_there, still_set}
use Rattle.run_audit.proofs.ComingLemmas.{out_of_place}
use Rattle.run_audit.proofs.FreeLemmas.{free_more, free_stops, free_whole}
use Rattle.run_audit.proofs.PlayLemmas.{text_more}
use Rattle.run_audit.specs.Begins.{BeginsFree}
use Rattle.run_audit.specs.ByArms.{AreSet}
use Rattle.run_audit.specs.Coming.{ComesJudged, StopsNext}
use Rattle.run_audit.specs.Freely.{AreProgress, GoesNext, GoesNone, GoesNot, HasTakenFreely, IsNextOfAny, IsProgressIn, IsWaiting, SawLast, StopsFree, TakesFree, TakesWanted, course_now}
use Rattle.run_audit.specs.Played.{GoesOnWith, HasPlayedOn, PlaysPart, StopsPart, lines_from}
use Rattle.run_audit.specs.declared.free.Progress.{Progress}
use Rattle.run_audit.specs.declared.lines.Rest.{Rest}
use Rattle.run_audit.specs.declared.verdict.Stop.{Stop}
use Rattle.run_audit.specs.declared.verdict.Stop.TheVariants.{At, OutOfMemory}
use Rattle.run_audit.specs.declared.verdict.Why.TheVariants.{NotObeyed}
use Rattle.run_audit.proofs.ProgressLemmas.{here_then, is_own, none_else, progress_then, runs_then, saw_last, turn_back, whose}

-- ---- the next turn

-- the next turn of the text is that of some replica which has one left, and was taken
abbrev pub TakesFreely : ℕ → Table → ℤ → (turns : ℕ) → List Row → Situation → (part : List Row) → List Progress → Replay → (text rest : Rest) → Type 0
TakesFreely members table at turns rows situation part list new text rest =
    TakesWanted table (rows ++ part) (IsNextOfAny members table.window at turns situation part)
    (λ row. IsReplayAt table ((rows ++ part) ++ row ∷ []) new (after_all_posted members situation (part ++ row ∷ []))
    × AreProgress members turns situation (part ++ row ∷ []) list) text rest

module _ (table : Table) (at : ℤ) (turns : ℕ) (rows : List Row) (situation : Situation) (part : List Row) (old judging : Replay) (list : List Progress) (text rest : Rest) (judged : Judged)
    (is : IsReplayAt table (rows ++ part) old (after_all_posted old.book.members situation part)) (are : AreProgress old.book.members turns situation part list)
    (comes : ComesJudged table (rows ++ part) old judging text rest judged) where
  abbrev n : ℕ
  n = old.book.members

  abbrev now : Situation
  now = after_all_posted n situation part

  abbrev seen : ℕ → Situation
  seen who = (course_of n who situation part).seen

  -- what is set still is, where the turn was judged
  set_still : (who : ℕ) (setting : Setting) → slice_get old.settings.items who ≡ Some setting → slice_get judging.settings.items who ≡ Some setting
  set_still who setting there = ap (λ settings. slice_get settings.items who) comes.is.settings ∙ there

  setting_of : (who : ℕ) → who < n → (setting : Setting) × (slice_get old.settings.items who ≡ Some setting)
  setting_of who below = let set = is.seated.set in found_at old.settings.items who (omega (arith, below, set))

  -- **It is the next of none**, and none that has the line is.
  pub freely_unwanted : GoesNone table.window at turns judging list judged → StopsNext n table (rows ++ part) (IsNextOfAny n table.window at turns situation part) text text.number NotObeyed
  freely_unwanted none = record {
    line_is = refl;
    reason = out_of_place table (rows ++ part) old judging text rest judged comes;
    none = λ other goes wanted.
        let who = wanted.who in
        let count = are.count in
        let below = wanted.member in
        let (progress, listed) = found_at list who (omega (arith, count, below)) in
        let (setting, there) = setting_of who wanted.member in
        let come = are.each who progress listed in
        let turn : other.turn ≡ judged.turn = comes.one other goes ∙ comes.is.is.turn_is in
        none who (ap turn_of (sym turn) ∙ whose who other.turn wanted.own) progress listed
        (let taken = come.taken in let left = wanted.free.left in omega (arith, taken, left)) n now (seen who) other setting
        (still_set table (rows ++ part) old judging now text rest judged is comes) (set_still who setting there)
        (saw_last n situation part table (rows ++ part) old who setting progress is there come) turn
        (changes_there table (rows ++ part) old judging now text rest judged is comes other goes)
        (subst (λ (taken : ℕ). IsTurnByArm n now (Do who (next_cause table.window at who taken (seen who))) other) (sym come.taken)
        (still_by_arm n table.window at turns who situation part other wanted.free));
  }

  -- **It is the next of a replica**, and was taken.
  pub freely_taken : (who : ℕ) (new : Replay) (after : List Progress) → GoesNext table.window at turns judging list judged who → HasTakenFreely table judged who judging list new after
      → who < n → TakesFreely n table at turns rows situation part after new text rest
  freely_taken who new after goes taken below =
      let row = comes.is.row in
      let turn : row.turn ≡ judged.turn = comes.is.is.turn_is in
      let mine : turn_of row.turn ≡ Some who = ap turn_of turn ∙ goes.mine in
      let come = are.each who goes.progress goes.is in
      let (setting, there) = setting_of who below in
      let by : IsTurnByArm n now (Do who (next_cause table.window at who (course_of n who situation part).taken (seen who))) row =
      subst (λ (count : ℕ). IsTurnByArm n now (Do who (next_cause table.window at who count (seen who))) row) come.taken
      (goes.does n now (seen who) row setting (still_set table (rows ++ part) old judging now text rest judged is comes) (set_still who setting there)
      (saw_last n situation part table (rows ++ part) old who setting goes.progress is there come) turn
      (changes_here table (rows ++ part) old judging now text rest judged is comes)) in
      let passes = seen_passes n who situation part in
      let may : MayFollow n table now.standing row.turn row = subst (λ (s : Standing). MayFollow n table s row.turn row) (sym is.standing) comes.is.told_by.may in
      let ready : IsReplayAt table ((rows ++ part) ++ row ∷ []) new (after_all_posted n situation (part ++ row ∷ [])) =
      subst (IsReplayAt table ((rows ++ part) ++ row ∷ []) new) (sym (here_then n situation part row)) (taken.joins (rows ++ part) now comes.told old is comes.is) in
      let same : taken.progress ≡ goes.progress = some_same (slice_get list who) taken.progress goes.progress taken.is goes.is in
      record {
        row = row;
        next = record {
          who = who;
          member = below;
          own = is_own who row.turn mine;
          free = record {
            runs = sym passes.runs ∙ runs_then n table now who (next_cause table.window at who (course_of n who situation part).taken (seen who)) row by may;
            left = let count = come.taken in let left = goes.left in omega (arith, count, left);
            does = turn_back n who (seen who) now (next_cause table.window at who (course_of n who situation part).taken (seen who)) row passes by;
          };
        };
        text_is = comes.first.parts ∙ ap (λ line. line ++ 10 ∷ rest.text.now) comes.line_is;
        number = comes.number;
        leaves_so = (
          ready,
          progress_then n situation part row turns who list after goes.progress taken.next are mine goes.is goes.left taken.list
              (subst (λ (p : Progress). IsProgressIn (course_now (p.taken + 1) (after_all_posted n situation (part ++ row ∷ []))) who taken.next) same
              (taken.sees ((rows ++ part) ++ row ∷ []) (after_all_posted n situation (part ++ row ∷ [])) ready)),
        );
      }

-- ---- what a turn that was judged is

module _ (window : Window) (at : ℤ) (turns : ℕ) (replay : Replay) (list : List Progress) (judged : Judged) where
  pub none_member : turn_of judged.turn ≡ None → GoesNone window at turns replay list judged
  none_member none who mine = absurd (let both : None ≡ Some who = sym none ∙ mine in cc)

  module _ (who : ℕ) (mine : turn_of judged.turn ≡ Some who) (progress : Progress) (listed : slice_get list who ≡ Some progress) where
    alone : GoesNot window at turns replay list judged who → GoesNone window at turns replay list judged
    alone not other theirs = subst (GoesNot window at turns replay list judged) (some_same (turn_of judged.turn) who other mine theirs) not

    pub none_left_to_take : turns ≤ progress.taken → GoesNone window at turns replay list judged
    none_left_to_take past =
        alone
        (λ found there left members here seen row setting set held saw turn changes wanted.
        let same : found.taken ≡ progress.taken = ap (λ (p : Progress). p.taken) (some_same (slice_get list who) found progress there listed) in
        omega (arith, same, left, past))

    module _ (setting : Setting) (set : slice_get replay.settings.items who ≡ Some setting) (cause : Cause) (answer : Bool) (change : Option Delta)
        (same : option_to_list change ≡ changes_with judged.out.delta judged.lost) (next : (seen : Situation) → SawLast who seen setting progress → cause ≡ next_cause window at who progress.taken seen)
        (tells : (members : ℕ) (situation : Situation) (row : Row) → AreSet situation replay.settings.items → row.turn ≡ judged.turn → changes_in members situation.standing row.turn row.event ≡ option_to_list change
        → IsTrue answer ↔ IsTurnByArm members situation (Do who cause) row) where
      pub none_does : answer ≡ false → GoesNone window at turns replay list judged
      none_does isnt =
          alone
          (λ found there left members here seen row given are held saw turn changes wanted.
          let one : found ≡ progress = some_same (slice_get list who) found progress there listed in
          let two : given ≡ setting = some_same (slice_get replay.settings.items who) given setting held set in
          let saw_so : SawLast who seen setting progress = subst (λ (s : Setting). SawLast who seen s progress) two (subst (SawLast who seen given) one saw) in
          let wants : IsTurnByArm members here (Do who (next_cause window at who progress.taken seen)) row =
          subst (λ (p : Progress). IsTurnByArm members here (Do who (next_cause window at who p.taken seen)) row) one wanted in
          let holds : answer ≡ true =
          (tells members here row are turn (changes ∙ sym same)).1 (subst (λ why. IsTurnByArm members here (Do who why) row) (sym (next seen saw_so)) wants) in
          let both : true ≡ false = sym holds ∙ isnt in
          cc)

      pub goes_next : answer ≡ true → progress.taken < turns → GoesNext window at turns replay list judged who
      goes_next holds left = record {
        mine = mine;
        progress = progress;
        is = listed;
        left = left;
        does = λ members here seen row given are held saw turn changes.
            let two : given ≡ setting = some_same (slice_get replay.settings.items who) given setting held set in
            let saw_so : SawLast who seen setting progress = subst (λ (s : Setting). SawLast who seen s progress) two saw in
            subst (λ why. IsTurnByArm members here (Do who why) row) (next seen saw_so) ((tells members here row are turn (changes ∙ sym same)).0 holds);
      }

-- the letters of a turn that was judged join the mails from its own first on
pub first_of_turn : (table : Table) (rows : List Row) (told : ToldLine) (start judging : Replay) (situation : Situation) (judged : Judged) → IsReplayAt table rows start situation
    → IsJudged table rows told start judging judged → length judging.book.letters ≡ length situation.standing.posted
first_of_turn table rows told start judging situation judged here is =
    sym (length-map judging.book.letters posted_as) ∙ ap length is.behind.letters
    ∙ ap (λ (n : ℕ). length (standing_after n (first_rows table) rows).posted) is.members
    ∙ ap (λ (s : Standing). length s.posted) (sym here.standing)

-- ---- one after another

-- the first turns of a part have been taken by the lines of a text
pub record BegunFreely (members : ℕ) (table : Table) (at : ℤ) (turns : ℕ) (rows : List Row) (situation : Situation) (list : List Progress) (now : Replay) (text rest : Rest) : Type 0 where
  pub part : List Row
  pub begins : BeginsFree members table.window at turns situation part
  pub progress : AreProgress members turns situation part list
  pub text_is : text.text.now ≡ text_of_lines (lines_from table (length rows) part) ++ rest.text.now
  pub number : rest.number ≡ text.number + length part
  pub ready : IsReplayAt table (rows ++ part) now (after_all_posted members situation part)

pub record HasBegunFreely (table : Table) (at : ℤ) (turns : ℕ) (old now : Replay) (list : List Progress) (text rest : Rest) : Type 0 where
  pub members : now.book.members ≡ old.book.members
  pub few : rest.number + length rest.text.now < 2 ^ 32
  pub count : length list ≡ old.book.members
  pub begun : (rows : List Row) (situation : Situation) → IsReplayAt table rows old situation → BegunFreely old.book.members table at turns rows situation list now text rest

none_begun : (members : ℕ) (window : Window) (at : ℤ) (turns : ℕ) (situation : Situation) → BeginsFree members window at turns situation []
none_begun members window at turns situation = record {
  named = λ place row there. absurd (let none : None ≡ Some row = there in cc);
  each = λ who below place row there own. absurd (let none : None ≡ Some row = there in cc);
}

pub freely_none : (table : Table) (at : ℤ) (turns : ℕ) (old : Replay) (list : List Progress) (text : Rest) → text.number + length text.text.now < 2 ^ 32 → IsInSituation table old
    → ((table : Table) (turns : ℕ) (rows : List Row) (situation : Situation) → IsReplayAt table rows old situation → AreProgress old.book.members turns situation [] list)
    → HasBegunFreely table at turns old old list text text
freely_none table at turns old list text few ready are = record {
  members = refl;
  few = few;
  count = (are table turns ready.rows ready.situation ready.is).count;
  begun = λ rows situation is. record {
    part = [];
    begins = none_begun old.book.members table.window at turns situation;
    progress = are table turns rows situation is;
    text_is = refl;
    number = let same : text.number ≡ text.number + 0 = omega arith in same;
    ready = subst (λ (l : List Row). IsReplayAt table l old situation) (sym (append_nil rows)) is;
  };
}

pub freely_ready : (table : Table) (at : ℤ) (turns : ℕ) (old now : Replay) (list : List Progress) (text rest : Rest) → HasBegunFreely table at turns old now list text rest → IsInSituation table old
    → IsInSituation table now
freely_ready table at turns old now list text rest so_far ready =
    let had = so_far.begun ready.rows ready.situation ready.is in
    record { rows = ready.rows ++ had.part; situation = after_all_posted old.book.members ready.situation had.part; is = had.ready }

pub freely_next : (table : Table) (at : ℤ) (turns : ℕ) (old now new : Replay) (list after : List Progress) (text rest behind : Rest) → HasBegunFreely table at turns old now list text rest
    → TakesFree table at turns now list new after rest behind → new.book.members ≡ now.book.members → behind.number + length behind.text.now < 2 ^ 32 → length after ≡ now.book.members
    → HasBegunFreely table at turns old new after text behind
freely_next table at turns old now new list after text rest behind so_far takes members few count = record {
  members = members ∙ so_far.members;
  few = few;
  count = count ∙ so_far.members;
  begun = λ rows situation is.
      let n = old.book.members in
      let had = so_far.begun rows situation is in
      let next : TakesFreely n table at turns rows situation had.part after new rest behind =
      subst (λ (m : ℕ). IsReplayAt table (rows ++ had.part) now (after_all_posted m situation had.part) → AreProgress m turns situation had.part list
      → TakesFreely m table at turns rows situation had.part after new rest behind) so_far.members (takes rows situation had.part) had.ready had.progress in
      let size : length (rows ++ had.part) ≡ length rows + length had.part = length-append rows had.part in
      let total : length (had.part ++ next.row ∷ []) ≡ length had.part + 1 = length-append had.part (next.row ∷ []) in
      let first = had.number in
      let second = next.number in
      let who = next.next.who in
      record {
        part = had.part ++ next.row ∷ [];
        begins =
            free_more n table.window at turns situation had.part next.row who had.begins next.next.member next.next.own
            (none_else who next.row.turn (whose who next.row.turn next.next.own)) next.next.free;
        progress = next.leaves_so.1;
        text_is =
            had.text_is ∙ ap (λ more. text_of_lines (lines_from table (length rows) had.part) ++ more) next.text_is
            ∙ ap (λ (k : ℕ). text_of_lines (lines_from table (length rows) had.part) ++ (turn_line table (k, next.row.turn) ++ 10 ∷ behind.text.now)) size
            ∙ text_more table (length rows) had.part next.row behind.text.now;
        number = omega (arith, first, second, total);
        ready = subst (λ (l : List Row). IsReplayAt table l new (after_all_posted n situation (had.part ++ next.row ∷ []))) (append_assoc rows had.part (next.row ∷ [])) next.leaves_so.0;
      };
}

-- nobody has a turn left
pub freely_all : (table : Table) (at : ℤ) (turns : ℕ) (old now : Replay) (list : List Progress) (text rest : Rest) → HasBegunFreely table at turns old now list text rest
    → ((who : ℕ) → IsWaiting turns now list who → ⊥) → HasPlayedOn table (IsFreePart old.book.members table.window at turns) old text now rest
freely_all table at turns old now list text rest so_far none = record { plays = plays; members = so_far.members; few = so_far.few }
  where
    all : (rows : List Row) (situation : Situation) (had : BegunFreely old.book.members table at turns rows situation list now text rest) (who : ℕ) → who < old.book.members
        → (course_of old.book.members who situation had.part).seen.standing.runs who ≡ true → (course_of old.book.members who situation had.part).taken ≡ turns
    all rows situation had who below runs =
        let count = had.progress.count in
        let (progress, listed) = found_at list who (omega (arith, count, below)) in
        let seats = had.ready.seated.count in
        let members = so_far.members in
        let (seat, there) = found_at now.seats.items who (omega (arith, seats, members, below)) in
        let passes = seen_passes old.book.members who situation had.part in
        let running : runs_by_seat seat ≡ true =
        sym (seat_runs table (rows ++ had.part) now (after_all_posted old.book.members situation had.part) who seat had.ready there) ∙ passes.runs ∙ runs in
        let taken = (had.progress.each who progress listed).taken in
        let most = had.progress.most who progress listed in
        elim (cases_lt progress.taken turns) [
          | inl left ↦ absurd (none who (record { seat = seat; there = there; runs = running; progress = progress; is = listed; left = left }))
          | inr past ↦ omega (arith, taken, most, past)
        ]

    plays : PlaysPart table (IsFreePart old.book.members table.window at turns) old text now rest
    plays rows situation is =
        let had = so_far.begun rows situation is in
        record {
          part = had.part;
          after = after_all_posted old.book.members situation had.part;
          is = free_whole old.book.members table.window at turns situation had.part had.begins (all rows situation had);
          text_is = had.text_is;
          number = had.number;
          ready = had.ready;
        }

-- the next line isn't that of a replica's next turn
pub freely_stops : (table : Table) (at : ℤ) (turns who : ℕ) (old now : Replay) (list : List Progress) (text rest : Rest) (stop : Stop) → HasBegunFreely table at turns old now list text rest
    → who < now.book.members → IsWaiting turns now list who → StopsFree table at turns now list rest stop
    → StopsPart table (BeginsFree old.book.members table.window at turns) (IsFreePart old.book.members table.window at turns) old text stop
freely_stops table at turns who old now list text rest OutOfMemory so_far below waiting stops = tt
freely_stops table at turns who old now list text rest (At line why) so_far below waiting stops = λ rows situation is.
    let n = old.book.members in
    let had = so_far.begun rows situation is in
    let stopped : StopsNext n table (rows ++ had.part) (IsNextOfAny n table.window at turns situation had.part) rest line why =
    subst (λ (m : ℕ). IsReplayAt table (rows ++ had.part) now (after_all_posted m situation had.part) → AreProgress m turns situation had.part list
    → StopsNext m table (rows ++ had.part) (IsNextOfAny m table.window at turns situation had.part) rest line why) so_far.members (stops rows situation had.part) had.ready had.progress in
    let legal : IsLegal n table (rows ++ had.part) = subst (λ (m : ℕ). IsLegal m table (rows ++ had.part)) so_far.members had.ready.behind.legal in
    let come = had.progress.each who waiting.progress waiting.is in
    let passes = seen_passes n who situation had.part in
    let runs : (course_of n who situation had.part).seen.standing.runs who ≡ true =
    sym passes.runs ∙ seat_runs table (rows ++ had.part) now (after_all_posted n situation had.part) who waiting.seat had.ready waiting.there ∙ waiting.runs in
    record {
      part = had.part;
      legal = legal;
      rest = rest.text.now;
      stops =
          free_stops n table.window at turns situation had.part who (GoesOnWith n table (rows ++ had.part) rest.text.now) had.begins (subst (λ (m : ℕ). who < m) so_far.members below) runs
          (let taken = come.taken in let left = waiting.left in omega (arith, taken, left))
          (λ row other goes member own free. stopped.none row goes (record { who = other; member = member; own = own; free = free }));
      text_is = had.text_is;
      line_is = stopped.line_is ∙ had.number;
      reason = stopped.reason;
    }
