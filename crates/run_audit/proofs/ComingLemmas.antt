-- What a text goes on with behind a replay.
use Rattle.std.proofs.Common.{◌≡◌, ◌+◌, ◌<◌, ◌^◌, ◌↔◌, Bool, IsTrue, false, true, ℕ, IfSome, List, [], ◌∷◌, ◌++◌, length, Option, None, Some, refl, sym, ap, ◌∙◌, subst, inl, inr, arith}
use Rattle.std.specs.List.{slice_get}
use Rattle.std.proofs.lemmas.List.{append_cancel_left, length-map}
use Rattle.std.proofs.lemmas.Option.{slice_get_within}
use Rattle.std.specs.Prelude.{decimal}
use Rattle.cluster_sched.specs.declared.fate.Fate.{Fate}
use Rattle.due_set.specs.Table.{Table}
use Rattle.script_text.proofs.CutLemmas.{lacks_none, same_cut}
use Rattle.history.specs.Book.{Row, Standing}
use Rattle.history.specs.Legal.{IsEventOfCause, MayFollow}
use Rattle.history.specs.declared.turn.CallRow.{CallRow}
use Rattle.history.specs.declared.turn.Cause.{Cause}
use Rattle.history.specs.declared.turn.Cause.TheVariants.{Campaign, Tick, Hear, Answer}
use Rattle.history.specs.declared.turn.Turn.{Turn}
use Rattle.history.specs.declared.turn.Turn.TheVariants.{Did, Stopped, Restarted, Arrived}
use Rattle.step_spec.specs.Step.{Event}
use Rattle.journal_line.specs.Line.{IsJournalLine}
use Rattle.journal_line.specs.Told.{ToldLine}
use Rattle.journal_text.specs.Journal.{turn_line, turn_words}
use Rattle.journal_text.specs.Line.{HasUnblankNames, Tells}
use Rattle.journal_text.specs.Told.{HasNumbers, IsNumbered}
use Rattle.journal_text.proofs.LineLemmas.{line_of_turn, read_back, written}
use Rattle.journal_text.proofs.TurnLemmas.{same_turn}
use Rattle.script_semantics.specs.Situation.{Does, IsTurnFor, Situation, Task, after_turn}
use Rattle.world_law.proofs.Called.{late_at_rest}
use Rattle.world_law.specs.Book.{call_of, posted_as, standing_behind}
use Rattle.run_replay.specs.Judged.{IsJudged, IsNone}
use Rattle.run_replay.specs.Replay.{IsReplayAt}
use Rattle.run_replay.specs.declared.judge.Judged.{Judged}
use Rattle.run_replay.specs.declared.replay.Replay.{Replay}
use Rattle.run_audit.specs.Coming.{ComesJudged, ComesNone, HaveFates, IsRefusalOf, StopsNext, TakesNext}
use Rattle.run_audit.specs.Played.{GoesOnWith, IsNextReason}
use Rattle.run_audit.specs.Reading.{GoesOnBadly, IsLineFirst}
use Rattle.run_audit.specs.Verdict.{LacksNewline, MayComeNextAs}
use Rattle.run_audit.specs.declared.lines.Rest.{Rest}
use Rattle.run_audit.specs.declared.verdict.Why.{Why}
use Rattle.run_audit.specs.declared.verdict.Why.TheVariants.{BadLine, NotLegal, NotObeyed, Missing}

-- ---- the numbers of a turn that may come next

cause_numbers : (members : ℕ) (table : Table) (standing : Standing) (who : ℕ) (cause : Cause) (event : Event) → length standing.posted < 2 ^ 64 → IsEventOfCause members table standing who cause event → IsNumbered cause
cause_numbers members table standing who Campaign event letters is = tt
cause_numbers members table standing who (Tick now) event letters is = tt
cause_numbers members table standing who (Hear letter) event letters is = let within = slice_get_within standing.posted letter is.letter is.there in omega (arith, within, letters)
cause_numbers members table standing who Answer event letters is = tt

pub turn_numbers : (members : ℕ) (table : Table) (standing : Standing) (turn : Turn) (row : Row) → length standing.posted < 2 ^ 64 → length standing.late < 2 ^ 64 → MayFollow members table standing turn row → HasNumbers turn
turn_numbers members table standing (Did who cause made) row letters late may = cause_numbers members table standing who cause row.event letters may.0.event_of
turn_numbers members table standing (Stopped who None kept) row letters late may = tt
turn_numbers members table standing (Stopped who (Some cause) kept) row letters late may = cause_numbers members table standing who cause row.event letters may.0.event_of
turn_numbers members table standing (Restarted who) row letters late may = tt
turn_numbers members table standing (Arrived number) row letters late may = let within = slice_get_within standing.late number may.0.row may.0.there in omega (arith, within, late)

-- ---- lines

pub no_end : (line behind : List ℕ) → [] ≡ line ++ 10 ∷ behind → ⊥
no_end [] behind same = cc
no_end (byte ∷ line) behind same = cc

-- of a text that begins with a line there is one
pub first_one : (text line other rest behind : List ℕ) → IsLineFirst text line rest → IsLineFirst text other behind → line ≡ other
first_one text line other rest behind a b = (same_cut 10 line other rest behind a.lacks b.lacks (sym a.parts ∙ b.parts)).0

pub words_one : (table : Table) (number : ℕ) (a b : Turn) → turn_line table (number, a) ≡ turn_line table (number, b) → turn_words table a ≡ turn_words table b
words_one table number a b same =
    let rest : 32 ∷ turn_words table a ≡ 32 ∷ turn_words table b = append_cancel_left (decimal number) (32 ∷ turn_words table a) (32 ∷ turn_words table b) same in
    cc

-- ---- behind a replay

module _ (table : Table) (rows : List Row) (replay : Replay) (situation : Situation) (is : IsReplayAt table rows replay situation) (names : HasUnblankNames table)
    (few : length replay.book.turns < 2 ^ 64) (letters : length replay.book.letters < 2 ^ 64) (late : length replay.book.ledger.late < 2 ^ 64) where
  abbrev here : Standing
  here = standing_behind table rows replay.book

  number_small : length rows < 2 ^ 64
  number_small = subst (λ (n : ℕ). n < 2 ^ 64) (ap length is.behind.turns ∙ length-map _ _) few

  numbers : (row : Row) → MayFollow replay.book.members table here row.turn row → HasNumbers row.turn
  numbers row may =
      turn_numbers replay.book.members table here row.turn row
      (subst (λ (n : ℕ). n < 2 ^ 64) (sym (length-map replay.book.letters posted_as) ∙ ap length is.behind.letters) letters)
      (subst (λ (n : ℕ). n < 2 ^ 64) (ap length (late_at_rest table rows replay.book is.rest is.behind)) late) may

  -- a line that tells something tells the turn that has it
  tells : (row : Row) (told : ToldLine) → MayFollow replay.book.members table here row.turn row → IsJournalLine told (turn_line table (length rows, row.turn)) → Tells table (length rows) row.turn told
  tells row told may read = read_back replay.book.members (length rows) table here row told is.few is.sound.limits names may (numbers row may) number_small read

  -- it goes on badly
  pub comes_bad : (text : List ℕ) → GoesOnBadly text → ComesNone replay.book.members table rows text BadLine
  comes_bad text bad = record { reason = bad; none = none bad }
    where
      none : GoesOnBadly text → (row : Row) → GoesOnWith replay.book.members table rows text row → ⊥
      none (inl (line, rest, first, lacks)) row goes =
          let told = line_of_turn replay.book.members (length rows) table here row is.few is.sound.limits names goes.may (numbers row goes.may) number_small in
          lacks told.0 (subst (IsJournalLine told.0) (sym (first_one text line (turn_line table (length rows, row.turn)) rest goes.behind first goes.first)) told.2)
      none (inr (some, lacks)) row goes = lacks_none 10 (turn_line table (length rows, row.turn)) goes.behind (subst LacksNewline goes.first.parts lacks)

  -- it ends
  pub comes_end : (text : List ℕ) → text ≡ [] → ComesNone replay.book.members table rows text Missing
  comes_end text ends = record {
    reason = ends;
    none = λ row goes. no_end (turn_line table (length rows, row.turn)) goes.behind (sym ends ∙ goes.first.parts);
  }

  -- no turn that may come next has the line
  none_has : (line : List ℕ) (told : ToldLine) → IsJournalLine told line → IsNone table rows replay told → MayComeNextAs replay.book.members table rows line → ⊥
  none_has line told read none next = none next.row (record { may = next.may; tells = tells next.row told next.may (subst (IsJournalLine told) (sym next.is) read) })

  refusal : (text line rest : List ℕ) (told : ToldLine) (why : Why) → IsLineFirst text line rest → IsJournalLine told line → IsNone table rows replay told → IsRefusalOf told why → IsNextReason replay.book.members table rows text why
  refusal text line rest told NotLegal first read none of = (line, rest, first, record { told = told; read = read; of_turn = of; none = none_has line told read none })
  refusal text line rest told NotObeyed first read none of = (line, rest, first, record { told = told; read = read; may = λ turn. absurd (of turn) })
  refusal text line rest told BadLine first read none of = absurd of
  refusal text line rest told Missing first read none of = absurd of

  -- the line has a form, and no turn has it that may come next
  pub comes_refused : (text line rest : List ℕ) (told : ToldLine) (why : Why) → IsLineFirst text line rest → IsJournalLine told line → IsNone table rows replay told → IsRefusalOf told why
      → ComesNone replay.book.members table rows text why
  comes_refused text line rest told why first read none of = record {
    reason = refusal text line rest told why first read none of;
    none = λ row goes.
        none_has line told read none
        (record { row = row; may = goes.may; is = sym (first_one text line (turn_line table (length rows, row.turn)) rest goes.behind first goes.first) });
  }

  -- it has the line of a turn that was judged
  pub comes_judged : (new : Replay) (text rest : Rest) (line : List ℕ) (told : ToldLine) (judged : Judged) → IsLineFirst text.text.now line rest.text.now → IsJournalLine told line → rest.number ≡ text.number + 1
      → IsJudged table rows told replay new judged → ComesJudged table rows replay new text rest judged
  comes_judged new text rest line told judged first read number was =
      let line_is : line ≡ turn_line table (length rows, was.row.turn) = written table (length rows) was.row.turn told line was.told_by.tells read in
      record {
        line = line;
        first = first;
        told = told;
        read = read;
        is = was;
        line_is = line_is;
        one = λ row goes.
            same_turn replay.book.members table here row was.row is.few is.sound.limits goes.may was.told_by.may (numbers row goes.may) (numbers was.row was.told_by.may)
            (words_one table (length rows) row.turn was.row.turn
            (sym (first_one text.text.now line (turn_line table (length rows, row.turn)) rest.text.now goes.behind first goes.first) ∙ line_is));
        number = number;
      }

-- a turn that was judged is out of place where none is wanted
pub out_of_place : (table : Table) (rows : List Row) (old new : Replay) (text rest : Rest) (judged : Judged) → ComesJudged table rows old new text rest judged
    → IsNextReason old.book.members table rows text.text.now NotObeyed
out_of_place table rows old new text rest judged comes = (
  comes.line,
  rest.text.now,
  comes.first,
  record {
    told = comes.told;
    read = comes.read;
    may = λ of. record { row = comes.is.row; may = comes.is.told_by.may; is = sym comes.line_is };
  },
)

-- or isn't a wanted one
pub judged_unwanted : (table : Table) (rows : List Row) (old new : Replay) (text rest : Rest) (judged : Judged) (wanted : Turn → Type 0) → ComesJudged table rows old new text rest judged
    → (wanted judged.turn → ⊥) → StopsNext old.book.members table rows (λ row. wanted row.turn) text text.number NotObeyed
judged_unwanted table rows old new text rest judged wanted comes isnt = record {
  line_is = refl;
  reason = out_of_place table rows old new text rest judged comes;
  none = λ row goes wants. isnt (subst wanted (comes.one row goes ∙ comes.is.is.turn_is) wants);
}

-- ---- the turn of a task

-- a step is the turn of a task just where it is for the cause, and its call has the fate that is set
pub does_by : (fates : ℕ → Fate) (who : ℕ) (cause : Cause) (turn : Turn) → Does fates who cause turn ↔ ((turn ≡ Did who cause (call_of turn)) × IfSome (call_of turn) (λ made. made.fate ≡ fates who))
does_by fates who cause turn = (
  λ does.
      let call : call_of turn ≡ does.made = ap call_of does.is in
      (does.is ∙ ap (Did who cause) (sym call), subst (λ made. IfSome made (λ call. call.fate ≡ fates who)) (sym call) does.fate),
  λ both. record { made = call_of turn; is = both.0; fate = both.1 },
)

-- the fates of a replay are still set where a turn was judged
pub judged_fates : (table : Table) (rows : List Row) (old new : Replay) (situation : Situation) (text rest : Rest) (judged : Judged) → IsReplayAt table rows old situation → ComesJudged table rows old new text rest judged
    → HaveFates situation.fates new.settings.items
judged_fates table rows old new situation text rest judged here comes = λ who setting there.
    (here.seated.settings who setting (ap (λ settings. slice_get settings.items who) (sym comes.is.settings) ∙ there)).fate

-- the turn of a task was taken
pub task_taken : (table : Table) (rows : List Row) (old judging new : Replay) (situation : Situation) (text rest : Rest) (judged : Judged) (task : Task) → (comes : ComesJudged table rows old judging text rest judged)
    → IsTurnFor situation.fates task judged.turn → IsReplayAt table (rows ++ comes.is.row ∷ []) new (after_turn old.book.members situation comes.is.row)
    → TakesNext old.book.members table rows situation (λ row. IsTurnFor situation.fates task row.turn) new text rest
task_taken table rows old judging new situation text rest judged task comes turn joins = record {
  row = comes.is.row;
  turn = subst (IsTurnFor situation.fates task) (sym comes.is.is.turn_is) turn;
  text_is = comes.first.parts ∙ ap (λ line. line ++ 10 ∷ rest.text.now) comes.line_is;
  number = comes.number;
  ready = joins;
}

-- a turn that isn't the step for a cause with its own call is none for that cause
pub not_did : (fates : ℕ → Fate) (who : ℕ) (cause : Cause) (turn : Turn) (same : Bool) (call : Option CallRow) → call ≡ call_of turn → IsTrue same ↔ (turn ≡ Did who cause call) → same ≡ false
    → IsTrue false ↔ Does fates who cause turn
not_did fates who cause turn same call mine tells differs = (
  λ yes. absurd (let wrong : false ≡ true = yes in cc),
  λ does.
      let is : turn ≡ Did who cause call = ((does_by fates who cause turn).0 does).0 ∙ ap (Did who cause) (sym mine) in
      let both : true ≡ false = sym (tells.1 is) ∙ differs in
      absurd cc,
)

-- one that is is so just where the call has the fate that is set
pub is_did : (fates : ℕ → Fate) (who : ℕ) (cause : Cause) (turn : Turn) (same answer : Bool) (call : Option CallRow) (fate : Fate) → call ≡ call_of turn → IsTrue same ↔ (turn ≡ Did who cause call) → same ≡ true
    → fate ≡ fates who → IsTrue answer ↔ IfSome call (λ made. made.fate ≡ fate) → IsTrue answer ↔ Does fates who cause turn
is_did fates who cause turn same answer call fate mine tells is set has = (
  λ yes.
      (does_by fates who cause turn).1 (
        tells.0 is ∙ ap (Did who cause) mine,
        subst (λ found. IfSome found (λ made. made.fate ≡ fates who)) mine (subst (λ f. IfSome call (λ made. made.fate ≡ f)) set (has.0 yes)),
      ),
  λ does.
      has.1 (subst (λ f. IfSome call (λ made. made.fate ≡ f)) (sym set) (subst (λ found. IfSome found (λ made. made.fate ≡ fates who)) (sym mine) ((does_by fates who cause turn).0 does).1)),
)
