-- Each form has a line, and what a line says is in range.
use Rattle.std.proofs.Common.{◌≡◌, ℕ, List, ◌∷◌, ◌++◌, Option, Some, None, IfSome, refl, subst, arith, rules, codes, decimal}
use Rattle.script_text.specs.Command.{fate_word}
use Rattle.script_text.specs.declared.command.FateWord.{FateWord}
use Rattle.zone_minutes.specs.Stamp.{stamp_text}
use Rattle.journal_line.specs.Count.{IsCountText}
use Rattle.journal_line.specs.InRange.{IsCountInRange, IsCauseInRange, IsTurnInRange, IsLineInRange}
use Rattle.journal_line.specs.Line.{IsAnyName, kind_text, kept_text, IsCause, IsAnswerText, IsCallWith, IsTurn, IsJournalLine}
use Rattle.journal_line.specs.Spaced.{Spaced}
use Rattle.journal_line.specs.Told.{ToldAnswer, ToldTurn, DidTurn, CallTurn, StopTurn, StopWithinTurn, RestartTurn, ToldLine, HeadLine, CommandLine, WalkLine, TurnLine, ArrivalLine, EndLine}
use Rattle.journal_line.specs.declared.line.CauseWords.{CauseWords}
use Rattle.journal_line.specs.declared.line.CauseWords.TheVariants.{Campaign, Tick, Hear, Answer}
use Rattle.journal_line.specs.declared.line.Count.{Count}
use Rattle.journal_line.specs.declared.line.Count.TheVariants.{Number, Larger}
use Rattle.journal_line.proofs.CountLemmas.{count_of_decimal}

-- a text of the kind
abbrev Text : (List ℕ → Type 0) → Type 0
Text P = (text : List ℕ) × P text

-- two texts with a space between them
joined : {F R : List ℕ → Type 0} → Text F → Text R → Text (Spaced F R)
joined (front, is) (rest, has) = (front ++ 32 ∷ rest, record { front = front; rest = rest; parts = refl; front_is = is; rest_is = has })

word : (text : List ℕ) → Text (λ t. t ≡ text)
word text = (text, refl)

count_text : (count : Count) → IsCountInRange count → Text (IsCountText count)
count_text (Number n) small = (decimal n, count_of_decimal n small)
count_text Larger range = (
  codes "18446744073709551616",
  record {
    decimal = record { some = omega arith; digits = search (rules, arith); no_zero = λ e. absurd (omega (arith, e)) };
    value = omega arith;
  },
)

cause_text : (cause : CauseWords) → IsCauseInRange cause → Text (IsCause cause)
cause_text Campaign range = word (codes "campaign")
cause_text (Tick now) range = joined (word (codes "tick")) (stamp_text now.0, record { calendar = range; is = refl })
cause_text (Hear letter) range = joined (word (codes "hear")) (count_text letter range)
cause_text Answer range = word (codes "answer")

answer_text : (answer : ToldAnswer) → IsAnyName answer.name → Text (IsAnswerText answer)
answer_text answer is = joined (answer.name, record { word = is; is = refl }) (word (kind_text answer.kind))

call_text_with : (answer : Option ToldAnswer) (fate : FateWord) → IfSome answer (λ a. IsAnyName a.name) → Text (IsCallWith answer (fate_word fate))
call_text_with None fate range = word (fate_word fate)
call_text_with (Some answer) fate range = joined (word (fate_word fate)) (answer_text answer range)

turn_text : (turn : ToldTurn) → IsTurnInRange turn → Text (IsTurn turn)
turn_text (DidTurn cause) range = cause_text cause range
turn_text (CallTurn now call) range =
    joined (word (codes "tick")) (joined (stamp_text now.0, record { calendar = range.0; is = refl }) (call_text_with call.answer call.fate range.1))
turn_text StopTurn range = word (codes "stop")
turn_text (StopWithinTurn kept cause) range = joined (word (codes "stop")) (joined (word (kept_text kept)) (cause_text cause range))
turn_text RestartTurn range = word (codes "restart")

pub line_text : (told : ToldLine) → IsLineInRange told → Text (IsJournalLine told)
line_text HeadLine range = word (codes "cron journal 1")
line_text (CommandLine number) range = joined (word (codes "command")) (count_text number range)
line_text WalkLine range = word (codes "command end")
line_text (TurnLine number replica turn) range = joined (count_text number range.0) (joined (count_text replica range.1) (turn_text turn range.2))
line_text (ArrivalLine number late) range = joined (count_text number range.0) (joined (word (codes "- arrive")) (count_text late range.1))
line_text EndLine range = word (codes "end")

-- ---- what a line says is in range

count_in_range : (count : Count) (text : List ℕ) → IsCountText count text → IsCountInRange count
count_in_range (Number n) text is = is.value.0
count_in_range Larger text is = tt

cause_in_range : (cause : CauseWords) (text : List ℕ) → IsCause cause text → IsCauseInRange cause
cause_in_range Campaign text is = tt
cause_in_range (Tick now) text is = is.rest_is.calendar
cause_in_range (Hear letter) text is = count_in_range letter is.rest is.rest_is
cause_in_range Answer text is = tt

name_in_range : (answer : Option ToldAnswer) (fate text : List ℕ) → IsCallWith answer fate text → IfSome answer (λ a. IsAnyName a.name)
name_in_range None fate text is = tt
name_in_range (Some answer) fate text is =
    let name = is.rest_is.front_is in
    subst IsAnyName name.is name.word

turn_in_range : (turn : ToldTurn) (text : List ℕ) → IsTurn turn text → IsTurnInRange turn
turn_in_range (DidTurn cause) text is = cause_in_range cause text is
turn_in_range (CallTurn now call) text is =
    let rest = is.rest_is in
    (rest.front_is.calendar, name_in_range call.answer (fate_word call.fate) rest.rest rest.rest_is)
turn_in_range StopTurn text is = tt
turn_in_range (StopWithinTurn kept cause) text is = cause_in_range cause is.rest_is.rest is.rest_is.rest_is
turn_in_range RestartTurn text is = tt

pub line_in_range : (told : ToldLine) (line : List ℕ) → IsJournalLine told line → IsLineInRange told
line_in_range HeadLine line is = tt
line_in_range (CommandLine number) line is = count_in_range number is.rest is.rest_is
line_in_range WalkLine line is = tt
line_in_range (TurnLine number replica turn) line is =
    let rest = is.rest_is in
    (count_in_range number is.front is.front_is, count_in_range replica rest.front rest.front_is, turn_in_range turn rest.rest rest.rest_is)
line_in_range (ArrivalLine number late) line is = (count_in_range number is.front is.front_is, count_in_range late is.rest_is.rest is.rest_is.rest_is)
line_in_range EndLine line is = tt
