-- What lines of a journal tell, with a name as its bytes.
use Rattle.std.specs.Prelude.{ℕ, Bool, List, Option, None, Some}
use Rattle.paxos_base.specs.declared.entry.Kind.{Kind}
use Rattle.script_text.specs.declared.command.FateWord.{FateWord}
use Rattle.zone_minutes.specs.declared.minute.Minute.{Minute}
use Rattle.journal_line.specs.declared.line.AnswerWords.{AnswerWords}
use Rattle.journal_line.specs.declared.line.CallWords.{CallWords}
use Rattle.journal_line.specs.declared.line.CauseWords.{CauseWords}
use Rattle.journal_line.specs.declared.line.Count.{Count}
use Rattle.journal_line.specs.declared.line.JournalLine.{JournalLine}
use Rattle.journal_line.specs.declared.line.JournalLine.TheVariants.{Head, Command, Walk, Turn, Arrival, End}
use Rattle.journal_line.specs.declared.line.TurnWords.{TurnWords}
use Rattle.journal_line.specs.declared.line.TurnWords.TheVariants.{Did, Called, Stopped, StoppedWithin, Restarted}

-- how the launch of a name ended
pub record ToldAnswer : Type 0 where
  pub name : List ℕ
  pub kind : Kind

-- a call of the scheduler, and its answer if there is one
pub record ToldCall : Type 0 where
  pub fate : FateWord
  pub answer : Option ToldAnswer

-- what a replica did: a turn for a cause, a tick with a call, a stop between two turns or within one, or a new start
pub data ToldTurn : Type 0 where
  DidTurn : (cause : CauseWords) → ToldTurn
  CallTurn : (now : Minute) (call : ToldCall) → ToldTurn
  StopTurn : ToldTurn
  StopWithinTurn : (kept : Bool) (cause : CauseWords) → ToldTurn
  RestartTurn : ToldTurn

-- a line: the first one, one before a command's turns or the last walk's, a replica's turn, an arrival, or the last one
pub data ToldLine : Type 0 where
  HeadLine : ToldLine
  CommandLine : (number : Count) → ToldLine
  WalkLine : ToldLine
  TurnLine : (number replica : Count) (turn : ToldTurn) → ToldLine
  ArrivalLine : (number late : Count) → ToldLine
  EndLine : ToldLine

-- what an answer of the program stands for
abbrev pub told_answer : AnswerWords → ToldAnswer
told_answer answer = record { name = answer.name.now; kind = answer.kind }

-- the same, where there is one
abbrev pub told_answers : Option AnswerWords → Option ToldAnswer
told_answers None = None
told_answers (Some answer) = Some (told_answer answer)

-- what a call of the program stands for
abbrev pub told_call : CallWords → ToldCall
told_call call = record { fate = call.fate; answer = told_answers call.answer }

-- what a turn of the program stands for
abbrev pub told_turn : TurnWords → ToldTurn
told_turn (Did cause) = DidTurn cause
told_turn (Called now call) = CallTurn now (told_call call)
told_turn Stopped = StopTurn
told_turn (StoppedWithin kept cause) = StopWithinTurn kept cause
told_turn Restarted = RestartTurn

-- what a line of the program stands for
abbrev pub told_line : JournalLine → ToldLine
told_line Head = HeadLine
told_line (Command number) = CommandLine number
told_line Walk = WalkLine
told_line (Turn number replica words) = TurnLine number replica (told_turn words)
told_line (Arrival number late) = ArrivalLine number late
told_line End = EndLine
