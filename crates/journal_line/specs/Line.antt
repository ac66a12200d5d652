-- The lines of a journal, each by its text: parts that are separated by one space. Source: docs/FORMATS.md, the journal.
-- A name may be any word without a blank: only with a table of jobs is it known whether a launch has it.
use Rattle.std.specs.Prelude.{◌≡◌, ◌≢◌, ℕ, ◌<◌, Bool, true, false, List, length, Option, None, Some, codes}
use Rattle.std.specs.List.{AllByRecursion}
use Rattle.paxos_base.specs.declared.entry.Kind.{Kind}
use Rattle.paxos_base.specs.declared.entry.Kind.TheVariants.{Launch, Void}
use Rattle.script_text.specs.Command.{fate_word}
use Rattle.zone_minutes.specs.Civil.{IsCalendarMinute}
use Rattle.zone_minutes.specs.Stamp.{stamp_text}
use Rattle.zone_minutes.specs.declared.minute.Minute.{Minute}
use Rattle.journal_line.specs.Count.{IsCountText}
use Rattle.journal_line.specs.Spaced.{IsWord, Spaced}
use Rattle.journal_line.specs.Told.{ToldAnswer, ToldCall, ToldTurn, DidTurn, CallTurn, StopTurn, StopWithinTurn, RestartTurn, ToldLine, HeadLine, CommandLine, WalkLine, TurnLine, ArrivalLine, EndLine}
use Rattle.journal_line.specs.declared.line.CauseWords.{CauseWords}
use Rattle.journal_line.specs.declared.line.CauseWords.TheVariants.{Campaign, Tick, Hear, Answer}

-- STAMP: that of an existing minute
pub record IsStamp (at : Minute) (text : List ℕ) : Type 0 where
  pub calendar : IsCalendarMinute at.0
  pub is : text ≡ stamp_text at.0

-- neither a space nor a tab
abbrev pub IsUnblank : ℕ → Type 0
IsUnblank byte = (byte ≢ 32) × (byte ≢ 9)

-- a word without a blank: a byte or more
pub record IsAnyName (text : List ℕ) : Type 0 where
  pub some : 0 < length text
  pub unblank : AllByRecursion IsUnblank text

-- NAME: the text is the name
pub record IsNameText (name text : List ℕ) : Type 0 where
  pub word : IsAnyName text
  pub is : text ≡ name

-- KIND: how a launch ended
abbrev pub kind_text : Kind → List ℕ
kind_text Launch = codes "launch"
kind_text Void = codes "void"

-- KEPT: whether the disk has what was to be saved
abbrev pub kept_text : Bool → List ℕ
kept_text true = codes "kept"
kept_text false = codes "lost"

-- CAUSE: campaign, tick STAMP, hear L, or answer
abbrev pub IsCause : CauseWords → List ℕ → Type 0
IsCause Campaign text = IsWord (codes "campaign") text
IsCause (Tick now) text = Spaced (IsWord (codes "tick")) (IsStamp now) text
IsCause (Hear letter) text = Spaced (IsWord (codes "hear")) (IsCountText letter) text
IsCause Answer text = IsWord (codes "answer") text

-- NAME KIND
abbrev pub IsAnswerText : ToldAnswer → List ℕ → Type 0
IsAnswerText answer text = Spaced (IsNameText answer.name) (IsWord (kind_text answer.kind)) text

-- FATE, or FATE NAME KIND where there is an answer
abbrev pub IsCallWith : Option ToldAnswer → List ℕ → List ℕ → Type 0
IsCallWith None fate text = IsWord fate text
IsCallWith (Some answer) fate text = Spaced (IsWord fate) (IsAnswerText answer) text

-- the same of a call
abbrev pub IsCall : ToldCall → List ℕ → Type 0
IsCall call text = IsCallWith call.answer (fate_word call.fate) text

-- CAUSE; tick STAMP with a call; stop; stop KEPT CAUSE; or restart
abbrev pub IsTurn : ToldTurn → List ℕ → Type 0
IsTurn (DidTurn cause) text = IsCause cause text
IsTurn (CallTurn now call) text = Spaced (IsWord (codes "tick")) (Spaced (IsStamp now) (IsCall call)) text
IsTurn StopTurn text = IsWord (codes "stop") text
IsTurn (StopWithinTurn kept cause) text = Spaced (IsWord (codes "stop")) (Spaced (IsWord (kept_text kept)) (IsCause cause)) text
IsTurn RestartTurn text = IsWord (codes "restart") text

-- **A line of a journal**: cron journal 1; command K; command end; I R and a turn; I - arrive C; or end
abbrev pub IsJournalLine : ToldLine → List ℕ → Type 0
IsJournalLine HeadLine text = IsWord (codes "cron journal 1") text
IsJournalLine (CommandLine number) text = Spaced (IsWord (codes "command")) (IsCountText number) text
IsJournalLine WalkLine text = IsWord (codes "command end") text
IsJournalLine (TurnLine number replica turn) text = Spaced (IsCountText number) (Spaced (IsCountText replica) (IsTurn turn)) text
IsJournalLine (ArrivalLine number late) text = Spaced (IsCountText number) (Spaced (IsWord (codes "- arrive")) (IsCountText late)) text
IsJournalLine EndLine text = IsWord (codes "end") text
