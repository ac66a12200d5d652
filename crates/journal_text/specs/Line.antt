-- What the line of a turn tells a reader: the turn's number, whose it was, and what happened. Source: docs/FORMATS.md, the journal;
-- lines by journal_line.
use Rattle.std.specs.Prelude.{◌≡◌, ℕ, suc, ◌==◌, if◌then◌else◌, Bool, Option, None, Some, All}
use Rattle.std.specs.List.{AllByRecursion}
use Rattle.cluster_sched.specs.Names.{name_text}
use Rattle.cluster_sched.specs.declared.fate.Fate.{Fate}
use Rattle.cluster_sched.specs.declared.fate.Fate.TheVariants.{Done, LostBefore, LostAfter, Late}
use Rattle.cluster_sched.specs.declared.row.SchedRow.{SchedRow}
use Rattle.due_set.specs.Table.{Job, Table}
use Rattle.history.specs.declared.turn.CallRow.{CallRow}
use Rattle.history.specs.declared.turn.Cause.{Cause}
use Rattle.history.specs.declared.turn.Cause.TheVariants.{Campaign, Tick, Hear, Answer}
use Rattle.history.specs.declared.turn.Turn.{Turn}
use Rattle.history.specs.declared.turn.Turn.TheVariants.{Did, Stopped, Restarted, Arrived}
use Rattle.script_text.specs.declared.command.FateWord.{FateWord}
use Rattle.script_text.specs.declared.command.FateWord.TheVariants as word
use Rattle.journal_line.specs.Line.{IsUnblank}
use Rattle.journal_line.specs.Told.{ToldAnswer, ToldCall, ToldTurn, DidTurn, CallTurn, StopTurn, StopWithinTurn, RestartTurn, ToldLine, CommandLine, WalkLine, TurnLine, ArrivalLine}
use Rattle.journal_line.specs.declared.line.CauseWords.{CauseWords}
use Rattle.journal_line.specs.declared.line.CauseWords.TheVariants as told
use Rattle.journal_line.specs.declared.line.Count.TheVariants.{Number}

-- no job of the table has a blank in its name
abbrev pub HasUnblankNames : Table → Type 0
HasUnblankNames table = All (λ (job : Job). AllByRecursion IsUnblank job.name) table.jobs

-- what a replica has its turn for, as a line tells it
abbrev pub told_cause : Cause → CauseWords
told_cause Campaign = told.Campaign
told_cause (Tick now) = told.Tick now
told_cause (Hear letter) = told.Hear (Number letter)
told_cause Answer = told.Answer

-- the fate of a call
abbrev pub told_fate : Fate → FateWord
told_fate Done = word.Done
told_fate LostBefore = word.LostBefore
told_fate LostAfter = word.LostAfter
told_fate Late = word.Late

-- the row that answered a call, where one did: its name and how it ended
abbrev pub told_row : Table → Option SchedRow → Option ToldAnswer
told_row table None = None
told_row table (Some row) = Some (record { name = name_text table row.name; kind = row.kind })

-- a call
abbrev pub told_made : Table → CallRow → ToldCall
told_made table made = record { fate = told_fate made.fate; answer = told_row table made.answer }

-- the words tell the step for a cause, with the call of it where one was made, as it is of a tick alone
abbrev pub TellsStep : Table → Cause → Option CallRow → ToldTurn → Type 0
TellsStep table cause None words = words ≡ DidTurn (told_cause cause)
TellsStep table (Tick now) (Some made) words = words ≡ CallTurn now (told_made table made)
TellsStep table cause (Some made) words = ⊥

-- a stop: between two turns, or within one
abbrev pub told_stop : Option Cause → Bool → ToldTurn
told_stop None kept = StopTurn
told_stop (Some cause) kept = StopWithinTurn kept (told_cause cause)

-- **The line tells the turn of that number.**
abbrev pub Tells : Table → (number : ℕ) → Turn → ToldLine → Type 0
Tells table number (Did who cause made) line =
    (words : ToldTurn) × TellsStep table cause made words × (line ≡ TurnLine (Number number) (Number who) words)
Tells table number (Stopped who cause kept) line = line ≡ TurnLine (Number number) (Number who) (told_stop cause kept)
Tells table number (Restarted who) line = line ≡ TurnLine (Number number) (Number who) RestartTurn
Tells table number (Arrived late) line = line ≡ ArrivalLine (Number number) (Number late)

-- the line before a part tells which command's turns follow, from 1, and of the last part that they are the walk's
abbrev pub told_head : (parts place : ℕ) → ToldLine
told_head parts place = if suc place == parts then WalkLine else CommandLine (Number (suc place))
