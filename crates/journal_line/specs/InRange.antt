-- What a line can say: existing minutes, words without a blank, and numbers told as what they are.
use Rattle.std.specs.Prelude.{◌<◌, ◌^◌, ⊤, IfSome}
use Rattle.zone_minutes.specs.Civil.{IsCalendarMinute}
use Rattle.journal_line.specs.Line.{IsAnyName}
use Rattle.journal_line.specs.Told.{ToldCall, ToldTurn, DidTurn, CallTurn, StopTurn, StopWithinTurn, RestartTurn, ToldLine, HeadLine, CommandLine, WalkLine, TurnLine, ArrivalLine, EndLine}
use Rattle.journal_line.specs.declared.line.CauseWords.{CauseWords}
use Rattle.journal_line.specs.declared.line.CauseWords.TheVariants.{Campaign, Tick, Hear, Answer}
use Rattle.journal_line.specs.declared.line.Count.{Count}
use Rattle.journal_line.specs.declared.line.Count.TheVariants.{Number, Larger}

-- a number that isn't told as a larger one is below 2^64
abbrev pub IsCountInRange : Count → Type 0
IsCountInRange (Number n) = n < 2 ^ 64
IsCountInRange Larger = ⊤

-- a minute has a stamp, and a number is in range
abbrev pub IsCauseInRange : CauseWords → Type 0
IsCauseInRange Campaign = ⊤
IsCauseInRange (Tick now) = IsCalendarMinute now.0
IsCauseInRange (Hear letter) = IsCountInRange letter
IsCauseInRange Answer = ⊤

-- the name of an answer is a word
abbrev pub IsCallInRange : ToldCall → Type 0
IsCallInRange call = IfSome call.answer (λ answer. IsAnyName answer.name)

-- all that a turn has is in range
abbrev pub IsTurnInRange : ToldTurn → Type 0
IsTurnInRange (DidTurn cause) = IsCauseInRange cause
IsTurnInRange (CallTurn now call) = IsCalendarMinute now.0 × IsCallInRange call
IsTurnInRange StopTurn = ⊤
IsTurnInRange (StopWithinTurn kept cause) = IsCauseInRange cause
IsTurnInRange RestartTurn = ⊤

-- all that a line has is in range
abbrev pub IsLineInRange : ToldLine → Type 0
IsLineInRange HeadLine = ⊤
IsLineInRange (CommandLine number) = IsCountInRange number
IsLineInRange WalkLine = ⊤
IsLineInRange (TurnLine number replica turn) = IsCountInRange number × IsCountInRange replica × IsTurnInRange turn
IsLineInRange (ArrivalLine number late) = IsCountInRange number × IsCountInRange late
IsLineInRange EndLine = ⊤
