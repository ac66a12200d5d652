-- Turns that a line can tell: their instants have stamps, and their answers are launches of the table.
use Rattle.std.specs.Prelude.{⊤, ◌<◌, ◌^◌, Option, None, Some, IfSome}
use Rattle.zone_minutes.specs.Civil.{IsCalendarMinute}
use Rattle.cluster_sched.specs.Names.{IsNameIn}
use Rattle.due_set.specs.Table.{Table}
use Rattle.history.specs.declared.turn.CallRow.{CallRow}
use Rattle.history.specs.declared.turn.Cause.{Cause}
use Rattle.history.specs.declared.turn.Cause.TheVariants.{Tick, Hear}
use Rattle.history.specs.declared.turn.Turn.{Turn}
use Rattle.history.specs.declared.turn.Turn.TheVariants.{Did, Stopped, Arrived}

-- a clock reads a minute that has a stamp
abbrev pub HasStamp : Cause → Type 0
HasStamp (Tick now) = IsCalendarMinute now.0
HasStamp cause = ⊤

-- a call is answered by a launch of the table, where it is answered
abbrev pub IsAnsweredBy : Table → Option CallRow → Type 0
IsAnsweredBy table None = ⊤
IsAnsweredBy table (Some made) = IfSome made.answer (λ row. IsNameIn table row.name)

-- a line can tell the turn
abbrev pub CanBeTold : Table → Turn → Type 0
CanBeTold table (Did who cause made) = HasStamp cause × IsAnsweredBy table made
CanBeTold table (Stopped who cause kept) = IfSome cause HasStamp
CanBeTold table turn = ⊤

-- the number of the letter that is heard has 64 bits
abbrev pub IsNumbered : Cause → Type 0
IsNumbered (Hear letter) = letter < 2 ^ 64
IsNumbered cause = ⊤

-- the numbers that a turn has have 64 bits: that of its letter, or of its late call
abbrev pub HasNumbers : Turn → Type 0
HasNumbers (Did who cause made) = IsNumbered cause
HasNumbers (Stopped who cause kept) = IfSome cause IsNumbered
HasNumbers (Arrived late) = late < 2 ^ 64
HasNumbers turn = ⊤
