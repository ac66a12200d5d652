-- A turn as a book keeps it: its call stands on the heap, which contracts don't see.
use Rattle.history.specs.declared.turn.Turn.{Turn}
use Rattle.history.specs.declared.turn.Turn.TheVariants as turn
use Rattle.world_law.specs.declared.turn_row.KeptTurn.{KeptTurn}
use Rattle.world_law.specs.declared.turn_row.KeptTurn.TheVariants as kept

-- the turn that is kept
abbrev pub turn_kept : KeptTurn → Turn
turn_kept (kept.Did who cause call) = turn.Did who cause call
turn_kept (kept.Stopped who cause is_kept) = turn.Stopped who cause is_kept
turn_kept (kept.Restarted who) = turn.Restarted who
turn_kept (kept.Arrived late) = turn.Arrived late
