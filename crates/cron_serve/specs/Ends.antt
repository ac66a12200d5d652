-- What each end of the program says of its input, its text, its book and its nodes. Source: docs/RUN_FILE.md.
use Rattle.std.specs.Prelude.{◌≡◌, ◌⊎◌, ◌↔◌, ℕ, ◌≤◌, None, Some, IsSome, IsSomeAnd}
use Rattle.cron_io.specs.Faults.{Rose}
use Rattle.cron_io.specs.Reading.{HasReadOn}
use Rattle.cron_io.specs.Views.{SourceView, SinkView}
use Rattle.cron_serve.specs.Complete.{HasRoomForText, LacksRoomForText}
use Rattle.cron_serve.specs.Serve.{IsRefused, LeavesNoRun, WritesText, WritesSome}
use Rattle.cron_serve.specs.Written.{LeavesNothing}
use Rattle.cron_serve.specs.declared.run_end.RunEnd.{RunEnd}
use Rattle.program_options.specs.declared.words.Output.{Output}

-- how the program ended that was asked for this, by what is seen of the source and the sink before and after it
pub record Ends (output : Output) (source source' : SourceView) (sink sink' : SinkView) (end : RunEnd) : Type 0 where
  -- Status 0: the input was read to its end, or for a summary nothing was read, and the sink gained the text that was asked for. Of
  -- a report, a journal and a summary the book and the nodes are those of the run that was read or made: replicas agree, what is held
  -- fits their log, and nothing is left to do.
  pub text : end.status ≡ 0 → WritesText output source source' sink sink' end.book end.nodes.items
  -- Status 2: the input is too large, or was read to its end and is refused, for this.
  pub refused : end.status ≡ 2 → IsSomeAnd end.refusal (IsRefused output source source')
  pub refusal : IsSome end.refusal ↔ (end.status ≡ 2)
  -- Status 3 and 4: a read or a write failed. At 4 the book and the nodes are those of the text too.
  pub read_fault : end.status ≡ 3 → Rose source.faults source'.faults
  pub write_fault : end.status ≡ 4 → Rose sink.faults sink'.faults
  pub front : end.status ≡ 4 → WritesSome output source source' sink sink' end.book end.nodes.items
  -- Status 5: memory ran out, before the text was begun, and no run is left; or in its midst, and the book and the nodes are those of the
  -- text. It is the last.
  pub memory : end.status ≡ 5 → LeavesNothing sink sink' end.book end.nodes.items ⊎ WritesSome output source source' sink sink' end.book end.nodes.items
  pub statuses : end.status ≤ 5
  -- In the other cases nothing is written, and no run is left.
  pub nothing : 1 ≤ end.status → end.status ≤ 3 → LeavesNothing sink sink' end.book end.nodes.items
  -- At each end what is left of the source is a back part of what was, and no count of faults falls.
  pub read_on : HasReadOn source source'
  pub later : sink.faults ≤ sink'.faults
  -- Where the sink tells its room, status 0 comes only where the text fits it, and status 4 only where it doesn't.
  pub fits : end.status ≡ 0 → (room : ℕ) → sink.room ≡ Some room → HasRoomForText output source source' sink sink' end.book end.nodes.items room
  pub exceeds : end.status ≡ 4 → (room : ℕ) → sink.room ≡ Some room → LacksRoomForText output source source' sink sink' end.book end.nodes.items room

-- the program stopped before anything was read: nothing was written, and no run is left
pub record EndsUnread (source source' : SourceView) (sink sink' : SinkView) (end : RunEnd) : Type 0 where
  pub unread : source' ≡ source
  pub unwritten : sink' ≡ sink
  pub no_refusal : end.refusal ≡ None
  pub no_run : LeavesNoRun end.book end.nodes.items
