-- How the program ends, by its exit status. Source: docs/RUN_FILE.md.
use Rattle.std.specs.Prelude.{◌≡◌, ℕ}
use Rattle.cron_io.specs.Views.{SourceView, SinkView}
use Rattle.cron_serve.specs.Serve.{note_text, status_note, IsNoted}
use Rattle.cron_serve.specs.Served.{CompletesFor, EndsFor}
use Rattle.cron_serve.specs.declared.run_end.RunEnd.{RunEnd}
use Rattle.program_options.specs.declared.words.Request.{Request}

-- the program was asked for this and ended with this status: its end says what was written, it is the one that the bytes decide
-- where no call fails, and its note was written
pub record EndsProgram (request : Request) (source source' : SourceView) (sink sink' notes notes' : SinkView) (status : ℕ) : Type 0 where
  pub end : RunEnd
  pub ends : EndsFor request source source' sink sink' end
  pub complete : CompletesFor request source source' sink sink' end
  pub note : IsNoted notes notes' (note_text end.status end.refusal)
  pub status_is : status ≡ end.status

-- the program stopped before anything was read, and the note of its status was written, and nothing else
pub record StopsProgram (source source' : SourceView) (sink sink' notes notes' : SinkView) (status : ℕ) : Type 0 where
  pub unread : source' ≡ source
  pub unwritten : sink' ≡ sink
  pub note : IsNoted notes notes' (status_note status)
