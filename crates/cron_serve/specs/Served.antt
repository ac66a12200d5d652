-- How the program ends once its words ask for something. Source: docs/RUN_FILE.md.
use Rattle.std.specs.Prelude.{◌≢◌}
use Rattle.cron_io.specs.Reading.{StaysReliable}
use Rattle.cron_io.specs.Views.{SourceView, SinkView}
use Rattle.cron_serve.specs.Audit.{CompletesAudit, EndsAudit}
use Rattle.cron_serve.specs.Complete.{Completes}
use Rattle.cron_serve.specs.Ends.{Ends}
use Rattle.cron_serve.specs.declared.run_end.RunEnd.{RunEnd}
use Rattle.program_options.specs.declared.words.Request.{Request}
use Rattle.program_options.specs.declared.words.Request.TheVariants.{Text, Audit}

-- how the program ended that was asked for this
abbrev pub EndsFor : Request → (source source' : SourceView) (sink sink' : SinkView) → RunEnd → Type 0
EndsFor (Text output) source source' sink sink' end = Ends output source source' sink sink' end
EndsFor Audit source source' sink sink' end = EndsAudit source source' sink sink' end

-- where the source told its bytes, they decide how it ended, unless a read or a write failed or memory ran out
abbrev pub CompletesFor : Request → (source source' : SourceView) (sink sink' : SinkView) → RunEnd → Type 0
CompletesFor (Text output) source source' sink sink' end = Completes output source source' sink sink' end
CompletesFor Audit source source' sink sink' end = CompletesAudit source source' sink sink' end

-- What its status says is so, and the bytes decide it where no call fails. The status is not that of faulty words, 1. Over a source that is
-- reliable it is not that of a failed read either, 3, and the source stays reliable. Private functions alone cite it.
pub record EndsServing (request : Request) (source source' : SourceView) (reliable reliable' : Type 0) (sink sink' : SinkView)
    (end : RunEnd) : Type 0 where
  pub ends : EndsFor request source source' sink sink' end
  pub complete : CompletesFor request source source' sink sink' end
  pub words : end.status ≢ 1
  pub no_read_fault : reliable → end.status ≢ 3
  pub lasting : reliable → StaysReliable source source' reliable'
