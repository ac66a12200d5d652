use Rattle.std.proofs.Common.{◌≡◌, ◌⊎◌, inl, inr, ℕ, List}
use Rattle.cron_io.specs.Views.{SourceView, SinkView}
use Rattle.cron_io.specs.Writing.{HasGainedPrefix}
use Rattle.cron_serve.specs.Ends.{Ends}
use Rattle.cron_serve.specs.Serve.{IsTextOfInput}
use Rattle.cron_serve.specs.declared.run_end.RunEnd.{RunEnd}
use Rattle.program_options.specs.declared.words.Output.{Output}
use Rattle.cron_serve.proofs.laws.a_late_end_leaves_a_front.Goals as goal

front_at : (output : Output) (source source' : SourceView) (sink sink' : SinkView) (end : RunEnd) → Ends output source source' sink sink' end
    → (end.status ≡ 4) ⊎ (end.status ≡ 5) → (sink' ≡ sink) ⊎ ((text : List ℕ) × IsTextOfInput output source source' end.book end.nodes.items text × HasGainedPrefix sink sink' text)
front_at output source source' sink sink' end ends (inl four) = inr (ends.front four)
front_at output source source' sink sink' end ends (inr five) =
    elim (ends.memory five) [
      | inl none ↦ inl none.unwritten
      | inr some ↦ inr some
    ]

pub returns : goal.returns
returns c = front_at
