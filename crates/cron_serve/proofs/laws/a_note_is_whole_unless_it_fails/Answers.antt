use Rattle.std.proofs.Common.{◌⊎◌, inl, inr, ℕ, List, [], sym}
use Rattle.std.proofs.lemmas.List.{append-nil}
use Rattle.cron_io.specs.Faults.{Rose}
use Rattle.cron_io.specs.Views.{SinkView}
use Rattle.cron_io.specs.Writing.{HasGained, HasGainedPrefix}
use Rattle.cron_serve.proofs.laws.a_note_is_whole_unless_it_fails.Goals as goal

whole_by : (old new : SinkView) (text : List ℕ) → HasGained old new text ⊎ (HasGainedPrefix old new text × Rose old.faults new.faults) → ¬ Rose old.faults new.faults → HasGained old new text
whole_by old new text (inl gained) quiet = gained
whole_by old new text (inr cut) quiet = absurd (quiet cut.1)

front_by : (old new : SinkView) (text : List ℕ) → HasGained old new text ⊎ (HasGainedPrefix old new text × Rose old.faults new.faults) → HasGainedPrefix old new text
front_by old new text (inl gained) = record { front = text; back = []; parts = sym (append-nil text); gained = gained }
front_by old new text (inr cut) = cut.0

pub returns : goal.returns
returns c = record {
  whole = λ old new text is. whole_by old new text is.gained;
  front = λ old new text is. front_by old new text is.gained;
  faults = λ old new text is. is.later;
}
