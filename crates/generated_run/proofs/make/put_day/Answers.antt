use Rattle.std.proofs.Common.{ℕ, List, ◌++◌, ap, ◌∙◌, string_bytes}
use Rattle.generated_run.proofs.LoopLemmas.{day_ends}
use Rattle.generated_run.proofs.make.put_day.Goals as goal

pub returns : goal.returns
returns c = c.in_ok-write.ensures.bytes ∙ ap (λ (t : List ℕ). string_bytes c.args.into.now ++ t) (day_ends c.args.minute c.args.hour c.args.number)
