use Rattle.std.proofs.Common.{ℕ, arith}
use Rattle.std.proofs.lemmas.Grind.{common_steps}
use Rattle.journal_line.specs.Count.{IsDecimal}
use Rattle.journal_line.proofs.CountLemmas.{larger}
use Rattle.journal_line.proofs.count.read_count.Goals as goal

pub returns-in-Err-clause-read : goal.returns-in-Err-clause-read
returns-in-Err-clause-read c =
    let is : IsDecimal c.args.text.now = grind (arith, common_steps) in
    larger {E = ℕ} c.args.text.now 0 is c.in-Err.ensures.value.0
