use Rattle.std.proofs.Common.{◌<◌, arith}
use Rattle.std.proofs.lemmas.Bool.{ltb-true}
use Rattle.term_core.proofs.BestLemmas.{below_last}
use Rattle.term_core.proofs.best.all_below.Goals as goal

pub returns-in-Some : goal.returns-in-Some
returns-in-Some c = λ less.
    let lower : c.in-Some.last.now.slot < c.args.slot = ltb-true _ _ less in
    below_last c.args.slot c.args.votes.now c.requires (λ d. grind arith)
