use Rattle.std.proofs.Common.{◌≡◌, ◌++◌, take}
use Rattle.term_core.specs.Best.{best_of}
use Rattle.term_core.proofs.best.best_of.Given as goal

abbrev pub invariant-loop-vote : goal.invariant-loop-vote
invariant-loop-vote l = l.merged.items ++ l.left ≡ best_of l.best (take l.vote-index l.votes)
