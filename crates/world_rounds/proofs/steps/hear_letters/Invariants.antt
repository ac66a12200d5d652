use Rattle.world_rounds.proofs.HearLemmas.{HasHeard}
use Rattle.world_rounds.proofs.steps.hear_letters.Given as goal

abbrev pub invariant-letters : goal.invariant-letters
invariant-letters g l =
    HasHeard g.D.Disk.view l.table l.book l.letters l.letter-index l.fn.steps.items l.fn.node l.steps.items l.node
