use Rattle.world_rounds.proofs.ClearLemmas.{HasClearedTo}
use Rattle.world_rounds.proofs.clear.clear_all.Given as goal

abbrev pub invariant-members : goal.invariant-members
invariant-members g l = HasClearedTo l.member-index l.fn.members l.member-items
