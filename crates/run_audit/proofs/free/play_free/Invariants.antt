use Rattle.run_audit.proofs.FreelyLemmas.{HasBegunFreely}
use Rattle.run_audit.proofs.free.play_free.Given as goal

abbrev pub invariant-turns : goal.invariant-turns
invariant-turns l = HasBegunFreely l.table l.at.0 l.turns l.fn.replay l.replay l.list.items l.fn.rest l.rest
