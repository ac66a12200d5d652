use Rattle.std.proofs.Common.{IsTrue}
use Rattle.std.proofs.lemmas.List.Elements.{All-push}
use Rattle.paxos_base.specs.Rows.{OpenHasCursor}
use Rattle.launch_tests.proofs.machine.chosen_of.Goals as goal

pub loop-row-preserved : goal.loop-row-preserved
loop-row-preserved c =
    let yes : IsTrue c.has_cursor.result = cc in
    rw c.in_ok-push.ensures.items (All-push OpenHasCursor _ _ c.loop-row.invariant (c.has_cursor.ensures yes))
