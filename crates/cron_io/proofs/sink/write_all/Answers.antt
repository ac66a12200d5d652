use Rattle.std.proofs.Common.{arith}
use Rattle.std.proofs.lemmas.Grind.{common_steps}
use Rattle.cron_io.proofs.WritingLemmas.{IsWriting-next, IsWriting-refused, IsWriting-done}
use Rattle.cron_io.proofs.sink.write_all.Goals as goal

pub pieces-preserved : goal.pieces-preserved
pieces-preserved g c =
    IsWriting-next _ _ _ _ c.pieces.rest.now _ c.in_ok-count.count c.pieces.invariant (grind (arith, common_steps))
    c.in_ok-count.ensures.bytes c.in_ok-count.ensures.cause.later c.in_ok-count.ensures.at_once c.in_ok-count.ensures.by_room

pub returns-in_err-count-clause-by_room : goal.returns-in_err-count-clause-by_room
returns-in_err-count-clause-by_room g c =
    IsWriting-refused _ _ _ _ c.pieces.rest.now c.in_err-count.field-0.0 c.from_residual.result c.pieces.invariant (grind (arith, common_steps))
    c.from_residual.ensures.0 c.in_err-count.ensures.by_room

pub returns-clause-by_room : goal.returns-clause-by_room
returns-clause-by_room g c = IsWriting-done _ _ _ c.pieces.rest.now c.pieces.invariant (grind (arith, common_steps))
