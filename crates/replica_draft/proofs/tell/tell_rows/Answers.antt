use Rattle.std.proofs.lemmas.List.{take_all}
use Rattle.replica_draft.proofs.DraftLemmas.{says-rows}
use Rattle.replica_draft.proofs.tell.tell_rows.Goals as goal

pub returns : goal.returns
returns c =
    says-rows c.args.sends.now.items c.loop-row.sends.items c.args.to c.args.slot c.args.rows.now
    (rw (take_all c.loop-row.row-index c.args.rows.now c.loop-row-test.false) at c.loop-row.invariant)
