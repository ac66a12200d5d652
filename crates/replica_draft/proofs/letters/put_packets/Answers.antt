use Rattle.std.proofs.Common.{sym, ◌∙◌}
use Rattle.replica_draft.proofs.SendLemmas.{Putting-next, Putting-skip, cursor_at}
use Rattle.replica_draft.proofs.letters.put_packets.Goals as goal
use Rattle.replica_draft.proofs.letters.put_packets.Goals.{then-reaches+in_ok-put_packet, else-reaches}

pub put_packet-requires-clause-cursor : goal.put_packet-requires-clause-cursor
put_packet-requires-clause-cursor c = cursor_at c.args.sends.now c.loop-sent.sent-index c.sent-item.result c.loop-sent-test.true c.sent-item.is c.requires.cursors

pub loop-sent-preserved : goal.loop-sent-preserved
loop-sent-preserved c =
    elim c.if-reaches.branch [
      | then-reaches+in_ok-put_packet w ↦
          rw w.into-is (Putting-next c.args.me c.args.member c.args.sends.now c.loop-sent.sent-index c.sent-item.result c.args.into.now.items c.loop-sent.into.items w.put_packet.new.into.items c.loop-sent-test.true c.sent-item.is (sym c.reaches.ensures ∙ w.if-reaches.true)
          w.in_ok-put_packet.ensures.keep w.in_ok-put_packet.ensures.fits w.in_ok-put_packet.ensures.spelled c.loop-sent.invariant)
      | else-reaches w ↦
          rw w.into-is (Putting-skip c.args.me c.args.member c.args.sends.now c.loop-sent.sent-index c.sent-item.result c.args.into.now.items c.loop-sent.into.items c.loop-sent-test.true c.sent-item.is (sym c.reaches.ensures ∙ w.if-reaches.false) c.loop-sent.invariant)
    ]
