use Rattle.std.proofs.Common.{map, refl}
use Rattle.replica_draft.specs.Draft.{said_in}
use Rattle.replica_draft.proofs.SendLemmas.{Carry-next, Carry-skip, no_packets}
use Rattle.replica_draft.proofs.letters.write_letters.Goals as goal
use Rattle.replica_draft.proofs.letters.write_letters.Goals.{then-count-gt0+in_ok-letter_to+in_ok-push, else-count-gt0}

pub loop-member-preserved : goal.loop-member-preserved
loop-member-preserved c =
    elim c.if-count-gt0.branch [
      | then-count-gt0+in_ok-letter_to+in_ok-push w ↦
          rw w.letters-is (rw w.in_ok-push.ensures.items (Carry-next c.args.me c.loop-member.member (map said_in c.args.sends.now) _ c.loop-member.letters.items w.in_ok-letter_to.field-0 refl w.in_ok-letter_to.ensures.to w.in_ok-letter_to.ensures.spells c.loop-member.invariant))
      | else-count-gt0 w ↦
          rw w.letters-is (Carry-skip c.args.me c.loop-member.member (map said_in c.args.sends.now) _ c.loop-member.letters.items refl (no_packets _ _ c.count_to-count.ensures w.if-count-gt0.false) c.loop-member.invariant)
    ]
