use Rattle.std.specs.Prelude.{◌≡◌, ◌++◌, ◌∷◌, [], length, map, take}
use Rattle.paxos_base.specs.declared.rows.JobRow.{JobRow}
use Rattle.paxos_letter.specs.declared.packet.Packet.TheVariants as packet
use Rattle.step_spec.specs.Message.{Only}
use Rattle.replica_draft.specs.Draft.{said_in}
use Rattle.replica_draft.proofs.tell.tell_rows.Given as goal

abbrev pub invariant-loop-row : goal.invariant-loop-row
invariant-loop-row l =
    map said_in l.sends.items
    ≡ (map said_in l.fn.sends.items ++ (Only l.to, packet.Snap l.slot (length l.rows)) ∷ []) ++ map (λ (row : JobRow). (Only l.to, packet.SnapRow l.slot row)) (take l.row-index l.rows)
