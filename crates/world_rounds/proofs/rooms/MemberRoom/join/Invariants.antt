use Rattle.std.proofs.Common.{◌≡◌, ◌≤◌, ◌+◌, length}
use Rattle.std.specs.Vec.{vec_capacity}
use Rattle.world_rounds.proofs.Together.{Joining}
use Rattle.world_rounds.proofs.rooms.MemberRoom.join.Given as goal

abbrev pub invariant-nodes : goal.invariant-nodes
invariant-nodes g l =
    Joining l.fn.nodes.items l.fn.mails.items l.members.items l.nodes.items l.mails.items × (length l.members.items + length l.nodes.items ≤ vec_capacity l.members)
    × (vec_capacity l.nodes ≡ vec_capacity l.fn.nodes) × (vec_capacity l.mails ≡ vec_capacity l.fn.mails)

abbrev pub decreases-nodes : goal.decreases-nodes
decreases-nodes g l = length l.nodes.items
