use Rattle.std.proofs.Common.{◌≡◌, ◌≤◌, length}
use Rattle.std.specs.Vec.{vec_capacity}
use Rattle.world_rounds.proofs.Apart.{Taking}
use Rattle.world_rounds.proofs.rooms.PartsRoom.take.Given as goal

abbrev pub invariant-members : goal.invariant-members
invariant-members g l =
    Taking l.fn.members.items l.members.items l.nodes.items l.mails.items × (7 ≤ vec_capacity l.nodes) × (7 ≤ vec_capacity l.mails) × (vec_capacity l.members ≡ vec_capacity l.fn.members)

abbrev pub decreases-members : goal.decreases-members
decreases-members g l = length l.members.items
