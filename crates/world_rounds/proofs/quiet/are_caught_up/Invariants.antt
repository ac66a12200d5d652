use Rattle.std.proofs.Common.{◌≡◌, ℕ, ◌<◌, Some}
use Rattle.std.specs.List.{slice_get}
use Rattle.step_spec.specs.State.{prefix_of}
use Rattle.replica_node.specs.Node.{replica_of}
use Rattle.world_rounds.specs.declared.member.Member.{Member}
use Rattle.world_rounds.proofs.quiet.are_caught_up.Given as goal

abbrev pub invariant-members : goal.invariant-members
invariant-members g l =
    (who : ℕ) (member : Member g.row.D.Denot) → who < l.member-index → slice_get l.members who ≡ Some member → prefix_of (replica_of member.node).state ≡ l.prefix
