use Rattle.std.proofs.Common.{◌≡◌, ℕ, ◌<◌, None, Some}
use Rattle.std.specs.List.{slice_get}
use Rattle.world_rounds.specs.declared.member.Member.{Member}
use Rattle.world_rounds.proofs.world.World.is_armed.Given as goal

abbrev pub invariant-members : goal.invariant-members
invariant-members g l = (who : ℕ) (member : Member g.row.D.Denot) → who < l.member-index → slice_get l.fn.self.members.items who ≡ Some member → member.mail.arm ≡ None
