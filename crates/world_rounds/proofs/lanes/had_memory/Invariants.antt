use Rattle.std.proofs.Common.{◌≡◌, ℕ, ◌<◌, false, Some}
use Rattle.std.specs.List.{slice_get}
use Rattle.world_rounds.specs.declared.member.Member.{Member}
use Rattle.world_rounds.proofs.lanes.had_memory.Given as goal

abbrev pub invariant-members : goal.invariant-members
invariant-members g l = (who : ℕ) (member : Member g.row.D.Denot) → who < l.member-index → slice_get l.members who ≡ Some member → member.short ≡ false
