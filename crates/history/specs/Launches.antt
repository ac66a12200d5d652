-- What the acts of a step do to the launch table.
use Rattle.std.specs.Prelude.{◌≡◌, List, [], ◌∷◌}
use Rattle.paxos_base.specs.declared.rows.JobRow.{JobRow}
use Rattle.due_set.specs.Table.{Table}
use Rattle.launch_machine.specs.Clerk.{Applies}
use Rattle.step_spec.specs.Act.{Act, Learn, Rebase}

-- The launch table after some acts: an entry that is learned is applied to it, and rows in the place of entries take its place.
abbrev pub LeavesTable : Table → List JobRow → List Act → List JobRow → Type 0
LeavesTable table old [] new = new ≡ old
LeavesTable table old (Learn slot entry ∷ acts) new = (middle : List JobRow) × Applies table old entry middle × LeavesTable table middle acts new
LeavesTable table old (Rebase slot rows ∷ acts) new = LeavesTable table rows acts new
LeavesTable table old (act ∷ acts) new = LeavesTable table old acts new
