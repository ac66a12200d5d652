-- How a drain goes on, in a world.
use Rattle.std.specs.Prelude.{ℕ, List, ◌++◌, ℤ}
use Rattle.due_set.specs.Table.{Table}
use Rattle.history.specs.Book.{Row}
use Rattle.script_semantics.specs.Settling.{Drains}
use Rattle.script_semantics.specs.Situation.{Situation}

-- **What has come belongs to a drain**: however the drain goes on from here, so it goes on from the start.
abbrev pub DrainsOn : ℕ → Table → (who : ℕ) → (at : ℤ) → Situation → List Row → Situation → Type 0
DrainsOn members table who at start rows here =
    (more : List Row) (after : Situation) → Drains members table who at here more after → Drains members table who at start (rows ++ more) after
