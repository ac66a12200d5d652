-- What the clocks read in some turns, and which of them are a script's; and grace that lasts as long as the window.
use Rattle.std.specs.Prelude.{ℕ, List, pos, ◌+ℤ◌, ◌≤ℤ◌}
use Rattle.due_set.specs.Table.{Table}
use Rattle.script_text.specs.declared.command.Command.{Command}
use Rattle.history.specs.Book.{Row}
use Rattle.script_semantics.specs.Script.{Obeys}
use Rattle.script_semantics.specs.Situation.{Situation}

-- the turns of the script, before the walk to the window's last minute
abbrev pub script_turns : {members : ℕ} {table : Table} {script : List Command} {rows : List Row} → Obeys members table script rows → List Row
script_turns obeyed = obeyed.obeys.front

-- the situation after them, in which the walk begins
abbrev pub script_end : {members : ℕ} {table : Table} {script : List Command} {rows : List Row} → Obeys members table script rows → Situation
script_end obeyed = obeyed.obeys.middle

-- grace lasts as long as the window
abbrev pub IsGraceLong : Table → Type 0
IsGraceLong table = table.window.until.0 ≤ℤ (table.window.from.0 +ℤ pos table.grace)
