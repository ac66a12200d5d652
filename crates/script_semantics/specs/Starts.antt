-- Where the parts of a script begin among the turns of a book.
use Rattle.std.specs.Prelude.{◌≡◌, ℕ, suc, ◌<◌, ◌≤◌, List, length, take, All, AllPairs, get_or}
use Rattle.due_set.specs.Table.{Table}
use Rattle.script_text.specs.declared.command.Command.{Command}
use Rattle.history.specs.Book.{Row}
use Rattle.script_semantics.specs.Script.{ArePartsOf, Obeys}
use Rattle.script_semantics.specs.Situation.{Situation, first_situation}

-- Parts may begin at these of so many turns: the first at the first turn, none before the one in front of it, and none
-- behind the last turn.
pub record AreStarts (turns : ℕ) (starts : List ℕ) : Type 0 where
  pub some : 0 < length starts
  pub first : get_or starts 0 0 ≡ 0
  pub rise : AllPairs (λ a b. a ≤ b) starts
  pub within : All (λ start. start ≤ turns) starts

-- The parts of a script begin at these numbers, and last the walk behind it: the turns before each of them are the parts
-- of the commands before it.
pub record BeginAt (members : ℕ) (table : Table) (script : List Command) (rows : List Row) (starts : List ℕ) : Type 0 where
  pub obeys : Obeys members table script rows
  pub count : length starts ≡ suc (length script)
  pub within : All (λ start. start ≤ length rows) starts
  pub before : (place : ℕ) → place < length starts
      → (situation : Situation)
      × ArePartsOf members table (take place script) (first_situation members table) (take (get_or starts place 0) rows)
      situation
