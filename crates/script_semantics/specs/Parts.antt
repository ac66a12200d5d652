-- Parts of a book, each between two situations, and how parts are put together.
use Rattle.std.specs.Prelude.{◌≡◌, ℕ, List, [], ◌++◌}
use Rattle.history.specs.Book.{Row}
use Rattle.script_semantics.specs.Situation.{Performs, Situation, Task}

-- one part, and then another
pub record Then (first second : Situation → List Row → Situation → Type 0) (situation : Situation) (rows : List Row) (after : Situation) : Type 0 where
  pub front : List Row
  pub middle : Situation
  pub back : List Row
  pub parts : rows ≡ front ++ back
  pub one : first situation front middle
  pub two : second middle back after

-- something is set, and nobody has a turn
pub record Sets (change : Situation → Situation) (situation : Situation) (rows : List Row) (after : Situation) : Type 0 where
  pub none : rows ≡ []
  pub is : after ≡ change situation

-- nothing happens
abbrev pub Stays : Situation → List Row → Situation → Type 0
Stays = Sets (λ situation. situation)

-- the turns of the tasks that the situation asks for
abbrev pub Plays : ℕ → (Situation → List Task) → Situation → List Row → Situation → Type 0
Plays members tasks situation rows after = Performs members (tasks situation) situation rows after
