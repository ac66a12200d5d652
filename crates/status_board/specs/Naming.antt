-- The rule under which readers are shown states: what is shown is the last of its states, and whoever has the board's name
-- has the name of what is shown.
use Rattle.std.specs.Prelude.{◌≡◌, ℕ, List, Option, None, Some, ⊤}
use mathlib.Core.Option.{some}
use lib.ListN.{get_elem?}
use Rattle.logbook.specs.Pages.{Book}
use Rattle.status_board.specs.declared.name.Name.{Name}
use Rattle.status_board.specs.Posted.{Posted}
use Rattle.status_board.specs.Shown.{IsLast}

-- a board's name
abbrev pub board_name_of : Book → Name
board_name_of board = record { number = board.number; log = board.log_name; cells = board.cells_name }

-- who has a name has this board's
abbrev pub Names : Option Name → Book → Type 0
Names None board = ⊤
Names (Some name) board = name ≡ board_name_of board

-- what is shown is the last of its states
abbrev pub IsShown : Posted → Type 0
IsShown posted = IsLast posted.states posted.prefix posted.rows

-- each name is that of the board that is shown
abbrev pub AllName : Book → List (Option Name) → Type 0
AllName board names = (seat : ℕ) (name : Option Name) → get_elem? names seat ≡ some name → Names name board

-- a posted state is shown, and each of these names is of its board
pub record Keeps (posted : Posted) (names : List (Option Name)) : Type 0 where
  pub shown : IsShown posted
  pub named : AllName posted.board names

-- a reader sees a state of the board that it names
abbrev pub Sees : Option Name → Posted → Posted → Option Name → Type 0
Sees name before after later = (later ≡ name) × IsShown after × Names name after.board

-- the writer shows a state, and has the name of its board
abbrev pub ShowsIt : Option Name → Posted → Posted → Option Name → Type 0
ShowsIt name before after later = later ≡ Some (board_name_of after.board)

-- who is told a name has that one
abbrev pub told_name : Option Name → Option Name → Option Name
told_name name other = other
