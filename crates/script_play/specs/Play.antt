-- A world on disks in memory, and a script that it has played.
use Rattle.std.specs.Prelude.{◌≡◌, ℕ, ◌+◌, ◌<◌, List, ◌++◌, length, take, get_or}
use Rattle.zone_minutes.specs.Window.{IsInWindow}
use Rattle.zone_minutes.specs.declared.minute.Window.{Window}
use Rattle.disk_model.specs.MemDisk.{view_of}
use Rattle.disk_model.specs.declared.mem_disk.MemDisk.{MemDisk}
use Rattle.due_set.specs.Table.{Table}
use Rattle.script_text.specs.declared.command.Command.{Command}
use Rattle.script_text.specs.declared.command.Command.TheVariants.{Free}
use Rattle.history.specs.Book.{Row}
use Rattle.script_semantics.specs.Starts.{BeginAt}
use Rattle.replica_node.specs.declared.node.Node.{Node}
use Rattle.settling.specs.Rounds.{IsWithinBounds}
use Rattle.script_semantics.specs.Script.{ArePartsOf, Obeys}
use Rattle.script_semantics.specs.Situation.{Situation, first_situation}
use Rattle.world_law.specs.Book.{BookState, StandsBehind}
use Rattle.world_steps.specs.Nodes.{AreNodesOf}
use Rattle.world_rounds.specs.Commands.{IsTaken}
use Rattle.world_rounds.specs.Start.{IsFreshDisk}
use Rattle.world_rounds.specs.World.{IsWorldAt, book_of}
use Rattle.world_rounds.specs.declared.world.World.{World}

-- the disk's files are empty, whatever a stop leaves; a disk in memory is honest
abbrev pub IsFreshMemDisk : MemDisk → Type 0
IsFreshMemDisk disk = IsFreshDisk view_of disk

-- the world on disks in memory is in this situation, and behind its book stand these rows
abbrev pub IsMemWorldAt : Table → List Row → World MemDisk → Situation → Type 0
IsMemWorldAt table rows world situation = IsWorldAt view_of table rows world situation

-- **The nodes on disks in memory are those of the book's replicas**, behind which these rows stand: what a read of node r's
-- disk gives stands for what replica r keeps.
abbrev pub AreMemNodesOf : Table → List Row → BookState → List (Node MemDisk) → Type 0
AreMemNodesOf table rows book nodes = AreNodesOf view_of table rows book nodes

-- The command is one that a world takes, or one for replicas that run by themselves: there are some, and the instant is in the window.
abbrev pub IsPlayable : Window → ℕ → Command → Type 0
IsPlayable window members (Free at turns) = (0 < members) × IsInWindow window at.0
IsPlayable window members command = IsTaken window members command

-- The part of the command of a place begins at this number of turns, where so many were taken before the script: the
-- rows in front of it are the parts of the commands before it.
pub record PartBegins (members : ℕ) (table : Table) (script : List Command) (first : ℕ) (situation : Situation) (rows : List Row)
    (place start : ℕ) : Type 0 where
  pub front : List Row
  pub back : List Row
  pub middle : Situation
  pub split : rows ≡ front ++ back
  pub number : start ≡ first + length front
  pub parts : ArePartsOf members table (take place script) situation front middle

-- The rows are the parts of commands, one after another, which begin at these numbers of turns, where so many were
-- taken before them.
pub record ArePartsFrom (members : ℕ) (table : Table) (script : List Command) (first : ℕ) (starts : List ℕ) (situation : Situation) (rows : List Row)
    (after : Situation) : Type 0 where
  pub parts : ArePartsOf members table script situation rows after
  pub count : length starts ≡ length script
  pub each : (place : ℕ) → place < length starts → PartBegins members table script first situation rows place (get_or starts place 0)

-- The world of so many replicas has played the script, from before any turn on: behind its book stand the turns of the
-- script's parts, which begin at these numbers.
pub record HasPlayed (table : Table) (members : ℕ) (script : List Command) (starts : List ℕ) (world : World MemDisk) : Type 0 where
  pub rows : List Row
  pub situation : Situation
  pub parts : ArePartsFrom members table script 0 starts (first_situation members table) rows situation
  pub is : IsMemWorldAt table rows world situation
  pub count : (book_of world).members ≡ members

-- The world of so many replicas has played the script, from before any turn on, and has then walked to the window's last minute: the
-- turns that stand behind its book obey the script, and end in the world's situation, within the limits in which each letter is heard whole.
pub record HasRun (table : Table) (members : ℕ) (script : List Command) (world : World MemDisk) : Type 0 where
  pub rows : List Row
  pub situation : Situation
  pub obeys : Obeys members table script rows
  pub ends : obeys.after ≡ situation
  pub limits : IsWithinBounds rows situation.standing.posted
  pub is : IsMemWorldAt table rows world situation
  pub count : (book_of world).members ≡ members

-- The turns of the book obey the script, whose parts begin at these numbers of turns, and last the walk behind them.
pub record HasStarts (table : Table) (script : List Command) (book : BookState) (starts : List ℕ) : Type 0 where
  pub rows : List Row
  pub behind : StandsBehind table rows book
  pub begin : BeginAt book.members table script rows starts
