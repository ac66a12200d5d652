-- What is seen of a board after each command `free` of a script, by the rows behind the book.
use Rattle.std.specs.Prelude.{◌≡◌, ◌⊎◌, ℕ, suc, ◌<◌, ◌≤◌, Bool, true, false, List, [], ◌∷◌, ◌++◌, length, map, take, Option, None, Some, is_some, Contains, filter, get_or, slice_get, ⊤}
use Rattle.std.specs.List.{enumerate_from}
use Rattle.paxos_base.specs.Rows.{row_count}
use Rattle.disk_model.specs.View.{DiskView}
use Rattle.due_set.specs.Table.{Table}
use Rattle.launch_machine.specs.Clerk.{first_rows, table_size}
use Rattle.paxos_base.specs.declared.rows.JobRow.{JobRow}
use Rattle.step_spec.specs.State.{prefix_of}
use Rattle.history.specs.Book.{Row, standing_after}
use Rattle.script_text.specs.declared.command.Command.{Command}
use Rattle.script_text.specs.declared.command.Command.TheVariants.{Free}
use Rattle.script_semantics.specs.Free.{is_turn_of}
use Rattle.script_semantics.specs.Script.{IsPartOf}
use Rattle.script_semantics.specs.Situation.{Situation}
use Rattle.script_semantics.specs.Starts.{BeginAt}
use Rattle.world_law.specs.Book.{BookState, StandsBehind}
use Rattle.world_free.specs.Board.{IsOfBook, MayShow}
use Rattle.world_rounds.specs.World.{IsWorldAt}
use Rattle.world_rounds.specs.declared.world.World.{World}
use Rattle.disk_model.specs.declared.mem_disk.MemDisk.{MemDisk}
use Rattle.script_play.specs.Play.{ArePartsFrom, HasPlayed}
use Rattle.script_play.specs.declared.seen.Seen.{Seen}
use Rattle.script_play.specs.declared.watch.Watch.{Watch}

-- ---- the highest prefix

-- the prefix of the first replica directly after the turn of a number
abbrev pub prefix_after : (members : ℕ) → Table → List Row → (number : ℕ) → ℕ
prefix_after members table rows number = prefix_of ((standing_after members (first_rows table) (take (suc number) rows)).replicas 0)

-- the command is `free`
abbrev pub is_free : Command → Bool
is_free (Free at turns) = true
is_free other = false

-- the first replica had the turn of this number, in the part of a command `free` before a place
pub record IsShownTurn (script : List Command) (rows : List Row) (starts : List ℕ) (before number : ℕ) : Type 0 where
  pub place : ℕ
  pub early : place < before
  pub command : Command
  pub is_command : slice_get script place ≡ Some command
  pub free : is_free command ≡ true
  pub since : get_or starts place 0 ≤ number
  pub until : number < get_or starts (suc place) (length rows)
  pub row : Row
  pub is_row : slice_get rows number ≡ Some row
  pub mine : is_turn_of 0 row.turn ≡ true

-- **The greatest prefix that the first replica had after such a turn**, or 0
pub record IsHighest (members : ℕ) (table : Table) (script : List Command) (rows : List Row) (starts : List ℕ) (before prefix : ℕ) : Type 0 where
  pub most : (number : ℕ) → IsShownTurn script rows starts before number → prefix_after members table rows number ≤ prefix
  pub is : (prefix ≡ 0) ⊎ ((number : ℕ) × IsShownTurn script rows starts before number × (prefix_after members table rows number ≡ prefix))

-- ---- what is seen

-- how many jobs are open in a launch table
abbrev pub open_jobs : List JobRow → ℕ
open_jobs rows = length (filter (λ (row : JobRow). is_some row.open_now) rows)

-- What was seen after the command of a number: the highest prefix up to there, and how many jobs are open in the launch table of the
-- clerk who has gone over as many entries of the log.
pub record IsSeen (members : ℕ) (table : Table) (script : List Command) (rows : List Row) (starts : List ℕ) (seen : Seen) : Type 0 where
  pub highest : IsHighest members table script rows starts seen.number seen.prefix
  pub launches : List JobRow
  pub of_book : IsOfBook members table rows seen.prefix launches
  pub jobs_open : seen.jobs_open ≡ open_jobs launches

-- the numbers of the commands `free` of a script, whose commands are numbered from 1
abbrev pub free_numbers : List Command → List ℕ
free_numbers script = map (λ (of : ℕ × Command). of.0) (filter (λ (of : ℕ × Command). is_free of.1) (enumerate_from 1 script))

-- **So much was seen**: something after each command `free`, in order.
pub record AreSeen (members : ℕ) (table : Table) (script : List Command) (rows : List Row) (starts : List ℕ) (seen : List Seen) : Type 0 where
  pub numbers : map (λ (s : Seen). s.number) seen ≡ free_numbers script
  pub each : (s : Seen) → Contains seen s → IsSeen members table script rows starts s

-- the turns of the book obey the script, whose parts begin at these numbers, and so much was seen
pub record IsWatched (table : Table) (script : List Command) (book : BookState) (starts : List ℕ) (seen : List Seen) : Type 0 where
  pub rows : List Row
  pub behind : StandsBehind table rows book
  pub begin : BeginAt book.members table script rows starts
  pub are : AreSeen book.members table script rows starts seen

-- ---- a watch

-- A watch that may look at free turns of a run with this table: its writer may show them, and its reader is one of that board.
pub record MayWatch (table : Table) (watch : Watch) : Type 0 where
  pub may : MayShow table watch.writer
  pub board : watch.reader.board ≡ watch.writer.board
  pub total : watch.reader.total ≡ row_count (table_size table)

-- so it is where there is a watch
abbrev pub MayWatchOn : Table → Option Watch → Type 0
MayWatchOn table None = ⊤
MayWatchOn table (Some watch) = MayWatch table watch

-- What a watch knows after the commands of a script, whose parts begin at these numbers: its writer has shown the highest prefix, with
-- the clerk's launch table, and so much was seen.
pub record Watches (members : ℕ) (table : Table) (script : List Command) (rows : List Row) (starts : List ℕ) (watch : Watch) : Type 0 where
  pub within : (place : ℕ) → get_or starts place (length rows) ≤ length rows
  pub highest : IsHighest members table script rows starts (length script) watch.writer.prefix
  pub of_book : IsOfBook members table rows watch.writer.prefix watch.writer.machine.rows
  pub seen : AreSeen members table script rows starts watch.seen.items

-- so it is where there is a watch
abbrev pub WatchesOn : (members : ℕ) → Table → List Command → List Row → List ℕ → Option Watch → Type 0
WatchesOn members table script rows starts None = ⊤
WatchesOn members table script rows starts (Some watch) = Watches members table script rows starts watch

-- **The world goes on by the part of the command of a place**, and a watch goes on with it, where there is one.
abbrev pub GoesOnWatched : {D : Type 0} → DiskView D → Table → Command → (place : ℕ) → (old new : World D) → (watch watch' : Option Watch) → Type 0
GoesOnWatched view table command place old new watch watch' =
    (rows : List Row) (situation : Situation) → IsWorldAt view table rows old situation
    → (more : List Row) × (after : Situation) × IsPartOf old.book.members table command situation more after × IsWorldAt view table (rows ++ more) new after
    × ((script : List Command) (starts : List ℕ) → length script ≡ place → length starts ≡ place → WatchesOn old.book.members table script rows starts watch
    → WatchesOn old.book.members table (script ++ command ∷ []) (rows ++ more) (starts ++ length rows ∷ []) watch')

-- the world goes on by the parts of commands, and a watch with it that begins with them
abbrev pub PlaysWatched : {D : Type 0} → DiskView D → Table → List Command → (starts : List ℕ) → (old new : World D) → (watch watch' : Option Watch) → Type 0
PlaysWatched view table script starts old new watch watch' =
    (rows : List Row) (situation : Situation) → IsWorldAt view table rows old situation
    → (more : List Row) × (after : Situation) × ArePartsFrom old.book.members table script (length old.book.turns) starts situation more after
    × IsWorldAt view table (rows ++ more) new after
    × (WatchesOn old.book.members table [] rows [] watch → WatchesOn old.book.members table script (rows ++ more) starts watch')

-- the world of so many replicas has played the script from before any turn on, and a watch that began with it
pub record HasPlayedWatched (table : Table) (members : ℕ) (script : List Command) (starts : List ℕ) (world : World MemDisk)
    (watch watch' : Option Watch) : Type 0 where
  pub played : HasPlayed table members script starts world
  pub watched : WatchesOn members table [] [] [] watch → WatchesOn members table script played.rows starts watch'

-- what a watch has seen of a run, where there is one
abbrev pub IsWatchedOn : Table → List Command → BookState → List ℕ → Option Watch → Type 0
IsWatchedOn table script book starts None = ⊤
IsWatchedOn table script book starts (Some watch) = IsWatched table script book starts watch.seen.items
