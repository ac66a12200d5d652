-- Turns of two replicas in which one puts its launch table in the place of what it has learned, and the other takes that table.
use Rattle.std.specs.Prelude.{◌≡◌, ℕ, ◌+◌, ◌<◌, ◌≤◌, ℤ, false, List, [], ◌∷◌, ◌++◌, length, map, take, None, Some, slice_get}
use Rattle.due_set.specs.Table.{Table}
use Rattle.launch_machine.specs.Clerk.{first_rows, table_size}
use Rattle.paxos_base.specs.Vote.{votes_from}
use Rattle.paxos_base.specs.declared.entry.Vote.{Vote}
use Rattle.paxos_base.specs.declared.rows.JobRow.{JobRow}
use Rattle.step_spec.specs.Heard.{heard_as}
use Rattle.step_spec.specs.Letters.{IsHeardAs}
use Rattle.step_spec.specs.Message.{Message, Prepare, Promise, Snap}
use Rattle.step_spec.specs.State.{State, prefix_of}
use Rattle.step_spec.specs.Step.{IsLaunchTable}
use Rattle.step_spec.specs.Step as told
use Rattle.step_spec.specs.declared.out.OutLetter.{OutLetter}
use Rattle.history.specs.Book.{Row, standing_after}
use Rattle.history.specs.Legal.{IsLegal}
use Rattle.history.specs.declared.turn.Cause.TheVariants.{Campaign, Tick, Hear}
use Rattle.history.specs.declared.turn.Turn.{Turn}
use Rattle.history.specs.declared.turn.Turn.TheVariants.{Did, Stopped, Restarted}

-- The last turns of a book in which so many letters were posted before. The clock of replica 0, which leads, ticks twice: it puts
-- its launch table in the place of what it has learned, and proposes a start. Replica 1 stops, and starts again without what it
-- has learned. It stands for leader; replica 0 hears that it asks for votes below the base, and sends the table, which replica 1
-- takes. Then replica 1 stands for leader once more, and replica 0 promises.
abbrev pub last_turns : (now : ℤ) → (posted : ℕ) → List Turn
last_turns now posted =
    Did 0 (Tick (record { 0 = now })) None
    ∷ Did 0 (Tick (record { 0 = now })) None
    ∷ Stopped 1 None false
    ∷ Restarted 1
    ∷ Did 1 Campaign None
    ∷ Did 0 (Hear (posted + 1)) None
    ∷ Did 1 (Hear (posted + 2)) None
    ∷ Did 1 Campaign None
    ∷ Did 0 (Hear (posted + 3)) None
    ∷ []

-- the number of letters that two replicas have posted in a book
abbrev pub posted_in : Table → List Row → ℕ
posted_in table book = length (standing_after 2 (first_rows table) book).posted

-- what one of two replicas has after a book
abbrev pub replica_after : Table → List Row → ℕ → State
replica_after table book who = (standing_after 2 (first_rows table) book).replicas who

-- the replica has these rows in the place of all entries below the base, and has learned none from there on
pub record HasTable (state : State) (base : ℕ) (rows : List JobRow) : Type 0 where
  pub base_is : state.kept.base ≡ base
  pub rows_are : state.kept.rows ≡ rows
  pub learned : state.learned ≡ []

-- the replica has no such base yet: it has learned the entries of all slots below a prefix, and these rows are its launch table
pub record HasLearned (table : Table) (state : State) (prefix : ℕ) (rows : List JobRow) : Type 0 where
  pub base_is : state.kept.base ≡ 0
  pub prefix_is : prefix_of state ≡ prefix
  pub rows_are : IsLaunchTable table state rows

-- in the turn of that number a replica hears these messages of another
pub record Hears (rows : List Row) (number from : ℕ) (messages : List Message) : Type 0 where
  pub row : Row
  pub there : slice_get rows number ≡ Some row
  pub is : row.event ≡ told.Hear from messages

-- in the turn of that number replica 0 hears that replica 1 asks for votes from a slot on, and its letter has this answer and no more
pub record AnswersPrepare (table : Table) (rows : List Row) (number ballot slot : ℕ) (answer : Message) : Type 0 where
  pub hears : Hears rows number 1 (Prepare ballot slot ∷ [])
  pub letter : OutLetter
  pub sent : hears.row.letters ≡ letter ∷ []
  pub to : letter.to ≡ 1
  pub says : IsHeardAs 2 (table_size table) letter.bytes 0 (heard_as answer)

-- A legal book of two replicas that ends with those turns. Both have learned 64 entries or more, and replica 0 has its launch table
-- in their place from the first of those turns on. Where replica 1, which has lost what it had learned, asks for votes below that
-- base, replica 0 answers with the table, and replica 1 takes it; where it asks for votes from the base on, with its votes there.
pub record HasSnapshots (table : Table) (front back : List Row) : Type 0 where
  pub legal : IsLegal 2 table (front ++ back)
  pub now : ℤ
  pub turns : map (λ row. row.turn) back ≡ last_turns now (posted_in table front)
  pub base : ℕ
  pub far : 64 ≤ base
  pub rows : List JobRow
  pub learned : (who : ℕ) → who < 2 → HasLearned table (replica_after table front who) base rows
  pub put : HasTable (replica_after table (front ++ take 1 back) 0) base rows
  pub lost : HasTable (replica_after table (front ++ take 5 back) 1) 0 (first_rows table)
  pub ballot : ℕ
  pub copied : AnswersPrepare table back 5 ballot 0 (Snap base rows)
  pub heard : Hears back 6 0 (Snap base rows ∷ [])
  pub taken : HasTable (replica_after table (front ++ take 7 back) 1) base rows
  pub kept : HasTable (replica_after table (front ++ take 8 back) 0) base rows
  pub later : ℕ
  pub votes : List Vote
  pub votes_are : votes ≡ votes_from base (replica_after table (front ++ take 8 back) 0).kept.votes
  pub some : 0 < length votes
  pub promised : AnswersPrepare table back 8 later base (Promise later base votes)
