-- The bounds in which letters are heard whole, and worlds within them of which something holds.
use Rattle.std.specs.Prelude.{ℕ, ◌*◌, ◌^◌, ◌<◌, List, length, Contains, Option, None, Some, slice_get}
use Rattle.disk_model.specs.View.{DiskView}
use Rattle.due_set.specs.Table.{Table}
use Rattle.replica_node.specs.Node.{replica_of}
use Rattle.history.specs.Book.{Row}
use Rattle.script_semantics.specs.Situation.{Situation}
use Rattle.settling.specs.Rounds.{IsFaultless}
use Rattle.settling.specs.Idle.{left_of}
use Rattle.world_law.specs.Book.{BookState}
use Rattle.world_law.specs.declared.letter.LetterRow.{LetterRow}
use Rattle.world_rounds.specs.World.{IsWorldAt}
use Rattle.world_rounds.specs.declared.member.Member.{Member}
use Rattle.world_rounds.specs.declared.world.World.{World}

-- the letters have fewer bytes than 2^31 packets have, of 56 bytes each, since a letter of so many packets is heard as none
abbrev pub AreShort : List LetterRow → Type 0
AreShort letters = (letter : LetterRow) → Contains letters letter → length letter.bytes < 56 * 2 ^ 31

-- The book is within the bounds in which each letter is heard whole: it has fewer than 2^59 turns, and its letters are short.
pub record IsBookBounded (book : BookState) : Type 0 where
  pub turns : length book.turns < 2 ^ 59
  pub letters : AreShort book.letters

-- The world is within the bounds and without a fault, in a situation of which this holds.
pub record IsFaultlessIn {D : Type 0} (view : DiskView D) (table : Table) (holds : ℕ → Situation → Type 0) (world : World D) : Type 0 where
  pub rows : List Row
  pub situation : Situation
  pub is : IsWorldAt view table rows world situation
  pub faultless : IsFaultless world.book.members situation
  pub given : holds world.book.members situation
  pub bounded : IsBookBounded world.book

-- the rounds that are left to a replica until it is idle, at most
abbrev pub left_to : {D : Type 0} → Table → Option (Member D) → ℕ
left_to table None = 0
left_to table (Some member) =
    left_of table (replica_of member.node).machine.rows member.mail.waits (replica_of member.node).state

-- the rounds that are left to a replica of the world, by its number, until it is idle, at most
abbrev pub left_in : {D : Type 0} → Table → ℕ → World D → ℕ
left_in table who world = left_to table (slice_get world.members.items who)
