-- The parts of a world, by the situation in which they are.
use Rattle.std.specs.Prelude.{◌≡◌, ℕ, ◌≤◌, ◌≤ℤ◌, List, [], ◌++◌, length, Option, None, Some, Contains, slice_get, vec_capacity}
use Rattle.disk_model.specs.declared.armed.Arm.{Arm}
use Rattle.disk_model.specs.View.{DiskView}
use Rattle.due_set.specs.Table.{IsSound, Table}
use Rattle.history.specs.Book.{Row}
use Rattle.replica_node.specs.declared.node.Node.{Node}
use Rattle.script_text.specs.Command.{IsSkew}
use Rattle.script_semantics.specs.Situation.{Armed, Situation, is_cut}
use Rattle.world_law.specs.Book.{BookState, StandsBehind, standing_behind}
use Rattle.world_law.specs.declared.letter.LetterRow.{LetterRow}
use Rattle.world_steps.specs.Nodes.{AreNodesOf, bases_behind}
use Rattle.world_steps.specs.declared.bundle.Bundle.{Bundle}
use Rattle.world_steps.specs.declared.mail.MemberMail.{MemberMail}

-- the letter of that number goes to the replica
pub record IsSentTo (letters : List LetterRow) (who number : ℕ) : Type 0 where
  pub letter : LetterRow
  pub there : slice_get letters number ≡ Some letter
  pub to : letter.to ≡ who

-- The rows stand behind a book at rest, of a table of jobs and at most seven replicas, and this is the situation after them: its
-- latest clock reading is of the window or later, and the replicas have kept as many bases as the rows have.
pub record IsBookAt (table : Table) (rows : List Row) (book : BookState) (situation : Situation) : Type 0 where
  pub sound : IsSound table
  pub behind : StandsBehind table rows book
  pub rest : book.pending ≡ None
  pub few : book.members ≤ 7
  pub standing : situation.standing ≡ standing_behind table rows book
  pub since : table.window.from.0 ≤ℤ situation.latest
  pub bases : situation.bases ≡ bases_behind table rows book

-- how a disk is armed, by what is set for its replica
abbrev pub armed_in : Option Arm → Option Armed
armed_in None = None
armed_in (Some arm) = Some (record { left = arm.left; image = arm.image })

-- What is set for a replica is what the situation has, but for letters that it has heard in steps that aren't turns yet; and the letters
-- of its mail go to it.
pub record IsMailOf (letters : List LetterRow) (situation : Situation) (who : ℕ) (heard : List ℕ) (mail : MemberMail) : Type 0 where
  pub runs : mail.runs ≡ situation.standing.runs who
  pub letters_are : situation.mails who ≡ heard ++ mail.letters.items
  pub skew : mail.skew ≡ situation.skews who
  pub small : IsSkew mail.skew
  pub fate : mail.fate ≡ situation.fates who
  pub waits : mail.waits ≡ situation.standing.waits who
  pub arm : armed_in mail.arm ≡ situation.arms who
  pub sent : (number : ℕ) → Contains mail.letters.items number → IsSentTo letters who number

-- **The parts are those of a world in this situation**, and behind their book stand these rows: there is a node and a mail for each of
-- the book's replicas.
pub record ArePartsAt {D R : Type 0} (view : DiskView D) (table : Table) (rows : List Row) (parts : Bundle (Node D) R) (situation : Situation) : Type 0 where
  pub at : IsBookAt table rows parts.book situation
  pub nodes : AreNodesOf view table rows parts.book parts.nodes.items
  pub count : length parts.mail.members.items ≡ parts.book.members
  pub mails : (who : ℕ) (mail : MemberMail) → slice_get parts.mail.members.items who ≡ Some mail → IsMailOf parts.book.letters situation who [] mail
  pub cuts : (from to : ℕ) → is_cut from to parts.mail.cuts.items ≡ is_cut from to situation.cuts
  pub latest : parts.mail.latest.0 ≡ situation.latest

-- so they are, for some rows and in some situation
pub record AreParts {D R : Type 0} (view : DiskView D) (table : Table) (parts : Bundle (Node D) R) : Type 0 where
  pub rows : List Row
  pub situation : Situation
  pub are : ArePartsAt view table rows parts situation

-- the lists of the parts have room for as many replicas as a world has at most
pub record HasListRoom {N R : Type 0} (parts : Bundle N R) : Type 0 where
  pub nodes : 7 ≤ vec_capacity parts.nodes
  pub mails : 7 ≤ vec_capacity parts.mail.members
