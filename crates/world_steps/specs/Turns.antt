-- A step that becomes a turn of a book.
use Rattle.std.specs.Prelude.{◌≡◌, ℕ, ◌-◌, ◌≤◌, List, [], ◌∷◌, ◌++◌, Option, None, Some, false, slice_get}
use Rattle.cluster_sched.specs.declared.fate.Fate.{Fate}
use Rattle.cluster_sched.specs.declared.fate.Fate.TheVariants as becomes
use Rattle.disk_model.specs.declared.armed.Arm.{Arm}
use Rattle.due_set.specs.Table.{Table}
use Rattle.history.specs.Book.{Row, answer_to}
use Rattle.history.specs.declared.turn.CallRow.{CallRow}
use Rattle.history.specs.declared.turn.Turn.TheVariants.{Did}
use Rattle.replica_core.specs.Replica.{ReplicaState}
use Rattle.world_law.specs.Book.{BookState, StandsBehind}
use Rattle.world_law.specs.Replicas.{StandsAt}
use Rattle.world_law.specs.declared.letter.LetterRow.{LetterRow}
use Rattle.world_steps.specs.declared.mail.MemberMail.{MemberMail}
use Rattle.world_steps.specs.Steps.{TookStep, waits_in}
use Rattle.world_steps.specs.declared.steps.Taken.{Taken}

-- a book has these letters, each at its number
abbrev pub HasLetters : List LetterRow → BookState → Type 0
HasLetters letters book = (number : ℕ) (letter : LetterRow) → slice_get letters number ≡ Some letter → slice_get book.letters number ≡ Some letter

-- A replica that stands where these rows of a book leave it has taken a step beside the book.
pub record IsNextStep (table : Table) (rows : List Row) (book : BookState) (who : ℕ) (taken : Taken) (old new : ReplicaState) : Type 0 where
  pub behind : StandsBehind table rows book
  pub rest : book.pending ≡ None
  pub few : book.members ≤ 7
  pub stands : StandsAt table rows book old
  pub me : old.identity.me ≡ who
  pub step : TookStep table book.letters (waits_in table rows book who) who taken old new

-- so it has, by some rows
pub record MayJoin (table : Table) (book : BookState) (who : ℕ) (taken : Taken) : Type 0 where
  pub rows : List Row
  pub old : ReplicaState
  pub new : ReplicaState
  pub next : IsNextStep table rows book who taken old new

-- The step's turn has joined the book, with the call that was made for it.
pub record HasJoined (table : Table) (rows : List Row) (old new : BookState) (who : ℕ) (taken : Taken) (made : Option CallRow) (row : Row) : Type 0 where
  pub turn : row.turn ≡ Did who taken.cause made
  pub letters : row.letters ≡ taken.out.letters
  pub behind : StandsBehind table (rows ++ row ∷ []) new
  pub rest : new.pending ≡ None
  pub members : new.members ≡ old.members
  pub has : HasLetters old.letters new

-- and the replica stands where that leaves it
pub record HasJoinedAt (table : Table) (rows : List Row) (old new : BookState) (who : ℕ) (taken : Taken) (made : Option CallRow)
    (replica : ReplicaState) : Type 0 where
  pub row : Row
  pub joined : HasJoined table rows old new who taken made row
  pub stands : StandsAt table (rows ++ row ∷ []) new replica

-- ---- what is set for the replica

-- the fate of the next call behind a step, which may have made one
abbrev pub fate_then : Option CallRow → Fate → Fate
fate_then None set = set
fate_then (Some made) set = becomes.Done

-- how a disk is armed behind a step whose change took so many calls to save
abbrev pub arm_then : (calls : ℕ) → Option Arm → Option Arm
arm_then calls None = None
arm_then calls (Some arm) = Some (record arm { left = arm.left - calls })

-- What is set for a replica behind its step: an answer of the call that the step has made waits for it, and its disk has so many calls less
-- left, where it is armed.
abbrev pub noted : Option CallRow → (calls : ℕ) → MemberMail → MemberMail
noted made calls mail = record mail { waits = answer_to made; fate = fate_then made mail.fate; arm = arm_then calls mail.arm }

-- what is set for a replica that has stopped: no letter and no answer waits for it, and its disk isn't armed
pub record IsHalted (old new : MemberMail) : Type 0 where
  pub runs : new.runs ≡ false
  pub letters : new.letters.items ≡ []
  pub skew : new.skew ≡ old.skew
  pub fate : new.fate ≡ old.fate
  pub waits : new.waits ≡ None
  pub arm : new.arm ≡ None
