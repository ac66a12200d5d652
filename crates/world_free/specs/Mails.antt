-- A replica's mail as its thread keeps it, and what a look at a book adds to it.
use Rattle.std.specs.Prelude.{◌≡◌, ℕ, ◌-◌, ◌==◌, ◌&&◌, not, Bool, false, true, List, [], ◌∷◌, ◌++◌, length, map, filter, Option, None, Some, Contains, slice_get}
use Rattle.std.specs.List.{range_with_len}
use Rattle.cluster_sched.specs.declared.row.SchedRow.{SchedRow}
use Rattle.history.specs.Book.{PostedLetter, post}
use Rattle.history.specs.declared.turn.Cause.{Cause}
use Rattle.history.specs.declared.turn.Cause.TheVariants.{Campaign, Tick, Hear, Answer}
use Rattle.replica_core.specs.declared.input.Input.{Input}
use Rattle.replica_core.specs.declared.input.Input.TheVariants as told
use Rattle.script_semantics.specs.Situation.{Situation, is_cut}
use Rattle.script_text.specs.Command.{IsSkew}
use Rattle.world_law.specs.Book.{posted_as}
use Rattle.world_law.specs.Replicas.{IsLetterInput}
use Rattle.world_law.specs.declared.letter.LetterRow.{LetterRow}
use Rattle.world_steps.specs.Parts.{armed_in}
use Rattle.world_steps.specs.declared.mail.MemberMail.{MemberMail}
use Rattle.script_semantics.specs.Others.{mail_behind}
use Rattle.world_free.specs.declared.job.FreeMail.{FreeMail}
use Rattle.world_steps.specs.declared.steps.Taken.{Taken}

-- the letter goes to the replica, and isn't lost
abbrev pub comes_to : List (ℕ × ℕ) → ℕ → Option PostedLetter → Bool
comes_to cuts who None = false
comes_to cuts who (Some letter) = (letter.to == who) && not (is_cut letter.from letter.to cuts)

-- the numbers of such letters among so many from a number on
abbrev pub coming : List (ℕ × ℕ) → ℕ → List PostedLetter → (first count : ℕ) → List ℕ
coming cuts who posted first count = filter (λ number. comes_to cuts who (slice_get posted number)) (range_with_len first count)

-- the letters of a book, and then those of a step that a replica has taken beside it
abbrev pub posted_with : List LetterRow → ℕ → Taken → List PostedLetter
posted_with letters who taken = map posted_as letters ++ post who taken.out.letters

-- the bytes that the thread has are those of the mail's first letter
abbrev pub HasFirstBytes : List PostedLetter → FreeMail → Type 0
HasFirstBytes posted mail =
    (number : ℕ) (rest : List ℕ) (letter : PostedLetter) → mail.mail.letters.items ≡ number ∷ rest → slice_get posted number ≡ Some letter
    → mail.bytes.items ≡ letter.bytes

-- but for the letters nothing is changed
pub record KeepsSet (old new : FreeMail) : Type 0 where
  pub runs : new.mail.runs ≡ old.mail.runs
  pub skew : new.mail.skew ≡ old.mail.skew
  pub fate : new.mail.fate ≡ old.mail.fate
  pub waits : new.mail.waits ≡ old.mail.waits
  pub arm : new.mail.arm ≡ old.mail.arm

-- The thread has looked at a book, into which its replica's step is to come: the mail has lost the letter that the step has heard, and
-- has gained the letters from the last look on.
pub record HasLooked (cuts : List (ℕ × ℕ)) (letters : List LetterRow) (who : ℕ) (taken : Taken) (old new : FreeMail) : Type 0 where
  pub set : KeepsSet old new
  pub letters_are : new.mail.letters.items
      ≡ mail_behind taken.cause old.mail.letters.items
      ++ coming cuts who (posted_with letters who taken) old.looked (length (posted_with letters who taken) - old.looked)
  pub looked : new.looked ≡ length (posted_with letters who taken)
  pub bytes : HasFirstBytes (posted_with letters who taken) new

-- by which input a replica is told of a cause, by what its thread keeps
abbrev pub IsToldHere : FreeMail → Cause → Input → Type 0
IsToldHere mail Campaign input = input ≡ told.Campaign
IsToldHere mail (Tick now) input = input ≡ told.Tick now
IsToldHere mail (Hear number) input = IsLetterInput input mail.bytes.items
IsToldHere mail Answer input = (row : SchedRow) → mail.mail.waits ≡ Some row → input ≡ told.Answer row.name.job row.name.at row.kind

-- ---- by the situation

-- a letter of these goes to the replica
pub record IsPostedTo (posted : List PostedLetter) (who number : ℕ) : Type 0 where
  pub letter : PostedLetter
  pub there : slice_get posted number ≡ Some letter
  pub to : letter.to ≡ who

-- what the thread of a replica keeps is what the situation has, in which it has looked at all letters
pub record IsMailIn (situation : Situation) (who : ℕ) (mail : FreeMail) : Type 0 where
  pub runs : mail.mail.runs ≡ true
  pub letters_are : mail.mail.letters.items ≡ situation.mails who
  pub skew : mail.mail.skew ≡ situation.skews who
  pub small : IsSkew mail.mail.skew
  pub fate : mail.mail.fate ≡ situation.fates who
  pub waits : mail.mail.waits ≡ situation.standing.waits who
  pub arm : armed_in mail.mail.arm ≡ situation.arms who
  pub looked : mail.looked ≡ length situation.standing.posted
  pub sent : (number : ℕ) → Contains mail.mail.letters.items number → IsPostedTo situation.standing.posted who number
  pub bytes : HasFirstBytes situation.standing.posted mail

-- what is set for a replica that is stopped, and has no letter, is what the situation has
pub record IsStoppedMailIn (situation : Situation) (who : ℕ) (mail : MemberMail) : Type 0 where
  pub none : mail.letters.items ≡ []
  pub letters_are : situation.mails who ≡ []
  pub skew : mail.skew ≡ situation.skews who
  pub small : IsSkew mail.skew
  pub fate : mail.fate ≡ situation.fates who
  pub waits : mail.waits ≡ situation.standing.waits who
  pub arm : armed_in mail.arm ≡ situation.arms who
