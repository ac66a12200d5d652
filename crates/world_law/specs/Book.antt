-- A book as a program keeps it, and the rows that stand behind it.
use Rattle.std.specs.Prelude.{◌≡◌, ℕ, ◌<◌, ◌≤◌, List, [], ◌∷◌, ◌++◌, length, map, max, Option, None, Some}
use Rattle.std.specs.List.{enumerate_from, flat_map}
use Rattle.std.specs.Option.{option_to_list}
use Rattle.zone_minutes.specs.declared.minute.Minute.{Minute}
use Rattle.cluster_sched.specs.Fates.{Holdings, call}
use Rattle.cluster_sched.specs.Fates as ledger
use Rattle.cluster_sched.specs.declared.row.SchedRow.{SchedRow}
use Rattle.due_set.specs.Table.{Table}
use Rattle.launch_machine.specs.Clerk.{first_rows}
use Rattle.agreement.specs.Transition.{identity_of}
use Rattle.step_spec.specs.Folds.{calls_of, letters_of}
use Rattle.step_spec.specs.Step.{Event}
use Rattle.step_spec.specs.declared.out.OutLetter.{OutLetter}
use Rattle.history.specs.Book.{PostedLetter, Row, Standing, acts_at, arriving, held_after, late_after, late_call, standing_after, turn_of, under, vote_of_delta}
use Rattle.history.specs.Legal.{IsLegal, MayFollow, TakesTurn, answered}
use Rattle.history.specs.declared.turn.CallRow.{CallRow}
use Rattle.history.specs.declared.turn.Cause.TheVariants.{Tick}
use Rattle.history.specs.declared.turn.Turn.{Turn}
use Rattle.history.specs.declared.turn.Turn.TheVariants.{Did, Arrived}
use Rattle.replica_core.specs.declared.out.StepOut.{StepOut}
use Rattle.world_law.specs.declared.letter.LetterRow.{LetterRow}

-- how many turns, letters and arrivals can join a book without memory
pub record Room : Type 0 where
  pub turns : ℕ
  pub letters : ℕ
  pub arrivals : ℕ

-- What a program keeps of a book: how many replicas there are, the turns, the letters that were posted, the scheduler's ledger, the
-- numbers of the late calls that have arrived, the call that the next turn carries, where one was made, and how much room there is.
pub record BookState : Type 0 where
  pub members : ℕ
  pub turns : List Turn
  pub letters : List LetterRow
  pub ledger : Holdings
  pub arrived : List ℕ
  pub pending : Option CallRow
  pub room : Room

-- the letters that a replica posts in a turn, as a book keeps them; where there is none, none are posted
abbrev pub letter_rows : (from : Option ℕ) → (turn : ℕ) → List OutLetter → List LetterRow
letter_rows None turn letters = []
letter_rows (Some from) turn letters = map (λ (letter : OutLetter). record { from = from; to = letter.to; turn = turn; bytes = letter.bytes }) letters

-- how many bytes the longest letter has, or 0
abbrev pub longest_of : List LetterRow → ℕ
longest_of [] = 0
longest_of (letter ∷ letters) = max (length letter.bytes) (longest_of letters)

-- a letter of a book, but for the turn that posted it
abbrev pub posted_as : LetterRow → PostedLetter
posted_as letter = record { from = letter.from; to = letter.to; bytes = letter.bytes }

-- for each letter of some rows the number of the turn that posted it
abbrev pub posting_turns : List Row → List ℕ
posting_turns rows = flat_map (λ numbered. map (λ letter. numbered.0) numbered.1.letters) (enumerate_from 0 rows)

-- what stands after the rows, for as many replicas as the book has
abbrev pub standing_behind : Table → List Row → BookState → Standing
standing_behind table rows book = standing_after book.members (first_rows table) rows

-- The rows stand behind the book: they are legal, the book has their turns, the letters that they posted and the arrivals, and its
-- ledger is theirs, with what a call has done that the next turn carries.
pub record StandsBehind (table : Table) (rows : List Row) (book : BookState) : Type 0 where
  pub legal : IsLegal book.members table rows
  pub turns : book.turns ≡ map (λ row. row.turn) rows
  pub letters : map posted_as book.letters ≡ (standing_behind table rows book).posted
  pub posting : map (λ letter. letter.turn) book.letters ≡ posting_turns rows
  pub held : book.ledger.held ≡ held_after book.pending (standing_behind table rows book).held
  pub late : book.ledger.late ≡ late_after book.pending (standing_behind table rows book).held (standing_behind table rows book).late
  pub arrived : book.arrived ≡ (standing_behind table rows book).arrived

-- the book is legal: legal rows stand behind it
abbrev pub IsLegalBook : Table → BookState → Type 0
IsLegalBook table book = (rows : List Row) × StandsBehind table rows book

-- the row of a turn, by what comes of its step: the letters, the votes of what changed on the disk, and what was learned
pub record IsRowOf (turn : Turn) (out : StepOut) (row : Row) : Type 0 where
  pub turn_is : row.turn ≡ turn
  pub letters : row.letters ≡ out.letters
  pub votes : row.votes ≡ flat_map vote_of_delta (option_to_list out.delta)
  pub learnt : row.learnt ≡ out.learnt

-- the turn may come next in the book, with what comes of its step
pub record IsNext (table : Table) (book : BookState) (turn : Turn) (out : StepOut) : Type 0 where
  pub rows : List Row
  pub behind : StandsBehind table rows book
  pub row : Row
  pub is : IsRowOf turn out row
  pub may : MayFollow book.members table (standing_behind table rows book) row.turn row

-- the call that a turn carries
abbrev pub call_of : Turn → Option CallRow
call_of (Did who cause made) = made
call_of turn = None

-- A turn with so many letters can join the book without memory, also an arrival, for whose row there is room. While a call is
-- pending no late call arrives, so the row that it held has had that room.
pub record HasRoom (letters : ℕ) (book : BookState) : Type 0 where
  pub turn : 0 < book.room.turns
  pub letter : letters ≤ book.room.letters
  pub arrival : 0 < book.room.arrivals
  pub row : book.pending ≡ None → 0 < book.ledger.spare

-- the book stands as it did; its room isn't told
pub record IsSameBook (new old : BookState) : Type 0 where
  pub members : new.members ≡ old.members
  pub turns : new.turns ≡ old.turns
  pub letters : new.letters ≡ old.letters
  pub ledger : ledger.IsUnchanged old.ledger new.ledger
  pub arrived : new.arrived ≡ old.arrived
  pub pending : new.pending ≡ old.pending

-- a ledger was called, and the call's rows joined the others as they do in a turn
pub record HasCalled (made : CallRow) (old new : Holdings) : Type 0 where
  pub held : new.held ≡ held_after (Some made) old.held
  pub late : new.late ≡ late_after (Some made) old.held old.late
  pub answer : made.answer ≡ answered (call made.fate made.row (under made.row.name old.held)).answer

-- A tick may come next whose step asks for this row, and for no other; and there is room for its turn.
pub record MayTickFor (table : Table) (book : BookState) (row : SchedRow) : Type 0 where
  pub rows : List Row
  pub behind : StandsBehind table rows book
  pub who : ℕ
  pub now : Minute
  pub event : Event
  pub takes : TakesTurn book.members table (standing_behind table rows book) who (Tick now) event
  pub asks : calls_of (acts_at book.members (standing_behind table rows book) who event) ≡ row ∷ []
  pub room : HasRoom (length (letters_of (identity_of book.members who) (acts_at book.members (standing_behind table rows book) who event))) book

-- the ledger of a book was called, and the call is pending
pub record MakesCall (made : CallRow) (old new : BookState) : Type 0 where
  pub members : new.members ≡ old.members
  pub turns : new.turns ≡ old.turns
  pub letters : new.letters ≡ old.letters
  pub ledger : HasCalled made old.ledger new.ledger
  pub arrived : new.arrived ≡ old.arrived
  pub pending : new.pending ≡ Some made

-- the rows that the scheduler holds after a turn that no call is part of
abbrev pub held_then : Turn → Holdings → List SchedRow
held_then (Arrived number) before = arriving (late_call number before.late) before.held
held_then turn before = before.held

-- the number of the late call that arrives in a turn, where one does
abbrev pub arrivals_of : Turn → List ℕ
arrivals_of (Arrived number) = number ∷ []
arrivals_of turn = []

-- A turn is added with the letters of its step, and no call is pending any more. The call that was has done its work before: the
-- ledger changes by an arrival alone.
pub record Commits (turn : Turn) (letters : List OutLetter) (old new : BookState) : Type 0 where
  pub members : new.members ≡ old.members
  pub turns : new.turns ≡ old.turns ++ turn ∷ []
  pub posted : new.letters ≡ old.letters ++ letter_rows (turn_of turn) (length old.turns) letters
  pub held : new.ledger.held ≡ held_then turn old.ledger
  pub late : new.ledger.late ≡ old.ledger.late
  pub arrived : new.arrived ≡ old.arrived ++ arrivals_of turn
  pub pending : new.pending ≡ None
