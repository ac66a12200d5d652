-- How far each replica has come in a part in no order, as a replay keeps it. Private functions alone cite it.
use Rattle.std.specs.Prelude.{◌≡◌, ⊤, ℕ, ◌+◌, ◌<◌, ◌≤◌, Bool, true, false, List, [], ◌∷◌, ◌++◌, length, Option, None, Some, ℤ, set, slice_get}
use Rattle.zone_minutes.specs.declared.minute.Window.{Window}
use Rattle.due_set.specs.Table.{Table}
use Rattle.term_core.specs.Term.{is_leader}
use Rattle.history.specs.Book.{Row, turn_of}
use Rattle.journal_line.specs.Told.{ToldLine}
use Rattle.journal_text.specs.Journal.{turn_line}
use Rattle.replica_core.specs.Replica.{ReplicaState}
use Rattle.script_semantics.specs.Arms.{IsTurnByArm}
use Rattle.script_semantics.specs.Free.{Course, IsFreeTurn, after_all_posted, after_posted, course_of, is_turn_of, next_cause}
use Rattle.script_semantics.specs.Situation.{Situation, Do, changes_in}
use Rattle.run_replay.specs.Judged.{IsJudged, changes_with}
use Rattle.run_replay.specs.Quiet.{runs_by_seat}
use Rattle.run_replay.specs.Replay.{IsReplayAt}
use Rattle.run_replay.specs.declared.judge.Judged.{Judged}
use Rattle.run_replay.specs.declared.replay.Replay.{Replay}
use Rattle.run_replay.specs.declared.replay.Seat.{Seat}
use Rattle.run_replay.specs.declared.replay.Setting.{Setting}
use Rattle.run_audit.specs.ByArms.{AreSet}
use Rattle.run_audit.specs.Coming.{StopsNext}
use Rattle.run_audit.specs.declared.free.Progress.{Progress}
use Rattle.run_audit.specs.declared.lines.Rest.{Rest}
use Rattle.run_audit.specs.declared.verdict.Stop.{Stop}
use Rattle.run_audit.specs.declared.verdict.Stop.TheVariants.{At, OutOfMemory}

-- ---- what a replica saw

-- whether a letter waits
abbrev pub has_any : List ℕ → Bool
has_any [] = false
has_any (number ∷ numbers) = true

-- whether a replica leads; one that is stopped doesn't
abbrev pub leads_by : Option ReplicaState → Bool
leads_by None = false
leads_by (Some replica) = is_leader replica.state.term

abbrev pub leads_in : Seat → Bool
leads_in seat = leads_by seat.replica

-- How far it has come: it has had so many turns, and whether a letter waited for it and it led in what it saw last.
pub record IsProgressIn (course : Course) (who : ℕ) (progress : Progress) : Type 0 where
  pub taken : progress.taken ≡ course.taken
  pub letter : progress.has_letter ≡ has_any (course.seen.mails who)
  pub leads : progress.leads ≡ is_leader (course.seen.standing.replicas who).term

-- a replica that has had so many turns, and sees what is now
abbrev pub course_now : (taken : ℕ) → Situation → Course
course_now taken situation = record { here = situation; seen = situation; taken = taken }

-- What is set for it is as it saw it last, but for letters that have come since.
pub record SawLast (who : ℕ) (seen : Situation) (setting : Setting) (progress : Progress) : Type 0 where
  pub waits : setting.waits ≡ seen.standing.waits who
  pub skew : setting.skew ≡ seen.skews who
  pub since : List ℕ
  pub mail : setting.mail.items ≡ seen.mails who ++ since
  pub letter : progress.has_letter ≡ has_any (seen.mails who)
  pub leads : progress.leads ≡ is_leader (seen.standing.replicas who).term

-- each of them has come so far, and had as many turns at most
pub record AreProgress (members turns : ℕ) (situation : Situation) (rows : List Row) (list : List Progress) : Type 0 where
  pub count : length list ≡ members
  pub each : (who : ℕ) (progress : Progress) → slice_get list who ≡ Some progress → IsProgressIn (course_of members who situation rows) who progress
  pub most : (who : ℕ) (progress : Progress) → slice_get list who ≡ Some progress → progress.taken ≤ turns

-- a replica that runs has a turn left
pub record IsWaiting (turns : ℕ) (replay : Replay) (list : List Progress) (who : ℕ) : Type 0 where
  pub seat : Seat
  pub there : slice_get replay.seats.items who ≡ Some seat
  pub runs : runs_by_seat seat ≡ true
  pub progress : Progress
  pub is : slice_get list who ≡ Some progress
  pub left : progress.taken < turns

-- ---- the next turn

-- the turn is what the replica was to do, by what it saw last
abbrev pub DoesNext : Window → (at : ℤ) → Replay → Judged → (who : ℕ) → Progress → Type 0
DoesNext window at replay judged who progress =
    (members : ℕ) (here seen : Situation) (row : Row) (setting : Setting) → AreSet here replay.settings.items
    → slice_get replay.settings.items who ≡ Some setting
    → SawLast who seen setting progress → row.turn ≡ judged.turn
    → changes_in members here.standing row.turn row.event ≡ changes_with judged.out.delta judged.lost
    → IsTurnByArm members here (Do who (next_cause window at who progress.taken seen)) row

-- the turn is the next of a replica that has one left
pub record GoesNext (window : Window) (at : ℤ) (turns : ℕ) (replay : Replay) (list : List Progress) (judged : Judged) (who : ℕ) : Type 0 where
  pub mine : turn_of judged.turn ≡ Some who
  pub progress : Progress
  pub is : slice_get list who ≡ Some progress
  pub left : progress.taken < turns
  pub does : DoesNext window at replay judged who progress

-- it isn't the next of this replica
abbrev pub GoesNot : Window → (at : ℤ) → (turns : ℕ) → Replay → List Progress → Judged → (who : ℕ) → Type 0
GoesNot window at turns replay list judged who =
    (progress : Progress) → slice_get list who ≡ Some progress → progress.taken < turns
    → (members : ℕ) (here seen : Situation) (row : Row) (setting : Setting) → AreSet here replay.settings.items
    → slice_get replay.settings.items who ≡ Some setting
    → SawLast who seen setting progress → row.turn ≡ judged.turn
    → changes_in members here.standing row.turn row.event ≡ changes_with judged.out.delta judged.lost
    → IsTurnByArm members here (Do who (next_cause window at who progress.taken seen)) row → ⊥

-- it is the next of none
abbrev pub GoesNone : Window → (at : ℤ) → (turns : ℕ) → Replay → List Progress → Judged → Type 0
GoesNone window at turns replay list judged = (who : ℕ) → turn_of judged.turn ≡ Some who → GoesNot window at turns replay list judged who

-- A turn that was judged was taken, and its letters have joined the mails at once; its replica has had one turn more, and sees what is now.
pub record HasTakenFreely (table : Table) (judged : Judged) (who : ℕ) (old : Replay) (before : List Progress) (new : Replay)
    (after : List Progress) : Type 0 where
  pub joins : (rows : List Row) (situation : Situation) (told : ToldLine) (start : Replay) → IsReplayAt table rows start situation
      → (is : IsJudged table rows told start old judged)
      → IsReplayAt table (rows ++ is.row ∷ []) new (after_posted start.book.members situation is.row)
  pub progress : Progress
  pub is : slice_get before who ≡ Some progress
  pub next : Progress
  pub list : after ≡ set before who next
  pub sees : (rows : List Row) (situation : Situation) → IsReplayAt table rows new situation → IsProgressIn (course_now (progress.taken + 1) situation) who next

-- the row is the next turn of some replica that has one left
pub record IsNextOfAny (members : ℕ) (window : Window) (at : ℤ) (turns : ℕ) (situation : Situation) (part : List Row) (row : Row) : Type 0 where
  pub who : ℕ
  pub member : who < members
  pub own : is_turn_of who row.turn ≡ true
  pub free : IsFreeTurn members window at turns who (course_of members who situation part) row

-- the next turn of the text is a wanted one, and was taken
pub record TakesWanted (table : Table) (rows : List Row) (wanted leaves : Row → Type 0) (text rest : Rest) : Type 0 where
  pub row : Row
  pub next : wanted row
  pub text_is : text.text.now ≡ turn_line table (length rows, row.turn) ++ 10 ∷ rest.text.now
  pub number : rest.number ≡ text.number + 1
  pub leaves_so : leaves row

-- so it is in any part in which all have come so far: behind the turn its letters have joined the mails, and its replica has come further
abbrev pub TakesFree : Table → (at : ℤ) → (turns : ℕ) → (old : Replay) (list : List Progress) (new : Replay) (next : List Progress)
    → (text rest : Rest) → Type 0
TakesFree table at turns old list new next text rest =
    (rows : List Row) (situation : Situation) (part : List Row) → IsReplayAt table (rows ++ part) old (after_all_posted old.book.members situation part)
    → AreProgress old.book.members turns situation part list
    → TakesWanted table (rows ++ part) (IsNextOfAny old.book.members table.window at turns situation part)
    (λ row. IsReplayAt table ((rows ++ part) ++ row ∷ []) new (after_all_posted old.book.members situation (part ++ row ∷ []))
    × AreProgress old.book.members turns situation (part ++ row ∷ []) next) text rest

-- it isn't, or memory was wanting
abbrev pub StopsFree : Table → (at : ℤ) → (turns : ℕ) → Replay → List Progress → Rest → Stop → Type 0
StopsFree table at turns old list text (At line why) =
    (rows : List Row) (situation : Situation) (part : List Row) → IsReplayAt table (rows ++ part) old (after_all_posted old.book.members situation part)
    → AreProgress old.book.members turns situation part list
    → StopsNext old.book.members table (rows ++ part) (IsNextOfAny old.book.members table.window at turns situation part) text line why
StopsFree table at turns old list text OutOfMemory = ⊤
