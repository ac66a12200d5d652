-- What stands behind a book once the steps of a replica that is ahead of it are turns.
use Rattle.std.proofs.Common.{◌≡◌, ℕ, zero, suc, ◌+◌, ◌<◌, ◌≤◌, List, [], ◌∷◌, ◌++◌, length, Option, None, Some, IsSome, Result, Ok, refl, sym, ap, ◌∙◌, subst, arith, length-append}
use Rattle.std.specs.List.{slice_get}
use Rattle.std.specs.Option.{option_to_list}
use Rattle.cron_io.specs.declared.out_of_memory.OutOfMemory.{OutOfMemory}
use Rattle.cluster_sched.specs.Fates.{call}
use Rattle.cluster_sched.specs.declared.fate.Fate.TheVariants.{Done}
use Rattle.cluster_sched.specs.declared.row.SchedRow.{SchedRow}
use Rattle.due_set.specs.Table.{Table}
use Rattle.step_spec.specs.State.{Identity}
use Rattle.step_spec.specs.declared.out.OutLetter.{OutLetter}
use Rattle.history.specs.Book.{Row, Standing, held_after, late_after, turn_of, under}
use Rattle.history.specs.Legal.{IsMade, answered}
use Rattle.history.specs.declared.turn.CallRow.{CallRow}
use Rattle.history.specs.declared.turn.Cause.{Cause}
use Rattle.history.specs.declared.turn.Cause.TheVariants.{Campaign, Tick, Hear, Answer}
use Rattle.history.specs.declared.turn.Turn.{Turn}
use Rattle.history.specs.declared.turn.Turn.TheVariants.{Did}
use Rattle.replica_core.specs.Replica.{ReplicaState}
use Rattle.replica_core.specs.declared.input.Input.{Input}
use Rattle.world_law.specs.Book.{BookState, Commits, StandsBehind, arrivals_of, held_then, letter_rows, standing_behind}
use Rattle.world_law.specs.Replicas.{IsInputOf, IsTurnOf, StandsAt}
use Rattle.world_law.specs.declared.letter.LetterRow.{LetterRow}
use Rattle.world_law.proofs.Behind.{turn_is_added}
use Rattle.world_law.proofs.Called.{called_stands, held_at_rest}
use Rattle.world_law.proofs.Steps.{step_is_turn}
use Rattle.world_steps.specs.Steps.{IsToldOf, TookStep, TookSteps}
use Rattle.world_steps.specs.Turns.{HasLetters}
use Rattle.world_steps.specs.declared.steps.Taken.{Taken}
use Rattle.step_spec.proofs.ListLemmas.{found_still as found_more}

-- ---- a letter is there, and stays where it is

pub there_is : {X : Type 0} (xs : List X) (k : ℕ) → k < length xs → IsSome (slice_get xs k)
there_is [] k below = absurd (omega arith)
there_is (x ∷ xs) zero below = refl
there_is (x ∷ xs) (suc k) below = there_is xs k (omega arith)

-- the book tells the replica so
pub is_input : (standing : Standing) (book : BookState) (letters : List LetterRow) (waits : Option SchedRow) (who : ℕ) (cause : Cause) (input : Input) → HasLetters letters book
    → ((row : SchedRow) → waits ≡ Some row → standing.waits who ≡ Some row) → IsToldOf letters waits who cause input → IsInputOf standing book who cause input
is_input standing book letters waits who Campaign input has waiting told = told
is_input standing book letters waits who (Tick now) input has waiting told = told
is_input standing book letters waits who (Hear number) input has waiting told =
    record { letter = told.sent.letter; there = has number told.sent.letter told.sent.there; to = told.sent.to; is = told.is }
is_input standing book letters waits who Answer input has waiting told = record { row = told.row; waits = waiting told.row told.waiting; is = told.is }

-- ---- a book with one turn more

-- the call that a step asks for, as if it were answered at once
abbrev made_for : List SchedRow → Option SchedRow → Option CallRow
made_for held None = None
made_for held (Some row) = Some (record { row = row; fate = Done; answer = answered (call Done row (under row.name held)).answer })

is_made : (held : List SchedRow) (asked : Option SchedRow) → IsMade held (option_to_list asked) (made_for held asked)
is_made held None = refl
is_made held (Some row) = (refl, refl, refl)

abbrev called : Option CallRow → BookState → BookState
called None book = book
called (Some made) book =
    record book {
      ledger = record book.ledger { held = held_after (Some made) book.ledger.held; late = late_after (Some made) book.ledger.held book.ledger.late };
      pending = Some made;
    }

abbrev pub added : Turn → List OutLetter → BookState → BookState
added turn letters book =
    record book {
      turns = book.turns ++ turn ∷ [];
      letters = book.letters ++ letter_rows (turn_of turn) (length book.turns) letters;
      ledger = record book.ledger { held = held_then turn book.ledger };
      arrived = book.arrived ++ arrivals_of turn;
      pending = None;
    }

pub adds : (turn : Turn) (letters : List OutLetter) (book : BookState) → Commits turn letters book (added turn letters book)
adds turn letters book = record { members = refl; turns = refl; posted = refl; held = refl; late = refl; arrived = refl; pending = refl }

answer_for : List SchedRow → SchedRow → Result CallRow OutOfMemory
answer_for held row = Ok (record { row = row; fate = Done; answer = answered (call Done row (under row.name held)).answer })

call_joins : (table : Table) (rows : List Row) (book : BookState) (asked : Option SchedRow) → book.pending ≡ None → StandsBehind table rows book
    → StandsBehind table rows (called (made_for book.ledger.held asked) book)
unfolding answer_for
call_joins table rows book None rest behind = behind
call_joins table rows book (Some row) rest behind =
    called_stands table (answer_for book.ledger.held row) book (called (made_for book.ledger.held (Some row)) book) rest
    (record { members = refl; turns = refl; letters = refl; ledger = record { held = refl; late = refl; answer = refl }; arrived = refl; pending = refl }) tt rows behind

called_pends : (book : BookState) (made : Option CallRow) → book.pending ≡ None → (called made book).pending ≡ made
called_pends book None rest = rest
called_pends book (Some made) rest = refl

called_members : (book : BookState) (made : Option CallRow) → (called made book).members ≡ book.members
called_members book None = refl
called_members book (Some made) = refl

called_letters : (book : BookState) (made : Option CallRow) → (called made book).letters ≡ book.letters
called_letters book None = refl
called_letters book (Some made) = refl

-- ---- steps that are turns some day

-- In some legal book of so many turns, which has these letters, the replica stands so.
pub record Foreseen (table : Table) (members turns : ℕ) (letters : List LetterRow) (waits : Option SchedRow) (who : ℕ) (replica : ReplicaState) : Type 0 where
  pub rows : List Row
  pub book : BookState
  pub behind : StandsBehind table rows book
  pub rest : book.pending ≡ None
  pub members_are : book.members ≡ members
  pub stands : StandsAt table rows book replica
  pub me : replica.identity.me ≡ who
  pub count : length rows ≡ turns
  pub has : HasLetters letters book
  pub waiting : (row : SchedRow) → waits ≡ Some row → (standing_behind table rows book).waits who ≡ Some row

next : (table : Table) (members turns : ℕ) (letters : List LetterRow) (waits : Option SchedRow) (who : ℕ) (taken : Taken) (old new : ReplicaState) → members ≤ 7
    → Foreseen table members turns letters waits who old → TookStep table letters waits who taken old new → Foreseen table members (turns + 1) letters None who new
next table members turns letters waits who taken old new few seen step =
    record {
      rows = seen.rows ++ turn.row ∷ [];
      book = after;
      behind =
          turn_is_added table (Did old.identity.me taken.cause made) taken.out during after (called_pends seen.book made seen.rest) (adds _ taken.out.letters during) seen.rows turn.row
          (call_joins table seen.rows seen.book taken.out.call seen.rest seen.behind) turn.is (rw same turn.may);
      rest = refl;
      members_are = same ∙ seen.members_are;
      stands = turn.stands after same;
      me = ap (λ (self : Identity). self.me) step.steps.took.identity ∙ seen.me;
      count = omega (arith, length-append seen.rows (turn.row ∷ []), seen.count);
      has = λ number letter there. found_more during.letters _ number letter (rw (called_letters seen.book made) (seen.has number letter there));
      waiting = λ row is. absurd cc;
    }
  where
    made : Option CallRow
    made = made_for seen.book.ledger.held taken.out.call

    during : BookState
    during = called made seen.book

    after : BookState
    after = added (Did old.identity.me taken.cause made) taken.out.letters during

    same : during.members ≡ seen.book.members
    same = called_members seen.book made

    told : IsInputOf (standing_behind table seen.rows seen.book) seen.book old.identity.me taken.cause step.input
    told =
        subst (λ who. IsInputOf (standing_behind table seen.rows seen.book) seen.book who taken.cause step.input) (sym seen.me)
        (is_input (standing_behind table seen.rows seen.book) seen.book letters waits who taken.cause step.input seen.has seen.waiting step.is_told)

    turn : IsTurnOf table seen.rows seen.book old.identity.me taken.cause made taken.out new
    turn =
        step_is_turn table seen.rows seen.book taken.cause made step.input old new taken.out (rw seen.members_are few) seen.behind seen.stands told step.inside step.steps
        (subst (λ held. IsMade held (option_to_list taken.out.call) made) (held_at_rest table seen.rows seen.book seen.rest seen.behind) (is_made seen.book.ledger.held taken.out.call))

pub foresee : (table : Table) (members turns : ℕ) (letters : List LetterRow) (waits : Option SchedRow) (who : ℕ) (steps : List Taken) (old new : ReplicaState) → members ≤ 7
    → Foreseen table members turns letters waits who old → TookSteps table letters waits who steps old new
    → (late : Option SchedRow) × Foreseen table members (turns + length steps) letters late who new
foresee table members turns letters waits who [] old new few seen took = (waits, subst (λ n. Foreseen table members n letters waits who new) (omega arith) (subst (λ r. Foreseen table members turns letters waits who r) (sym took) seen))
foresee table members turns letters waits who (taken ∷ more) old new few seen took =
    let later = foresee table members (turns + 1) letters None who more took.0 new few (next table members turns letters waits who taken old took.0 few seen took.1) took.2 in
    (later.0, subst (λ n. Foreseen table members n letters later.0 who new) (omega arith) later.1)
