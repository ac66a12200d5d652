-- Want of memory is the only fault of a node beside a book.
use Rattle.std.proofs.Common.{◌≡◌, ℕ, List, [], ◌∷◌, Option, None, Some, Result, Err, refl, sym, ap, ◌∙◌, subst}
use Rattle.std.specs.List.{Contains, slice_get}
use Rattle.cluster_sched.specs.declared.row.SchedRow.{SchedRow}
use Rattle.disk_model.specs.Told.{Told}
use Rattle.disk_model.specs.View.{DiskView}
use Rattle.due_set.specs.Table.{Table}
use Rattle.paxos_letter.specs.Letters.{letter_fault_of}
use Rattle.paxos_letter.specs.declared.fault.LetterFault.{LetterFault}
use Rattle.step_spec.specs.State.{Identity}
use Rattle.step_spec.proofs.Lists.{found_in}
use Rattle.history.specs.Book.{PostedLetter, Row}
use Rattle.history.specs.declared.turn.Cause.{Cause}
use Rattle.history.specs.declared.turn.Cause.TheVariants.{Campaign, Tick, Hear, Answer}
use Rattle.history.proofs.Posted.{posted_breaks_none}
use Rattle.replica_core.specs.Replica.{ReplicaState}
use Rattle.replica_core.specs.Step.{fault_in}
use Rattle.replica_core.specs.declared.input.Input.{Input}
use Rattle.replica_core.specs.declared.input.Input.TheVariants as input
use Rattle.replica_node.specs.Faults.{EndsRun, letter_told}
use Rattle.replica_node.specs.Node.{replica_of}
use Rattle.replica_node.specs.Reliable.{IsUnfailingAfter}
use Rattle.replica_node.specs.declared.fault.NodeFault.{NodeFault}
use Rattle.replica_node.specs.declared.fault.NodeFault.TheVariants as Node
use Rattle.replica_node.specs.declared.node.Node.{Node as Seat}
use Rattle.world_law.specs.Book.{BookState, StandsBehind, posted_as}
use Rattle.world_law.specs.Replicas.{IsLetterInput}
use Rattle.world_law.specs.declared.letter.LetterRow.{LetterRow}
use Rattle.world_steps.specs.Steps.{IsBeside, IsToldOf, TookSteps, WasToldOf, waits_behind, waits_in}
use Rattle.world_steps.specs.declared.steps.Taken.{Taken}
use Rattle.due_set.proofs.Rising.{Contains-map}

-- ---- an answer that tells of no disk and of no letter

pub memory_alone : {T : Type 0} (answer : Result T NodeFault) (fault : NodeFault) → answer ≡ Err fault → (EndsRun answer → ⊥) → ((gate : ℕ) → answer ≡ Err (Node.Damaged gate) → ⊥)
    → ((letter : LetterFault) → answer ≡ Err (Node.Letter letter) → ⊥) → fault ≡ Node.OutOfMemory
memory_alone {T} answer Node.Stopped is ends damaged letter = absurd (ends (subst (λ (r : Result T NodeFault). EndsRun r) (sym is) tt))
memory_alone {T} answer Node.DiskFault is ends damaged letter = absurd (ends (subst (λ (r : Result T NodeFault). EndsRun r) (sym is) tt))
memory_alone answer Node.OutOfMemory is ends damaged letter = refl
memory_alone answer (Node.Damaged gate) is ends damaged letter = absurd (damaged gate is)
memory_alone answer (Node.Letter broken) is ends damaged letter = absurd (letter broken is)

-- so it is of a disk that can't fail, where the disk has not stopped
pub memory_unless_stopped : {T : Type 0} (answer : Result T NodeFault) (fault : NodeFault) (told : Option Told) → answer ≡ Err fault → (fault ≡ Node.Stopped → ⊥) → IsUnfailingAfter answer told
    → ((gate : ℕ) → answer ≡ Err (Node.Damaged gate) → ⊥) → ((letter : LetterFault) → answer ≡ Err (Node.Letter letter) → ⊥) → fault ≡ Node.OutOfMemory
memory_unless_stopped answer Node.Stopped told is stopped unfailing damaged letter = absurd (stopped refl)
memory_unless_stopped {T} answer Node.DiskFault told is stopped unfailing damaged letter = absurd (subst (λ (r : Result T NodeFault). IsUnfailingAfter r told) is unfailing)
memory_unless_stopped answer Node.OutOfMemory told is stopped unfailing damaged letter = refl
memory_unless_stopped answer (Node.Damaged gate) told is stopped unfailing damaged letter = absurd (damaged gate is)
memory_unless_stopped answer (Node.Letter broken) told is stopped unfailing damaged letter = absurd (letter broken is)

pub no_letter : {T : Type 0} (answer : Result T NodeFault) → letter_told answer ≡ None → (letter : LetterFault) → answer ≡ Err (Node.Letter letter) → ⊥
no_letter answer none letter is =
    let both : Some letter ≡ None = sym (ap letter_told is) ∙ none in
    absurd (cc both)

-- ---- a letter of a book breaks no rule

letter_breaks_none : (table : Table) (rows : List Row) (book : BookState) (number : ℕ) (letter : LetterRow) → StandsBehind table rows book → slice_get book.letters number ≡ Some letter
    → letter_fault_of book.members letter.bytes ≡ None
letter_breaks_none table rows book number letter behind there =
    posted_breaks_none book.members table rows (posted_as letter) behind.legal
    (subst (λ (posted : List PostedLetter). Contains posted (posted_as letter)) behind.letters (Contains-map posted_as book.letters letter (found_in book.letters number letter there)))

heard_breaks_none : (members : ℕ) (told : Input) (bytes : List ℕ) → letter_fault_of members bytes ≡ None → IsLetterInput told bytes → fault_in members told ≡ None
heard_breaks_none members input.Campaign bytes none is = absurd is
heard_breaks_none members (input.Tick now) bytes none is = absurd is
heard_breaks_none members (input.Hear heard) bytes none is = subst (λ (b : List ℕ). letter_fault_of members b ≡ None) (sym is) none
heard_breaks_none members (input.Answer job at kind) bytes none is = absurd is

told_breaks_none : (table : Table) (rows : List Row) (book : BookState) (waits : Option SchedRow) (who : ℕ) (cause : Cause) (told : Input) → StandsBehind table rows book → IsToldOf book.letters waits who cause told
    → fault_in book.members told ≡ None
told_breaks_none table rows book waits who Campaign told behind is = subst (λ (i : Input). fault_in book.members i ≡ None) (sym is) refl
told_breaks_none table rows book waits who (Tick now) told behind is = subst (λ (i : Input). fault_in book.members i ≡ None) (sym is) refl
told_breaks_none table rows book waits who (Hear number) told behind is =
    heard_breaks_none book.members told is.sent.letter.bytes (letter_breaks_none table rows book number is.sent.letter behind is.sent.there) is.is
told_breaks_none table rows book waits who Answer told behind is = subst (λ (i : Input). fault_in book.members i ≡ None) (sym is.is) refl

-- ---- a replica that took steps is the one that it was

took_identity : (table : Table) (letters : List LetterRow) (waits : Option SchedRow) (who : ℕ) (steps : List Taken) (old new : ReplicaState) → TookSteps table letters waits who steps old new → new.identity ≡ old.identity
took_identity table letters waits who [] old new took = ap (λ (replica : ReplicaState). replica.identity) took
took_identity table letters waits who (taken ∷ more) old new took = took_identity table letters None who more took.0 new took.2 ∙ took.1.steps.took.identity

module _ {D : Type 0} (view : DiskView D) where
  -- what a node is told of a cause is no letter that breaks a rule
  pub cause_breaks_none : (table : Table) (rows : List Row) (book : BookState) (who : ℕ) (steps : List Taken) (node : Seat D) (cause : Cause) (told : Input)
      → IsBeside view table rows book who steps node → WasToldOf table rows book who steps cause told
      → fault_in (replica_of node).identity.members told ≡ None
  cause_breaks_none table rows book who steps node cause told beside was =
      let ahead = beside.ahead in
      let same : (replica_of node).identity ≡ ahead.first.identity = took_identity table book.letters (waits_in table rows book who) who steps ahead.first (replica_of node) ahead.took in
      let members : (replica_of node).identity.members ≡ book.members = ap (λ (self : Identity). self.members) (same ∙ ahead.stands.identity) in
      subst (λ (n : ℕ). fault_in n told ≡ None) (sym members)
      (told_breaks_none table rows book (waits_behind steps (waits_in table rows book who)) who cause told beside.behind was.is_told)
