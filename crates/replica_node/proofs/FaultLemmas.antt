-- Faults of a node by those of what it stands on.
use Rattle.std.proofs.Common.{◌≡◌, ◌⊎◌, ℕ, Result, Err, IsErrAnd, refl, ap, ◌∙◌, subst, inl, inr}
use Rattle.std.proofs.lemmas.Result.{err_from_is_err_and}
use Rattle.disk_model.specs.declared.fault.DiskFault.{DiskFault}
use Rattle.disk_model.specs.declared.fault.DiskFault.TheVariants as Disk
use Rattle.disk_model.specs.View.{DiskView}
use Rattle.paxos_letter.specs.declared.fault.LetterFault.{LetterFault}
use Rattle.replica_store.specs.Faults.{HasStoreAnswer}
use Rattle.replica_store.specs.Faults as stored
use Rattle.replica_store.specs.declared.fault.StoreFault.{StoreFault}
use Rattle.replica_store.specs.declared.fault.StoreFault.TheVariants as Store
use Rattle.replica_node.specs.Faults.{HasNodeAnswer, IsStepRefused, of_disk_answer, of_store}
use Rattle.replica_node.specs.declared.fault.NodeFault.{NodeFault}
use Rattle.replica_node.specs.declared.fault.NodeFault.TheVariants as Node

stopped_of : (fault : StoreFault) → of_store fault ≡ Node.Stopped → fault ≡ Store.Stopped
stopped_of Store.Stopped is = refl
stopped_of Store.DiskFault is = absurd (cc is)
stopped_of Store.OutOfMemory is = absurd (cc is)
stopped_of (Store.Damaged gate) is = absurd (cc is)

failed_of : (fault : StoreFault) → of_store fault ≡ Node.DiskFault → fault ≡ Store.DiskFault
failed_of Store.Stopped is = absurd (cc is)
failed_of Store.DiskFault is = refl
failed_of Store.OutOfMemory is = absurd (cc is)
failed_of (Store.Damaged gate) is = absurd (cc is)

memory_of : (fault : StoreFault) → of_store fault ≡ Node.OutOfMemory → fault ≡ Store.OutOfMemory
memory_of Store.Stopped is = absurd (cc is)
memory_of Store.DiskFault is = absurd (cc is)
memory_of Store.OutOfMemory is = refl
memory_of (Store.Damaged gate) is = absurd (cc is)

damaged_of : (fault : StoreFault) (gate : ℕ) → of_store fault ≡ Node.Damaged gate → fault ≡ Store.Damaged gate
damaged_of Store.Stopped gate is = absurd (cc is)
damaged_of Store.DiskFault gate is = absurd (cc is)
damaged_of Store.OutOfMemory gate is = absurd (cc is)
damaged_of (Store.Damaged other) gate is = cc is

no_letter_of : (fault : StoreFault) (letter : LetterFault) → of_store fault ≡ Node.Letter letter → ⊥
no_letter_of Store.Stopped letter is = absurd (cc is)
no_letter_of Store.DiskFault letter is = absurd (cc is)
no_letter_of Store.OutOfMemory letter is = absurd (cc is)
no_letter_of (Store.Damaged other) letter is = absurd (cc is)

-- a fault of the disk by that which the store made of it
pub stored_of : (fault : StoreFault) (of : DiskFault) → of_store fault ≡ of_disk_answer of → fault ≡ stored.of_disk of
stored_of fault Disk.Stopped is = stopped_of fault is
stored_of fault Disk.Failed is = failed_of fault is
stored_of fault Disk.OutOfMemory is = memory_of fault is

pub same_fault : {U : Type 0} (one other : NodeFault) → ◌≡◌ {A = Result U NodeFault} (Err one) (Err other) → one ≡ other
same_fault one other is = cc

-- a fault that a store told, handed on
handed_on : {U : Type 0} (fault : StoreFault) (other : NodeFault) (result : Result U NodeFault) → IsErrAnd result (λ e. e ≡ of_store fault) → result ≡ Err other → of_store fault ≡ other
handed_on fault other result gives is =
    let found = err_from_is_err_and result gives in
    cc (found.1, found.2, is)

pub damaged_below : {T U : Type 0} (fault : StoreFault) (gate : ℕ) (below : Result T StoreFault) (result : Result U NodeFault) → below ≡ Err fault → IsErrAnd result (λ e. e ≡ of_store fault) → result ≡ Err (Node.Damaged gate)
    → below ≡ Err (Store.Damaged gate)
damaged_below fault gate below result was gives is = was ∙ ap Err (damaged_of fault gate (handed_on fault (Node.Damaged gate) result gives is))

pub stopped_below : {T U : Type 0} (fault : StoreFault) (below : Result T StoreFault) (result : Result U NodeFault) → below ≡ Err fault → IsErrAnd result (λ e. e ≡ of_store fault) → result ≡ Err Node.Stopped → below ≡ Err Store.Stopped
stopped_below fault below result was gives is = was ∙ ap Err (stopped_of fault (handed_on fault Node.Stopped result gives is))

pub no_letter_below : {U : Type 0} (fault : StoreFault) (letter : LetterFault) (result : Result U NodeFault) → IsErrAnd result (λ e. e ≡ of_store fault) → result ≡ Err (Node.Letter letter) → ⊥
no_letter_below fault letter result gives is = no_letter_of fault letter (handed_on fault (Node.Letter letter) result gives is)

-- what the store says of the disk then holds of the node's answer
pub answer_on : {D T U : Type 0} (view : DiskView D) (old new : D) (fault : StoreFault) (below : Result T StoreFault) (result : Result U NodeFault) → below ≡ Err fault
    → IsErrAnd result (λ e. e ≡ of_store fault) → HasStoreAnswer view old new below → HasNodeAnswer view old new result
answer_on view old new fault below result was gives answer =
    let found = err_from_is_err_and result gives in
    record {
      honest_still = answer.honest_still;
      counted = record {
        later_stops = answer.counted.later_stops;
        later_faults = answer.counted.later_faults;
        stopped = λ is. answer.counted.stopped (was ∙ ap Err (stopped_of fault (handed_on fault Node.Stopped result gives is)));
        stopped_alone = λ is. answer.counted.stopped_alone (was ∙ ap Err (stopped_of fault (handed_on fault Node.Stopped result gives is)));
        failed = λ is. answer.counted.failed (was ∙ ap Err (failed_of fault (handed_on fault Node.DiskFault result gives is)));
        failed_alone = λ is. answer.counted.failed_alone (was ∙ ap Err (failed_of fault (handed_on fault Node.DiskFault result gives is)));
        quiet = rw found.1 tt;
        no_memory = λ is. answer.counted.no_memory (was ∙ ap Err (memory_of fault (handed_on fault Node.OutOfMemory result gives is)));
      };
      damaged = λ gate is. answer.damaged gate (was ∙ ap Err (damaged_of fault gate (handed_on fault (Node.Damaged gate) result gives is)));
      letter = λ letter is. absurd (no_letter_below fault letter result gives is);
    }

-- ---- the faults of a node's own call, handed on

refused_by : (U : Type 0) (fault : NodeFault) → IsStepRefused {T = U} (Err fault) → (fault ≡ Node.OutOfMemory) ⊎ ((letter : LetterFault) × (fault ≡ Node.Letter letter))
refused_by U Node.Stopped refused = absurd refused
refused_by U Node.DiskFault refused = absurd refused
refused_by U Node.OutOfMemory refused = inl refl
refused_by U (Node.Damaged gate) refused = absurd refused
refused_by U (Node.Letter letter) refused = inr (letter, refl)

-- where a step is refused after its letter was read, memory ran out
pub memory_below : {T U : Type 0} (fault : NodeFault) (below : Result T NodeFault) (result : Result U NodeFault) → below ≡ Err fault → IsErrAnd result (λ e. e ≡ fault)
    → ((letter : LetterFault) → below ≡ Err (Node.Letter letter) → ⊥) → IsStepRefused result → below ≡ Err Node.OutOfMemory
memory_below {T} {U} fault below result was gives no_letter refused =
    let found = err_from_is_err_and result gives in
    let same : result ≡ Err fault = found.1 ∙ ap Err found.2 in
    elim (refused_by U fault (subst (λ (r : Result U NodeFault). IsStepRefused r) same refused)) [
      | inl memory ↦ was ∙ ap Err memory
      | inr letter ↦ absurd (no_letter letter.0 (was ∙ ap Err letter.1))
    ]
