-- A reliable disk stays so, and gives no fault but want of memory; and one that may be armed stays such as can't fail.
use Rattle.std.proofs.Common.{◌≡◌, ◌⊎◌, ℕ, ◌<◌, true, false, Option, None, Some, List, [], ◌∷◌, Result, Ok, Err, IsErrAnd, refl, sym, ap, ◌∙◌, subst, inl, inr}
use Rattle.std.specs.Prelude.{IsSome}
use Rattle.std.proofs.lemmas.Result.{err_from_is_err_and}
use Rattle.disk_model.specs.declared.fault.DiskFault.{DiskFault}
use Rattle.disk_model.specs.declared.fault.DiskFault.TheVariants as Disk
use Rattle.disk_model.specs.Made.{AllDone, BreaksOff, CutTo, DiskCall, StopsCalls, GaveAnswer, MadeCalls, SyncOf, WriteAt}
use Rattle.disk_model.specs.Told.{TellsStop, TellsThen, Told, after_arm, after_disarm, after_revive}
use Rattle.disk_model.proofs.StopLemmas.{all_run, all_unarmed, never_stops}
use Rattle.due_set.specs.Table.{Table}
use Rattle.paxos_letter.specs.declared.fault.LetterFault.{LetterFault}
use Rattle.paxos_letter.proofs.LetterLemmas.{letter_none}
use Rattle.step_spec.specs.Step.{Event}
use Rattle.replica_core.specs.Replica.{ReplicaState}
use Rattle.replica_core.specs.Step.{IsEventOf, fault_in, fault_told}
use Rattle.replica_core.specs.declared.input.Input.{Input}
use Rattle.replica_core.specs.declared.input.Input.TheVariants.{Campaign, Tick, Hear, Answer}
use Rattle.replica_core.specs.declared.input.StepFault.{StepFault}
use Rattle.replica_core.specs.declared.input.StepFault.TheVariants as Step
use Rattle.replica_store.specs.Faults as stored
use Rattle.replica_store.specs.declared.fault.StoreFault.{StoreFault}
use Rattle.replica_store.specs.declared.fault.StoreFault.TheVariants as Store
use Rattle.replica_node.specs.Faults.{EndsRun, of_step, of_store}
use Rattle.replica_node.specs.Kept.{EndsByArm}
use Rattle.replica_node.specs.Reliable.{CantFail, IsReliable, IsUnarmed, IsUnfailing, IsUnfailingAfter, RunsOn, RunsUnfailing}
use Rattle.replica_node.specs.Stopped.{IsDiskUnarmed}
use Rattle.replica_node.specs.declared.fault.NodeFault.{NodeFault}
use Rattle.replica_node.specs.declared.fault.NodeFault.TheVariants as Node

-- ---- calls that are done

one_fails : (call : DiskCall) (old new : Told) → GaveAnswer call (Ok tt) old new → new.fails ≡ old.fails
one_fails (WriteAt file at piece) old new passed = ap (λ (told : Told). told.fails) passed.2
one_fails (CutTo file size) old new passed = ap (λ (told : Told). told.fails) passed.2
one_fails (SyncOf file) old new passed = ap (λ (told : Told). told.fails) passed.2

all_fails : (calls : List DiskCall) (old new : Told) → AllDone calls old new → new.fails ≡ old.fails
all_fails [] old new done = ap (λ (told : Told). told.fails) done
all_fails (call ∷ rest) old new done = all_fails rest done.0 new done.2 ∙ one_fails call old done.0 done.1

runs_on : (calls : List DiskCall) (old new : Told) → RunsOn old → AllDone calls old new → RunsOn new
runs_on calls old new sure done = record {
  runs = all_run calls old new sure.runs done;
  unarmed = all_unarmed calls old new sure.unarmed done;
  unfailing = all_fails calls old new done ∙ sure.unfailing;
}

-- ---- calls that break off

never_fails : (calls : List DiskCall) (old new : Told) → old.fails ≡ false → BreaksOff Disk.Failed calls old new → ⊥
never_fails calls old new unfailing broken =
    let is : broken.mid.fails ≡ true = broken.ends.0 in
    let not : broken.mid.fails ≡ false = all_fails broken.done old broken.mid broken.made ∙ unfailing in
    let both : true ≡ false = sym is ∙ not in
    absurd (cc both)

-- what the store says of its disk tells of neither
no_disk_fault : {T : Type 0} (calls : List DiskCall) (below : Result T StoreFault) (old new : Told) → RunsOn old → MadeCalls stored.of_disk calls below old new
    → (below ≡ Err Store.Stopped) ⊎ (below ≡ Err Store.DiskFault) → ⊥
no_disk_fault calls below old new sure made (inl is) = never_stops calls old new sure.runs sure.unarmed (made.broken Disk.Stopped is)
no_disk_fault calls below old new sure made (inr is) = never_fails calls old new sure.unfailing (made.broken Disk.Failed is)

-- ---- by what is told

pub reliable_done : {T : Type 0} (calls : List DiskCall) (value : T) (old new : Option Told) → IsReliable old → TellsThen (MadeCalls stored.of_disk calls (Ok value)) old new → IsReliable new
reliable_done calls value None new sure tells = absurd sure
reliable_done calls value (Some old) None sure tells = absurd tells
reliable_done calls value (Some old) (Some new) sure tells = runs_on calls old new sure tells.all

pub reliable_never : {T : Type 0} (calls : List DiskCall) (below : Result T StoreFault) (old new : Option Told) → IsReliable old → TellsThen (MadeCalls stored.of_disk calls below) old new
    → (below ≡ Err Store.Stopped) ⊎ (below ≡ Err Store.DiskFault) → ⊥
reliable_never calls below None new sure tells = absurd sure
reliable_never calls below (Some old) None sure tells = absurd tells
reliable_never calls below (Some old) (Some new) sure tells = no_disk_fault calls below old new sure tells

-- ---- a fault that a store told, handed on

ends_of : (U : Type 0) (fault : StoreFault) → EndsRun {T = U} (Err (of_store fault)) → (fault ≡ Store.Stopped) ⊎ (fault ≡ Store.DiskFault)
ends_of U Store.Stopped ends = inl refl
ends_of U Store.DiskFault ends = inr refl
ends_of U Store.OutOfMemory ends = absurd ends
ends_of U (Store.Damaged gate) ends = absurd ends

pub ends_below : {T U : Type 0} (fault : StoreFault) (below : Result T StoreFault) (result : Result U NodeFault) → below ≡ Err fault → IsErrAnd result (λ e. e ≡ of_store fault) → EndsRun result
    → (below ≡ Err Store.Stopped) ⊎ (below ≡ Err Store.DiskFault)
ends_below {T} {U} fault below result was gives ends =
    let found = err_from_is_err_and result gives in
    let same : result ≡ Err (of_store fault) = found.1 ∙ ap Err found.2 in
    elim (ends_of U fault (subst (λ (r : Result U NodeFault). EndsRun r) same ends)) [
      | inl stopped ↦ inl (was ∙ ap Err stopped)
      | inr failed ↦ inr (was ∙ ap Err failed)
    ]

-- ---- a disk that may be armed

one_stop_fails : (call : DiskCall) (old new : Told) → GaveAnswer call (Err Disk.Stopped) old new → new.fails ≡ old.fails
one_stop_fails call old new (inl before) = ap (λ (told : Told). told.fails) before.1
one_stop_fails (WriteAt file at piece) old new (inr now) = ap (λ (told : Told). told.fails) now.2
one_stop_fails (CutTo file size) old new (inr now) = ap (λ (told : Told). told.fails) now.2
one_stop_fails (SyncOf file) old new (inr now) = ap (λ (told : Told). told.fails) now.2

ends_fails : (fault : DiskFault) (rest : List DiskCall) (old new : Told) → StopsCalls fault rest old new → new.fails ≡ old.fails
ends_fails Disk.Stopped [] old new ends = absurd ends
ends_fails Disk.Stopped (call ∷ rest) old new ends = one_stop_fails call old new ends
ends_fails Disk.Failed rest old new ends = ap (λ (told : Told). told.fails) ends.1
ends_fails Disk.OutOfMemory rest old new ends = ap (λ (told : Told). told.fails) ends

broken_fails : (fault : DiskFault) (calls : List DiskCall) (old new : Told) → BreaksOff fault calls old new → new.fails ≡ old.fails
broken_fails fault calls old new broken = ends_fails fault broken.rest broken.mid new broken.ends ∙ all_fails broken.done old broken.mid broken.made

done_unfailing : (calls : List DiskCall) (old new : Told) → RunsUnfailing old → AllDone calls old new → RunsUnfailing new
done_unfailing calls old new sure done = record { runs = all_run calls old new sure.runs done; unfailing = all_fails calls old new done ∙ sure.unfailing }

memory_unfailing : (calls : List DiskCall) (old new : Told) → RunsUnfailing old → BreaksOff Disk.OutOfMemory calls old new → RunsUnfailing new
memory_unfailing calls old new sure broken = subst RunsUnfailing (sym broken.ends) (done_unfailing broken.done old broken.mid sure broken.made)

made_unfailing : (T U : Type 0) (calls looks : List DiskCall) (fault : StoreFault) (old new : Told) → RunsUnfailing old → MadeCalls {T = T} stored.of_disk calls (Err fault) old new
    → ((gate : ℕ) → fault ≡ Store.Damaged gate → AllDone looks old new) → IsUnfailingAfter {T = U} (Err (of_store fault)) (Some new)
made_unfailing T U calls looks Store.Stopped old new sure made looked = broken_fails Disk.Stopped calls old new (made.broken Disk.Stopped refl) ∙ sure.unfailing
made_unfailing T U calls looks Store.DiskFault old new sure made looked = never_fails calls old new sure.unfailing (made.broken Disk.Failed refl)
made_unfailing T U calls looks Store.OutOfMemory old new sure made looked = memory_unfailing calls old new sure (made.broken Disk.OutOfMemory refl)
made_unfailing T U calls looks (Store.Damaged gate) old new sure made looked = done_unfailing looks old new sure (looked gate refl)

-- ---- by what is told

pub unfailing_done : {T : Type 0} (calls : List DiskCall) (value : T) (old new : Option Told) → IsUnfailing old → TellsThen (MadeCalls stored.of_disk calls (Ok value)) old new → IsUnfailing new
unfailing_done calls value None new sure tells = absurd sure
unfailing_done calls value (Some old) None sure tells = absurd tells
unfailing_done calls value (Some old) (Some new) sure tells = done_unfailing calls old new sure tells.all

unfailing_told : (T U : Type 0) (calls looks : List DiskCall) (fault : StoreFault) (old new : Option Told) → IsUnfailing old → TellsThen (MadeCalls {T = T} stored.of_disk calls (Err fault)) old new
    → ((gate : ℕ) → fault ≡ Store.Damaged gate → TellsThen (AllDone looks) old new) → IsUnfailingAfter {T = U} (Err (of_store fault)) new
unfailing_told T U calls looks fault None new sure tells looked = absurd sure
unfailing_told T U calls looks fault (Some old) None sure tells looked = absurd tells
unfailing_told T U calls looks fault (Some old) (Some new) sure tells looked = made_unfailing T U calls looks fault old new sure tells looked

-- a save's fault, which tells of no damage
pub unfailing_saved : (calls : List DiskCall) (found fault : StoreFault) (old new : Option Told) → found ≡ fault → ((gate : ℕ) → fault ≡ Store.Damaged gate → ⊥) → IsUnfailing old → TellsThen (MadeCalls {T = Unit} stored.of_disk calls (Err found)) old new
    → IsUnfailingAfter {T = Unit} (Err (of_store fault)) new
unfailing_saved calls found fault old new is undamaged sure tells =
    unfailing_told Unit Unit calls [] fault old new sure (subst (λ (f : StoreFault). TellsThen (MadeCalls {T = Unit} stored.of_disk calls (Err f)) old new) is tells) (λ gate damaged. absurd (undamaged gate damaged))

-- an attach's fault, handed on
pub unfailing_below : {T U : Type 0} (calls looks : List DiskCall) (fault : StoreFault) (below : Result T StoreFault) (result : Result U NodeFault) (old new : Option Told) → below ≡ Err fault → IsErrAnd result (λ e. e ≡ of_store fault) → IsUnfailing old
    → TellsThen (MadeCalls stored.of_disk calls below) old new → ((gate : ℕ) → below ≡ Err (Store.Damaged gate) → TellsThen (AllDone looks) old new) → IsUnfailingAfter result new
unfailing_below {T} {U} calls looks fault below result old new was gives sure tells looked =
    let found = err_from_is_err_and result gives in
    let same : result ≡ Err (of_store fault) = found.1 ∙ ap Err found.2 in
    subst (λ (r : Result U NodeFault). IsUnfailingAfter r new) (sym same)
    (unfailing_told T U calls looks fault old new sure (subst (λ (r : Result T StoreFault). TellsThen (MadeCalls stored.of_disk calls r) old new) was tells) (λ gate is. looked gate (was ∙ ap Err is)))

-- the fault of one call, handed on by another
pub unfailing_handed : {T : Type 0} (U : Type 0) (fault : NodeFault) (below : Result T NodeFault) (told : Option Told) → below ≡ Err fault → IsUnfailingAfter below told → IsUnfailingAfter {T = U} (Err fault) told
unfailing_handed {T} U fault below told was sure = at fault (subst (λ (r : Result T NodeFault). IsUnfailingAfter r told) was sure)
  where
    at : (fault : NodeFault) → IsUnfailingAfter {T = T} (Err fault) told → IsUnfailingAfter {T = U} (Err fault) told
    at Node.Stopped sure = sure
    at Node.DiskFault sure = absurd sure
    at Node.OutOfMemory sure = sure
    at (Node.Damaged gate) sure = sure
    at (Node.Letter letter) sure = sure

pub ends_handed : {T : Type 0} (U : Type 0) (fault : NodeFault) (below : Result T NodeFault) → below ≡ Err fault → EndsRun {T = U} (Err fault) → EndsRun below
ends_handed {T} U fault below was ends = subst (λ (r : Result T NodeFault). EndsRun r) (sym was) (at fault ends)
  where
    at : (fault : NodeFault) → EndsRun {T = U} (Err fault) → EndsRun {T = T} (Err fault)
    at Node.Stopped ends = ends
    at Node.DiskFault ends = ends
    at Node.OutOfMemory ends = absurd ends
    at (Node.Damaged gate) ends = absurd ends
    at (Node.Letter letter) ends = absurd ends

-- a fault that doesn't tell of the disk, of damage or of a letter
pub memory_left : (U : Type 0) (fault : NodeFault) → (EndsRun {T = U} (Err fault) → ⊥) → ((gate : ℕ) → fault ≡ Node.Damaged gate → ⊥) → ((letter : LetterFault) → fault ≡ Node.Letter letter → ⊥) → fault ≡ Node.OutOfMemory
memory_left U Node.Stopped unended undamaged no_letter = absurd (unended tt)
memory_left U Node.DiskFault unended undamaged no_letter = absurd (unended tt)
memory_left U Node.OutOfMemory unended undamaged no_letter = refl
memory_left U (Node.Damaged gate) unended undamaged no_letter = absurd (undamaged gate refl)
memory_left U (Node.Letter letter) unended undamaged no_letter = absurd (no_letter letter refl)

-- a step that was not planned leaves the disk as it is
pub unfailing_planned : {U : Type 0} (fault : StepFault) (result : Result U NodeFault) (told : Option Told) → IsErrAnd result (λ e. e ≡ of_step fault) → IsUnfailing told → IsUnfailingAfter result told
unfailing_planned {U} fault result told gives sure =
    let found = err_from_is_err_and result gives in
    subst (λ (r : Result U NodeFault). IsUnfailingAfter r told) (sym (found.1 ∙ ap Err found.2)) (at fault)
  where
    at : (fault : StepFault) → IsUnfailingAfter {T = U} (Err (of_step fault)) told
    at (Step.Letter letter) = sure
    at Step.OutOfMemory = sure

-- want of memory after an attach
pub unfailing_memory : {U : Type 0} (result : Result U NodeFault) (told : Option Told) → IsErrAnd result (λ e. e ≡ Node.OutOfMemory) → IsUnfailing told → IsUnfailingAfter result told
unfailing_memory {U} result told gives sure =
    let found = err_from_is_err_and result gives in
    subst (λ (r : Result U NodeFault). IsUnfailingAfter r told) (sym (found.1 ∙ ap Err found.2)) sure

-- ---- a reliable disk by its parts

pub reliable_parts : (told : Option Told) → IsUnfailing told → IsUnarmed told → IsReliable told
reliable_parts None sure unarmed = absurd sure
reliable_parts (Some now) sure unarmed = record { runs = sure.runs; unarmed = unarmed; unfailing = sure.unfailing }

pub reliable_unfailing : (told : Option Told) → IsReliable told → IsUnfailing told × IsUnarmed told
reliable_unfailing None sure = absurd sure
reliable_unfailing (Some now) sure = (record { runs = sure.runs; unfailing = sure.unfailing }, sure.unarmed)

pub unfailing_cant_fail : (told : Option Told) → IsUnfailing told → CantFail told
unfailing_cant_fail None sure = absurd sure
unfailing_cant_fail (Some now) sure = sure.unfailing

-- ---- a disk that has stopped and is revived

revived_unfailing : (told : Told) → told.stopped ≡ true → told.fails ≡ false → RunsOn (after_revive told)
revived_unfailing told stopped unfailing = rw stopped (record { runs = refl; unarmed = refl; unfailing = unfailing })

pub revived_reliable : (old new : Option Told) → TellsStop old → CantFail old → TellsThen (λ one two. two ≡ after_revive one) old new → IsReliable new
revived_reliable None new stopped sure tells = absurd stopped
revived_reliable (Some old) None stopped sure tells = absurd tells
revived_reliable (Some old) (Some new) stopped sure tells = subst RunsOn (sym tells) (revived_unfailing old stopped sure)

-- ---- an arm, and its end

armed_unfailing : (pass image : ℕ) (told : Told) → RunsUnfailing told → RunsUnfailing (after_arm pass image told)
armed_unfailing pass image told sure = record { runs = rw sure.runs refl; unfailing = rw sure.runs sure.unfailing }

pub tells_armed_unfailing : (pass image : ℕ) (old new : Option Told) → IsUnfailing old → TellsThen (λ one two. two ≡ after_arm pass image one) old new → IsUnfailing new
tells_armed_unfailing pass image None new sure tells = absurd sure
tells_armed_unfailing pass image (Some old) None sure tells = absurd tells
tells_armed_unfailing pass image (Some old) (Some new) sure tells = subst RunsUnfailing (sym tells) (armed_unfailing pass image old sure)

disarmed_reliable : (told : Told) → RunsUnfailing told → RunsOn (after_disarm told)
disarmed_reliable told sure = record { runs = rw sure.runs refl; unarmed = rw sure.runs refl; unfailing = rw sure.runs sure.unfailing }

pub tells_disarmed_reliable : (old new : Option Told) → IsUnfailing old → TellsThen (λ one two. two ≡ after_disarm one) old new → IsReliable new
tells_disarmed_reliable None new sure tells = absurd sure
tells_disarmed_reliable (Some old) None sure tells = absurd tells
tells_disarmed_reliable (Some old) (Some new) sure tells = subst RunsOn (sym tells) (disarmed_reliable old sure)

-- ---- an attach

-- it leaves the disk reliable, whatever it answers
pub quiet_reliable : (told : Option Told) → IsSome told → CantFail told → IsDiskUnarmed told → IsReliable told
quiet_reliable None some sure quiet = absurd sure
quiet_reliable (Some now) some sure quiet = record { runs = quiet.0; unarmed = quiet.1; unfailing = sure }

pub after_cant_fail : {U : Type 0} (result : Result U NodeFault) (told : Option Told) → IsUnfailingAfter result told → CantFail told
after_cant_fail (Ok answer) told sure = unfailing_cant_fail told sure
after_cant_fail (Err Node.Stopped) told sure = sure
after_cant_fail (Err Node.DiskFault) told sure = absurd sure
after_cant_fail (Err Node.OutOfMemory) told sure = unfailing_cant_fail told sure
after_cant_fail (Err (Node.Damaged gate)) told sure = unfailing_cant_fail told sure
after_cant_fail (Err (Node.Letter letter)) told sure = unfailing_cant_fail told sure

-- ---- what comes of a step, by the arm

pub no_fault_in : (table : Table) (replica : ReplicaState) (input : Input) (event : Event) → IsEventOf table replica input event → fault_in replica.identity.members input ≡ None
no_fault_in table replica Campaign event is = refl
no_fault_in table replica (Tick now) event is = refl
no_fault_in table replica (Hear bytes) event is = letter_none replica.identity.members is.0 is.2.packets bytes.now is.2.spells
no_fault_in table replica (Answer job at kind) event is = refl

pub ends_by_arm : (T : Type 0) (calls left : ℕ) (fault : NodeFault) (told : Option Told) → IsUnfailingAfter {T = T} (Err fault) told → (fault ≡ Node.Stopped → left < calls) → ((gate : ℕ) → fault ≡ Node.Damaged gate → ⊥)
    → ((letter : LetterFault) → fault ≡ Node.Letter letter → ⊥) → EndsByArm {T = T} calls left (Err fault)
ends_by_arm T calls left Node.Stopped told sure few undamaged no_letter = few refl
ends_by_arm T calls left Node.DiskFault told sure few undamaged no_letter = absurd sure
ends_by_arm T calls left Node.OutOfMemory told sure few undamaged no_letter = tt
ends_by_arm T calls left (Node.Damaged gate) told sure few undamaged no_letter = absurd (undamaged gate refl)
ends_by_arm T calls left (Node.Letter letter) told sure few undamaged no_letter = absurd (no_letter letter refl)

pub planned_ends : {T U : Type 0} (calls left members : ℕ) (input : Input) (fault : StepFault) (below : Result T StepFault) (result : Result U NodeFault) → below ≡ Err fault → IsErrAnd result (λ e. e ≡ of_step fault) → fault_told below ≡ fault_in members input
    → fault_in members input ≡ None → EndsByArm calls left result
planned_ends {T} {U} calls left members input fault below result was gives told none =
    let found = err_from_is_err_and result gives in
    let unread : fault_told {X = T} (Err fault) ≡ None = subst (λ (r : Result T StepFault). fault_told r ≡ None) was (told ∙ none) in
    subst (λ (r : Result U NodeFault). EndsByArm calls left r) (sym (found.1 ∙ ap Err found.2)) (at fault unread)
  where
    at : (fault : StepFault) → fault_told {X = T} (Err fault) ≡ None → EndsByArm {T = U} calls left (Err (of_step fault))
    at (Step.Letter letter) unread = absurd (cc unread)
    at Step.OutOfMemory unread = tt
