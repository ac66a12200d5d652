-- A disk that is neither armed nor stopped stays so through the calls of an attach.
use Rattle.std.proofs.Common.{◌≡◌, true, false, ℕ, Option, None, Some, List, Result, Ok, Err, refl, sym, ap, ◌∙◌, subst}
use Rattle.std.specs.Prelude.{IsSome}
use Rattle.std.proofs.lemmas.Option.{same_Some}
use Rattle.disk_model.specs.Images.{Image}
use Rattle.disk_model.specs.declared.fault.DiskFault.{DiskFault}
use Rattle.disk_model.specs.declared.fault.DiskFault.TheVariants as Disk
use Rattle.disk_model.specs.Made.{AllDone, BreaksOff, DiskCall, StopsCalls, MadeCalls}
use Rattle.disk_model.specs.Told.{TellsStop, TellsThen, Told, after_revive, image_left}
use Rattle.disk_model.proofs.StopLemmas.{all_run, all_unarmed, never_stops}
use Rattle.replica_store.specs.Faults.{of_disk}
use Rattle.replica_store.specs.declared.fault.StoreFault.{StoreFault}
use Rattle.replica_store.specs.declared.fault.StoreFault.TheVariants as Store
use Rattle.replica_node.specs.Stopped.{IsDiskUnarmed}

abbrev pub Quiet : Told → Type 0
Quiet told = (told.stopped ≡ false) × (told.arm ≡ None)

quiet_done : (calls : List DiskCall) (old new : Told) → Quiet old → AllDone calls old new → Quiet new
quiet_done calls old new quiet done = (all_run calls old new quiet.0 done, all_unarmed calls old new quiet.1 done)

quiet_ends : (fault : DiskFault) (rest : List DiskCall) (mid new : Told) → (fault ≡ Disk.Stopped → ⊥) → StopsCalls fault rest mid new → new ≡ mid
quiet_ends Disk.Stopped rest mid new other ends = absurd (other refl)
quiet_ends Disk.Failed rest mid new other ends = ends.1
quiet_ends Disk.OutOfMemory rest mid new other ends = ends

quiet_broken : (fault : DiskFault) (calls : List DiskCall) (old new : Told) → (fault ≡ Disk.Stopped → ⊥) → Quiet old → BreaksOff fault calls old new → Quiet new
quiet_broken fault calls old new other quiet broken =
    subst Quiet (sym (quiet_ends fault broken.rest broken.mid new other broken.ends)) (quiet_done broken.done old broken.mid quiet broken.made)

-- ---- what an attach says

quiet_made : {T : Type 0} (calls : List DiskCall) (result : Result T StoreFault) (old new : Told) → ((gate : ℕ) → result ≡ Err (Store.Damaged gate) → ⊥) → Quiet old → MadeCalls of_disk calls result old new → Quiet new
quiet_made calls (Ok value) old new sound quiet made = quiet_done calls old new quiet made.all
quiet_made calls (Err Store.Stopped) old new sound quiet made = absurd (never_stops calls old new quiet.0 quiet.1 (made.broken Disk.Stopped refl))
quiet_made calls (Err Store.DiskFault) old new sound quiet made = quiet_broken Disk.Failed calls old new (λ is. absurd (cc is)) quiet (made.broken Disk.Failed refl)
quiet_made calls (Err Store.OutOfMemory) old new sound quiet made = quiet_broken Disk.OutOfMemory calls old new (λ is. absurd (cc is)) quiet (made.broken Disk.OutOfMemory refl)
quiet_made calls (Err (Store.Damaged gate)) old new sound quiet made = absurd (sound gate refl)

never_made : {T : Type 0} (calls : List DiskCall) (result : Result T StoreFault) (old new : Told) → Quiet old → result ≡ Err Store.Stopped → MadeCalls of_disk calls result old new → ⊥
never_made calls (Ok value) old new quiet is made = absurd (cc is)
never_made calls (Err Store.Stopped) old new quiet is made = never_stops calls old new quiet.0 quiet.1 (made.broken Disk.Stopped refl)
never_made calls (Err Store.DiskFault) old new quiet is made = absurd (cc is)
never_made calls (Err Store.OutOfMemory) old new quiet is made = absurd (cc is)
never_made calls (Err (Store.Damaged gate)) old new quiet is made = absurd (cc is)

-- ---- by what is told

tells_quiet : {T : Type 0} (calls : List DiskCall) (result : Result T StoreFault) (old new : Option Told) → IsSome old → ((gate : ℕ) → result ≡ Err (Store.Damaged gate) → ⊥) → IsDiskUnarmed old → TellsThen (MadeCalls of_disk calls result) old new → IsDiskUnarmed new
tells_quiet calls result None new some sound quiet tells = absurd (cc some)
tells_quiet calls result (Some old) None some sound quiet tells = absurd tells
tells_quiet calls result (Some old) (Some new) some sound quiet tells = quiet_made calls result old new sound quiet tells

tells_looked : (calls : List DiskCall) (old new : Option Told) → IsSome old → IsDiskUnarmed old → TellsThen (AllDone calls) old new → IsDiskUnarmed new
tells_looked calls None new some quiet tells = absurd (cc some)
tells_looked calls (Some old) None some quiet tells = absurd tells
tells_looked calls (Some old) (Some new) some quiet tells = quiet_done calls old new quiet tells

-- after an attach, whatever it answers
pub attach_quiet : {T : Type 0} (calls looks : List DiskCall) (result : Result T StoreFault) (old new : Option Told) → IsSome old → IsDiskUnarmed old → TellsThen (MadeCalls of_disk calls result) old new
    → ((gate : ℕ) → result ≡ Err (Store.Damaged gate) → TellsThen (AllDone looks) old new) → IsDiskUnarmed new
attach_quiet calls looks (Ok value) old new some quiet tells looked = tells_quiet calls (Ok value) old new some (λ gate is. absurd (cc is)) quiet tells
attach_quiet {T} calls looks (Err Store.Stopped) old new some quiet tells looked = tells_quiet {T = T} calls (Err Store.Stopped) old new some (λ gate is. absurd (cc is)) quiet tells
attach_quiet {T} calls looks (Err Store.DiskFault) old new some quiet tells looked = tells_quiet {T = T} calls (Err Store.DiskFault) old new some (λ gate is. absurd (cc is)) quiet tells
attach_quiet {T} calls looks (Err Store.OutOfMemory) old new some quiet tells looked = tells_quiet {T = T} calls (Err Store.OutOfMemory) old new some (λ gate is. absurd (cc is)) quiet tells
attach_quiet calls looks (Err (Store.Damaged gate)) old new some quiet tells looked = tells_looked looks old new some quiet (looked gate refl)

pub attach_never : {T : Type 0} (calls : List DiskCall) (result : Result T StoreFault) (old new : Option Told) → IsSome old → IsSome new → IsDiskUnarmed old → TellsThen (MadeCalls of_disk calls result) old new → result ≡ Err Store.Stopped → ⊥
attach_never calls result None new some told quiet tells is = absurd (cc some)
attach_never calls result (Some old) None some told quiet tells is = absurd (cc told)
attach_never calls result (Some old) (Some new) some told quiet tells is = never_made calls result old new quiet is tells

-- ---- a disk that has stopped and is revived

revived_quiet : (told : Told) → told.stopped ≡ true → Quiet (after_revive told)
revived_quiet told stopped = rw stopped (refl, refl)

revived_done : (told : Told) → told.stopped ≡ true → (after_revive told).done ≡ image_left told
revived_done told stopped = rw stopped refl

pub tells_revived : (old new : Option Told) → TellsStop old → TellsThen (λ one two. two ≡ after_revive one) old new → IsDiskUnarmed new
tells_revived None new stopped tells = absurd stopped
tells_revived (Some old) None stopped tells = absurd tells
tells_revived (Some old) (Some new) stopped tells = subst Quiet (sym tells) (revived_quiet old stopped)

-- a read then gives the image that the stop left
pub revived_seen : (old new : Option Told) (before : Told) (seen : Image) → IsSome new → TellsStop old → TellsThen (λ one two. two ≡ after_revive one) old new → old ≡ Some before → ((now : Told) → new ≡ Some now → now.done ≡ seen) → seen ≡ image_left before
revived_seen None new before seen some stopped tells was done = absurd stopped
revived_seen (Some old) None before seen some stopped tells was done = absurd tells
revived_seen (Some old) (Some now) before seen some stopped tells was done =
    let one : old ≡ before = same_Some old before was in
    sym (done now refl) ∙ ap (λ (t : Told). t.done) tells ∙ revived_done old stopped ∙ ap image_left one
