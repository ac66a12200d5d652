-- The calls that a gated file makes, by what its disk tells of each.
use Rattle.std.proofs.Common.{◌≡◌, ◌≢◌, ◌⊎◌, inl, inr, ℕ, ◌*◌, ◌≤◌, ◌==◌, Bool, false, zero, suc, if◌then◌else◌, List, [], ◌∷◌, length, get_or, Option, Result, Ok, Err, IsErrAnd, refl, sym, ap, subst, arith}
use Rattle.std.proofs.lemmas.Bool.Decides.{nat_tests}
use Rattle.disk_model.specs.declared.fault.DiskFault.{DiskFault}
use Rattle.disk_model.specs.declared.fault.DiskFault.TheVariants as Disk
use Rattle.disk_model.specs.declared.fault.FileNo.{FileNo}
use Rattle.disk_model.specs.Told.{Told, TellsThen, AfterLooks, AfterWriteSynced}
use Rattle.disk_model.specs.Made.{DiskCall, SyncOf, GaveAnswer, AllDone, BreaksOff, MadeCalls, synced_write}
use Rattle.disk_model.proofs.MadeLemmas.{tells_weaker, breaks_later, look_breaks, made_all, made_some, no_memory_first, one_done, runs_on}
use Rattle.gate_file.specs.declared.fault.GateFault.{GateFault}
use Rattle.gate_file.specs.Faults.{gate_fault_of}
use Rattle.gate_file.specs.Made.{close_calls}

pub fault_apart : (one other : DiskFault) → gate_fault_of one ≡ gate_fault_of other → one ≡ other
fault_apart Disk.Stopped Disk.Stopped is = refl
fault_apart Disk.Stopped Disk.Failed is = absurd (cc is)
fault_apart Disk.Stopped Disk.OutOfMemory is = absurd (cc is)
fault_apart Disk.Failed Disk.Stopped is = absurd (cc is)
fault_apart Disk.Failed Disk.Failed is = refl
fault_apart Disk.Failed Disk.OutOfMemory is = absurd (cc is)
fault_apart Disk.OutOfMemory Disk.Stopped is = absurd (cc is)
fault_apart Disk.OutOfMemory Disk.Failed is = absurd (cc is)
fault_apart Disk.OutOfMemory Disk.OutOfMemory is = refl

-- a fault that is handed on
pub told_some : {T : Type 0} (calls : List DiskCall) (fault : DiskFault) (result : Result T GateFault) → IsErrAnd result (λ e. e ≡ gate_fault_of fault) → (old new : Option Told)
    → TellsThen (BreaksOff fault calls) old new → TellsThen (MadeCalls gate_fault_of calls result) old new
told_some calls fault result gives old new broken = tells_weaker (λ one two here. made_some gate_fault_of calls fault result fault_apart gives one two here) old new broken

pub told_all : {T : Type 0} (calls : List DiskCall) (value : T) (old new : Option Told) → TellsThen (AllDone calls) old new → TellsThen (MadeCalls gate_fault_of calls (Ok value)) old new
told_all calls value old new all = tells_weaker (λ one two here. made_all gate_fault_of calls value one two here) old new all

-- a synced write, where its place and its bytes are known by other names
pub written_as : (file : FileNo) (at at' : ℕ) (piece piece' : List ℕ) (result : Result Unit DiskFault) (old new : Option Told) → at ≡ at' → piece ≡ piece'
    → TellsThen (AfterWriteSynced file at piece result) old new → TellsThen (AfterWriteSynced file at' piece' result) old new
written_as file at at' piece piece' result old new same_place same_piece told =
    subst (λ bytes. TellsThen (AfterWriteSynced file at' bytes result) old new) same_piece (subst (λ place. TellsThen (AfterWriteSynced file place piece result) old new) same_place told)

-- where no byte 0 stands at the place, a closed gate is written there
pub no_zero : (bytes : List ℕ) (place : ℕ) → (get_or bytes place 0 ≢ 0) ⊎ (length bytes ≤ place) → get_or bytes place 1 ≢ 0
no_zero [] place not_closed = λ is. absurd (cc is)
no_zero (first ∷ rest) zero (inl other) = other
no_zero (first ∷ rest) zero (inr ends) = absurd (omega (arith, ends))
no_zero (first ∷ rest) (suc place) (inl other) = no_zero rest place (inl other)
no_zero (first ∷ rest) (suc place) (inr ends) = no_zero rest place (inr (omega (arith, ends)))

not_equal : (byte : ℕ) → byte ≢ 0 → (byte == 0) ≡ false
not_equal byte differs = grind (arith, nat_tests)

pub closes : (file : FileNo) (bytes : List ℕ) (count : ℕ) → (get_or bytes (57 * count) 0 ≢ 0) ⊎ (length bytes ≤ 57 * count) → close_calls file bytes count ≡ synced_write file (57 * count) (0 ∷ [])
closes file bytes count not_closed =
    ap (λ (closed : Bool). if closed then [] else synced_write file (57 * count) (0 ∷ [])) (not_equal (get_or bytes (57 * count) 1) (no_zero bytes (57 * count) not_closed))

-- what comes after a sync that was done
pub after_sync_breaks : (fault : DiskFault) (file : FileNo) (old mid new : Told) → GaveAnswer (SyncOf file) (Ok tt) old mid → AfterLooks {T = Unit} (Err fault) mid new → BreaksOff fault (SyncOf file ∷ []) old new
after_sync_breaks fault file old mid new synced looked =
    breaks_later fault (SyncOf file ∷ []) [] old mid new (one_done (SyncOf file) old mid synced) (look_breaks fault [] mid new (runs_on (SyncOf file) old mid synced) looked)

pub after_sync_memory : (file : FileNo) (old mid new : Told) → GaveAnswer (SyncOf file) (Ok tt) old mid → AfterLooks {T = Unit} (Ok tt) mid new → BreaksOff Disk.OutOfMemory (SyncOf file ∷ []) old new
after_sync_memory file old mid new synced looked =
    breaks_later Disk.OutOfMemory (SyncOf file ∷ []) [] old mid new (one_done (SyncOf file) old mid synced) (subst (λ told. BreaksOff Disk.OutOfMemory [] mid told) (sym looked.1) (no_memory_first [] mid))
