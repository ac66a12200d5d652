-- Calls that are made one after another, in what a disk tells.
use Rattle.std.proofs.Common.{◌≡◌, inl, inr, ℕ, false, List, [], ◌∷◌, ◌++◌, Option, None, Some, Result, Ok, Err, IsErr, IsErrAnd, IsErrOf, refl, sym, ap, ◌∙◌, subst, append_assoc}
use Rattle.disk_model.specs.declared.fault.DiskFault.{DiskFault}
use Rattle.disk_model.specs.declared.fault.DiskFault.TheVariants.{Stopped, Failed, OutOfMemory}
use Rattle.disk_model.specs.declared.fault.FileNo.{FileNo}
use Rattle.disk_model.specs.Told.{Told, TellsThen, AfterLooks, AfterWriteSynced}
use Rattle.disk_model.specs.Made.{DiskCall, WriteAt, CutTo, SyncOf, GaveAnswer, AllDone, StopsCalls, BreaksOff, MadeCalls, synced_write}

pub tells_then : {P Q R : Told → Told → Type 0} → ((one two three : Told) → P one two → Q two three → R one three) → (old mid new : Option Told) → TellsThen P old mid → TellsThen Q mid new → TellsThen R old new
tells_then both None mid new first second = tt
tells_then both (Some one) None new first second = absurd first
tells_then both (Some one) (Some two) None first second = absurd second
tells_then both (Some one) (Some two) (Some three) first second = both one two three first second

pub tells_weaker : {P Q : Told → Told → Type 0} → ((one two : Told) → P one two → Q one two) → (old new : Option Told) → TellsThen P old new → TellsThen Q old new
tells_weaker weaker None new first = tt
tells_weaker weaker (Some one) None first = absurd first
tells_weaker weaker (Some one) (Some two) first = weaker one two first

pub tells_same : (P : Told → Told → Type 0) → ((one : Told) → P one one) → (old : Option Told) → TellsThen P old old
tells_same P same None = tt
tells_same P same (Some one) = same one

-- ---- calls that were done

pub all_then : (front back : List DiskCall) (old mid new : Told) → AllDone front old mid → AllDone back mid new → AllDone (front ++ back) old new
all_then [] back old mid new is second = subst (λ told. AllDone back told new) is second
all_then (call ∷ front) back old mid new first second = (first.0, first.1, all_then front back first.0 mid new first.2 second)

pub one_done : (call : DiskCall) (old new : Told) → GaveAnswer call (Ok tt) old new → AllDone (call ∷ []) old new
one_done call old new is = (new, is, refl)

-- a call that was done finds the disk running, and leaves it so
pub runs_on : (call : DiskCall) (old new : Told) → GaveAnswer call (Ok tt) old new → new.stopped ≡ false
runs_on (WriteAt file at piece) old new is = ap (λ (told : Told). told.stopped) is.2 ∙ is.0
runs_on (CutTo file size) old new is = ap (λ (told : Told). told.stopped) is.2 ∙ is.0
runs_on (SyncOf file) old new is = ap (λ (told : Told). told.stopped) is.2 ∙ is.0

-- ---- calls that broke off

pub breaks_here : (fault : DiskFault) (call : DiskCall) (rest : List DiskCall) (old new : Told) → GaveAnswer call (Err fault) old new → BreaksOff fault (call ∷ rest) old new
breaks_here Stopped call rest old new is = record { done = []; rest = call ∷ rest; parts = refl; mid = old; made = refl; ends = is }
breaks_here Failed call rest old new is = record { done = []; rest = call ∷ rest; parts = refl; mid = old; made = refl; ends = (is.1, is.2) }
breaks_here OutOfMemory call rest old new is = record { done = []; rest = call ∷ rest; parts = refl; mid = old; made = refl; ends = is.1 }

pub breaks_later : (fault : DiskFault) (front back : List DiskCall) (old mid new : Told) → AllDone front old mid → BreaksOff fault back mid new → BreaksOff fault (front ++ back) old new
breaks_later fault front back old mid new first broken =
    record {
      done = front ++ broken.done;
      rest = broken.rest;
      parts = ap (λ calls. front ++ calls) broken.parts ∙ sym (append_assoc front broken.done broken.rest);
      mid = broken.mid;
      made = all_then front broken.done old mid broken.mid first broken.made;
      ends = broken.ends;
    }

pub breaks_sooner : (fault : DiskFault) (front back : List DiskCall) (old new : Told) → BreaksOff fault front old new → BreaksOff fault (front ++ back) old new
breaks_sooner Stopped front back old new broken = stops broken.rest broken.parts broken.ends
  where
    stops : (rest : List DiskCall) → front ≡ broken.done ++ rest → StopsCalls Stopped rest broken.mid new → BreaksOff Stopped (front ++ back) old new
    stops [] parts ends = absurd ends
    stops (first ∷ rest) parts ends = record { done = broken.done; rest = first ∷ (rest ++ back); parts = ap (λ calls. calls ++ back) parts ∙ append_assoc broken.done (first ∷ rest) back; mid = broken.mid; made = broken.made; ends = ends }
breaks_sooner Failed front back old new broken = record { done = broken.done; rest = broken.rest ++ back; parts = ap (λ calls. calls ++ back) broken.parts ∙ append_assoc broken.done broken.rest back; mid = broken.mid; made = broken.made; ends = broken.ends }
breaks_sooner OutOfMemory front back old new broken = record { done = broken.done; rest = broken.rest ++ back; parts = ap (λ calls. calls ++ back) broken.parts ∙ append_assoc broken.done broken.rest back; mid = broken.mid; made = broken.made; ends = broken.ends }

-- no memory, before any call
pub no_memory_first : (calls : List DiskCall) (told : Told) → BreaksOff OutOfMemory calls told told
no_memory_first calls told = record { done = []; rest = calls; parts = refl; mid = told; made = refl; ends = refl }

-- a call that only looks, on a disk that runs
pub look_breaks : (fault : DiskFault) (calls : List DiskCall) (old new : Told) → old.stopped ≡ false → AfterLooks {T = Unit} (Err fault) old new → BreaksOff fault calls old new
look_breaks Stopped calls old new running looked = absurd (cc (running, looked.0))
look_breaks Failed calls old new running looked = record { done = []; rest = calls; parts = refl; mid = old; made = refl; ends = (looked.1, looked.2) }
look_breaks OutOfMemory calls old new running looked = record { done = []; rest = calls; parts = refl; mid = old; made = refl; ends = looked.1 }

-- a write that is synced
pub write_done : (file : FileNo) (at : ℕ) (piece : List ℕ) (old new : Told) → AfterWriteSynced file at piece (Ok tt) old new → AllDone (synced_write file at piece) old new
write_done file at piece old new (inl none) = absurd (cc none.0)
write_done file at piece old new (inr both) = (both.0, both.1, (new, both.2, refl))

pub write_breaks : (fault : DiskFault) (file : FileNo) (at : ℕ) (piece : List ℕ) (rest : List DiskCall) (old new : Told) → AfterWriteSynced file at piece (Err fault) old new → BreaksOff fault (synced_write file at piece ++ rest) old new
write_breaks fault file at piece rest old new (inl first) = breaks_here fault (WriteAt file at piece) (SyncOf file ∷ rest) old new first.1
write_breaks fault file at piece rest old new (inr both) = breaks_later fault (WriteAt file at piece ∷ []) (SyncOf file ∷ rest) old both.0 new (both.0, both.1, refl) (breaks_here fault (SyncOf file) rest both.0 new both.2)

-- ---- answers

module _ {E : Type 0} (fault_as : DiskFault → E) where
  pub made_all : {T : Type 0} (calls : List DiskCall) (value : T) (old new : Told) → AllDone calls old new → MadeCalls fault_as calls (Ok value) old new
  made_all calls value old new all = record { all = all; broken = λ fault is. absurd (cc is) }

  same_error : {T : Type 0} (one other : E) → ◌≡◌ {A = Result T E} (Err one) (Err other) → one ≡ other
  same_error one other is = cc is

  pub made_some : {T : Type 0} (calls : List DiskCall) (fault : DiskFault) (result : Result T E) → ((one other : DiskFault) → fault_as one ≡ fault_as other → one ≡ other)
      → IsErrAnd result (λ e. e ≡ fault_as fault) → (old new : Told) → BreaksOff fault calls old new → MadeCalls fault_as calls result old new
  made_some calls fault (Ok value) apart is old new broken = absurd is
  made_some calls fault (Err e) apart is old new broken =
      record { all = tt; broken = λ other here. subst (λ f. BreaksOff f calls old new) (apart fault other (sym is ∙ same_error e (fault_as other) here)) broken }

-- an answer that another call hands on, with more calls that were to follow
pub made_sooner : {T U E F : Type 0} (fault_as : DiskFault → E) (told_as : DiskFault → F) (front back : List DiskCall) (below : Result T E) (result : Result U F) → IsErr result
    → ((fault : DiskFault) → IsErrOf result (told_as fault) → IsErrOf below (fault_as fault)) → (old new : Told) → MadeCalls fault_as front below old new → MadeCalls told_as (front ++ back) result old new
made_sooner fault_as told_as front back below (Ok value) fails same old new made = absurd (cc fails)
made_sooner fault_as told_as front back below (Err e) fails same old new made =
    record { all = tt; broken = λ fault is. breaks_sooner fault front back old new (made.broken fault (same fault is)) }

-- and one that it hands on after others
pub made_later : {T U E F : Type 0} (fault_as : DiskFault → E) (told_as : DiskFault → F) (front back : List DiskCall) (below : Result T E) (result : Result U F) → IsErr result
    → ((fault : DiskFault) → IsErrOf result (told_as fault) → IsErrOf below (fault_as fault)) → (old mid new : Told) → AllDone front old mid → MadeCalls fault_as back below mid new
    → MadeCalls told_as (front ++ back) result old new
made_later fault_as told_as front back below (Ok value) fails same old mid new first made = absurd (cc fails)
made_later fault_as told_as front back below (Err e) fails same old mid new first made =
    record { all = tt; broken = λ fault is. breaks_later fault front back old mid new first (made.broken fault (same fault is)) }

-- the answer of the last ones
pub made_after : {T E : Type 0} (fault_as : DiskFault → E) (front back : List DiskCall) (result : Result T E) (old mid new : Told) → AllDone front old mid → MadeCalls fault_as back result mid new → MadeCalls fault_as (front ++ back) result old new
made_after fault_as front back (Ok value) old mid new first made = record { all = all_then front back old mid new first made.all; broken = λ fault is. absurd (cc is) }
made_after fault_as front back (Err e) old mid new first made = record { all = tt; broken = λ fault is. breaks_later fault front back old mid new first (made.broken fault is) }

pub made_done : {T E : Type 0} (fault_as : DiskFault → E) (calls : List DiskCall) (value : T) (old new : Told) → MadeCalls fault_as calls (Ok value) old new → AllDone calls old new
made_done fault_as calls value old new made = made.all

-- the error that was handed on
pub err_inner : {U E : Type 0} (one other : E) → ◌≡◌ {A = Result U E} (Err one) (Err other) → one ≡ other
err_inner one other same = cc same

pub handed : {T U E : Type 0} (result : Result U E) (given : E) → IsErrAnd result (λ e. e ≡ given) → (e : E) → IsErrOf result e → ◌≡◌ {A = Result T E} (Err given) (Err e)
handed (Ok value) given gives e is = absurd gives
handed (Err found) given gives e is = ap Err (sym gives ∙ err_inner found e is)
