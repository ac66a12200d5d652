-- Writes, cuts and syncs that were done, or stopped within, in what a disk tells of its files.
use Rattle.std.proofs.Common.{◌≡◌, ◌≢◌, ◌⊎◌, inl, inr, ℕ, ◌+◌, ◌-◌, ◌<◌, ◌≤◌, ◌%◌, ◌/◌, ◌==◌, Bool, true, false, not, ◌&&◌, List, [], ◌∷◌, ◌++◌, length, get_or, Some, Ok, Err, refl, sym, ap, ◌∙◌, subst, arith}
use Rattle.std.proofs.lemmas.Bool.{cases_Bool, cond-true, le-leb, lt-ltb, and_from}
use Rattle.std.proofs.lemmas.Bool.Decides.{nat_tests}
use Rattle.disk_model.specs.declared.armed.Arm.{Arm}
use Rattle.disk_model.specs.declared.fault.DiskFault.TheVariants.{Stopped}
use Rattle.disk_model.specs.declared.fault.FileNo.{FileNo}
use Rattle.disk_model.specs.Images.{file_of, written_over}
use Rattle.disk_model.specs.Made.{DiskCall, WriteAt, SyncOf, GaveAnswer, AllDone, StopsCalls, BreaksOff, synced_write}
use Rattle.disk_model.specs.Told.{Told, is_file, is_within, bytes_in_image}
use Rattle.disk_model.proofs.FileLemmas.{get_or-overwritten, length-written_over}
use Rattle.disk_model.proofs.MadeLemmas.{runs_on}
use Rattle.disk_model.proofs.StopLemmas.{one_passes, one_stops}
use Rattle.gate_file.proofs.GateLemmas.{byte_written}
use Rattle.replica_store.specs.Kept.{IsClean, Shows}
use Rattle.replica_store.proofs.PendingLemmas.{IsPending, file_of-other, in_image_0, in_image_1, in_image_2, pending_clean, pending_same}
use Rattle.disk_model.proofs.DiskLemmas.{file_of-with_file as file_of-same}
use Rattle.disk_model.proofs.ToldLemmas.{is_file-same as same_is}

-- ---- the first of some calls

-- it stopped, or was done, and the stop came later
pub breaks_first : (call : DiskCall) (rest : List DiskCall) (old new : Told) → BreaksOff Stopped (call ∷ rest) old new
    → GaveAnswer call (Err Stopped) old new ⊎ ((mid : Told) × GaveAnswer call (Ok tt) old mid × BreaksOff Stopped rest mid new)
breaks_first call rest old new broken = at broken.done broken.rest broken.parts broken.made broken.ends
  where
    at : (done more : List DiskCall) → call ∷ rest ≡ done ++ more → AllDone done old broken.mid → StopsCalls Stopped more broken.mid new → GaveAnswer call (Err Stopped) old new ⊎ ((mid : Told) × GaveAnswer call (Ok tt) old mid × BreaksOff Stopped rest mid new)
    at [] [] parts made ends = absurd ends
    at [] (first ∷ others) parts made ends =
        let same : call ≡ first = cc parts in
        inl (subst (λ told. GaveAnswer call (Err Stopped) told new) made (subst (λ c. GaveAnswer c (Err Stopped) broken.mid new) (sym same) ends))
    at (first ∷ others) more parts made ends =
        let same : call ≡ first = cc parts in
        let later : rest ≡ others ++ more = cc parts in
        inr (made.0, subst (λ c. GaveAnswer c (Ok tt) old made.0) (sym same) made.1, record { done = others; rest = more; parts = later; mid = broken.mid; made = made.2; ends = ends })

-- of no calls none stops
pub none_breaks : (old new : Told) → BreaksOff Stopped [] old new → ⊥
none_breaks old new broken = at broken.done broken.rest broken.parts broken.ends
  where
    at : (done more : List DiskCall) → [] ≡ done ++ more → StopsCalls Stopped more broken.mid new → ⊥
    at [] [] parts ends = ends
    at [] (first ∷ others) parts ends = absurd (cc parts)
    at (first ∷ others) more parts ends = absurd (cc parts)

-- ---- one call

pub write_passed : (file : FileNo) (at : ℕ) (piece : List ℕ) (old new : Told) → GaveAnswer (WriteAt file at piece) (Ok tt) old new → IsPending file at piece old new
write_passed file at piece old new passed =
    record { done = ap (λ (told : Told). told.done) passed.2; synced = ap (λ (told : Told). told.synced) passed.2; touched = λ other place. ap (λ (told : Told). told.touched other place) passed.2 }

pub write_stopped : (file : FileNo) (at : ℕ) (piece : List ℕ) (old new : Told) → old.stopped ≡ false → GaveAnswer (WriteAt file at piece) (Err Stopped) old new → IsPending file at piece old new
write_stopped file at piece old new running (inl before) = absurd (cc (running, before.0))
write_stopped file at piece old new running (inr now) =
    record { done = ap (λ (told : Told). told.done) now.2; synced = ap (λ (told : Told). told.synced) now.2; touched = λ other place. ap (λ (told : Told). told.touched other place) now.2 }

-- a sync that stopped has done nothing
pub sync_stopped : (file written : FileNo) (at : ℕ) (piece : List ℕ) (old mid new : Told) → mid.stopped ≡ false → IsPending written at piece old mid → GaveAnswer (SyncOf file) (Err Stopped) mid new → IsPending written at piece old new
sync_stopped file written at piece old mid new running pending (inl before) = absurd (cc (running, before.0))
sync_stopped file written at piece old mid new running pending (inr now) =
    record {
      done = ap (λ (told : Told). told.done) now.2 ∙ pending.done;
      synced = ap (λ (told : Told). told.synced) now.2 ∙ pending.synced;
      touched = λ other place. ap (λ (told : Told). told.touched other place) now.2 ∙ pending.touched other place;
    }

and_not : (b c : Bool) → c ≡ true → (b && not c) ≡ false
and_not true c is = ap not is
and_not false c is = refl

and_none : (b c : Bool) → b ≡ false → (b && c) ≡ false
and_none true c is = absurd (cc is)
and_none false c is = refl

-- what a sync leaves of its file, and of others
module _ (file : FileNo) (old new : Told) (passed : GaveAnswer (SyncOf file) (Ok tt) old new) where
  pub sync_same : new.done ≡ old.done
  sync_same = ap (λ (told : Told). told.done) passed.2

  pub sync_cleans : IsClean file new
  sync_cleans =
      record {
        synced = ap (λ (told : Told). file_of file told.synced) passed.2 ∙ file_of-same file (file_of file old.done) old.synced ∙ sym (ap (file_of file) sync_same);
        untouched = λ place. ap (λ (told : Told). told.touched file place) passed.2 ∙ and_not (old.touched file place) (is_file file file) (same_is file);
      }

  pub sync_clean : (other : FileNo) → other ≢ file → IsClean other old → IsClean other new
  sync_clean other differs clean =
      record {
        synced = ap (λ (told : Told). file_of other told.synced) passed.2 ∙ file_of-other file other (file_of file old.done) old.synced differs ∙ clean.synced ∙ sym (ap (file_of other) sync_same);
        untouched = λ place. ap (λ (told : Told). told.touched other place) passed.2 ∙ and_none (old.touched other place) (not (is_file file other)) (clean.untouched place);
      }

-- ---- a write that is synced

-- A write to a file was done and synced: the file has it and is clean, and other files that were clean are so, as they were.
pub record IsSynced (file : FileNo) (at : ℕ) (piece : List ℕ) (old new : Told) : Type 0 where
  pub clean : IsClean file new
  pub bytes : file_of file new.done ≡ written_over at piece (file_of file old.done)
  pub others_clean : (other : FileNo) → other ≢ file → IsClean other old → IsClean other new
  pub same : (other : FileNo) → other ≢ file → file_of other new.done ≡ file_of other old.done

pub synced_then : (file : FileNo) (at : ℕ) (piece : List ℕ) (old mid new : Told) → IsPending file at piece old mid → GaveAnswer (SyncOf file) (Ok tt) mid new → IsSynced file at piece old new
synced_then file at piece old mid new pending passed =
    record {
      clean = sync_cleans file mid new passed;
      bytes = ap (file_of file) (sync_same file mid new passed) ∙ ap (file_of file) pending.done ∙ file_of-same file (written_over at piece (file_of file old.done)) old.done;
      others_clean = λ other differs clean. sync_clean file mid new passed other differs (pending_clean file at piece old mid pending other differs clean);
      same = λ other differs. ap (file_of other) (sync_same file mid new passed) ∙ pending_same file at piece old mid pending other differs;
    }

-- it was stopped within, by the arm, or a later call was
pub record StopsLater (file : FileNo) (at : ℕ) (piece : List ℕ) (rest : List DiskCall) (arm : Arm) (old new : Told) : Type 0 where
  pub mid : Told
  pub two : 2 ≤ arm.left
  pub synced : IsSynced file at piece old mid
  pub runs : mid.stopped ≡ false
  pub armed : mid.arm ≡ Some (record arm { left = arm.left - 1 - 1 })
  pub stops : BreaksOff Stopped rest mid new

pub stops_in_write : (file : FileNo) (at : ℕ) (piece : List ℕ) (rest : List DiskCall) (arm : Arm) (old new : Told) → old.stopped ≡ false → old.arm ≡ Some arm → BreaksOff Stopped (synced_write file at piece ++ rest) old new
    → ((arm.left < 2) × IsPending file at piece old new) ⊎ StopsLater file at piece rest arm old new
stops_in_write file at piece rest arm old new running is broken = first (breaks_first (WriteAt file at piece) (SyncOf file ∷ rest) old new broken)
  where
    first : GaveAnswer (WriteAt file at piece) (Err Stopped) old new ⊎ ((mid : Told) × GaveAnswer (WriteAt file at piece) (Ok tt) old mid × BreaksOff Stopped (SyncOf file ∷ rest) mid new)
        → ((arm.left < 2) × IsPending file at piece old new) ⊎ StopsLater file at piece rest arm old new
    first (inl stopped) = inl (omega (arith, (one_stops (WriteAt file at piece) arm old new running is stopped).0), write_stopped file at piece old new running stopped)
    first (inr (mid, passed, later)) =
        second mid passed (one_passes arm old mid is (WriteAt file at piece) passed) (runs_on (WriteAt file at piece) old mid passed) (breaks_first (SyncOf file) rest mid new later)
      where
        second : (mid : Told) → GaveAnswer (WriteAt file at piece) (Ok tt) old mid → (0 < arm.left) × (mid.arm ≡ Some (record arm { left = arm.left - 1 })) → mid.stopped ≡ false
            → GaveAnswer (SyncOf file) (Err Stopped) mid new ⊎ ((end : Told) × GaveAnswer (SyncOf file) (Ok tt) mid end × BreaksOff Stopped rest end new)
            → ((arm.left < 2) × IsPending file at piece old new) ⊎ StopsLater file at piece rest arm old new
        second mid passed armed runs (inl stopped) =
            inl (omega (arith, armed.0, (one_stops (SyncOf file) (record arm { left = arm.left - 1 }) mid new runs armed.1 stopped).0), sync_stopped file file at piece old mid new runs (write_passed file at piece old mid passed) stopped)
        second mid passed armed runs (inr (end, synced, later)) =
            let next = one_passes (record arm { left = arm.left - 1 }) mid end armed.1 (SyncOf file) synced in
            inr (record {
              mid = end;
              two = omega (arith, armed.0, next.0);
              synced = synced_then file at piece old mid end (write_passed file at piece old mid passed) synced;
              runs = runs_on (SyncOf file) mid end synced;
              armed = next.1;
              stops = later;
            })

-- ---- the byte that an image shows

not_2 : (number : ℕ) → number % 3 ≡ 1 → (number % 3 == 0) ≡ false
not_2 number is = grind (arith, nat_tests)

is_1 : (number : ℕ) → number % 3 ≡ 1 → (number % 3 == 1) ≡ true
is_1 number is = grind (arith, nat_tests)

two_not_0 : (number : ℕ) → number % 3 ≡ 2 → (number % 3 == 0) ≡ false
two_not_0 number is = grind (arith, nat_tests)

two_not_1 : (number : ℕ) → number % 3 ≡ 2 → (number % 3 == 1) ≡ false
two_not_1 number is = grind (arith, nat_tests)

from_1 : (number : ℕ) → (number % 3 == 1) ≡ true → number % 3 ≡ 1
from_1 number is = grind (arith, nat_tests)

left_2 : (number : ℕ) → number % 3 < 3 → (number % 3 == 0) ≡ false → (number % 3 == 1) ≡ false → number % 3 ≡ 2
left_2 number less not_0 not_1 = grind (arith, nat_tests)

below_3 : (number : ℕ) → number % 3 < 3
below_3 number = omega arith

-- one byte was written over an old one
module _ (number at byte : ℕ) (old : List ℕ) (touched : ℕ → Bool) (le : at ≤ length old) (where_is : (place : ℕ) → touched place ≡ is_within at (length (byte ∷ [])) place) where
  abbrev written : List ℕ
  written = written_over at (byte ∷ []) old

  abbrev there : ℕ
  there = get_or (bytes_in_image number old written touched) at 0

  there_0 : (number % 3 == 0) ≡ true → there ≡ get_or old at 0
  there_0 is = ap (λ (l : List ℕ). get_or l at 0) (in_image_0 number old written touched is)

  there_1 : number % 3 ≡ 1 → there ≡ byte
  there_1 is = ap (λ (l : List ℕ). get_or l at 0) (in_image_1 number old written touched (not_2 number is) (is_1 number is)) ∙ byte_written at byte old written le refl

  touched_there : touched at ≡ true
  touched_there = where_is at ∙ and_from _ _ (le-leb at at (omega arith)) (lt-ltb at (at + 1) (omega arith))

  there_2 : number % 3 ≡ 2 → there ≡ number / 3 % 256
  there_2 is =
      ap (λ (l : List ℕ). get_or l at 0) (in_image_2 number old written touched (two_not_0 number is) (two_not_1 number is))
      ∙ get_or-overwritten touched (number / 3 % 256) 0 at written (omega (arith, length-written_over at (byte ∷ []) old le))
      ∙ cond-true (touched (0 + at)) (number / 3 % 256) (get_or written at 0) (ap touched (omega arith) ∙ touched_there)

  pub shown : (P : ℕ → Type 0) → P byte → Shows P number → P there
  shown P new_has (inl is) = subst P (sym (there_1 is)) new_has
  shown P new_has (inr is) = subst P (sym (there_2 is.0)) is.1

  pub hidden : (P : ℕ → Type 0) → (P (get_or old at 0) → ⊥) → (Shows P number → ⊥) → P there → ⊥
  hidden P old_lacks not_shown has = elim (cases_Bool (number % 3 == 0)) [
    | inl is_0 ↦ old_lacks (subst P (there_0 is_0) has)
    | inr not_0 ↦
        elim (cases_Bool (number % 3 == 1)) [
          | inl one ↦ not_shown (inl (from_1 number one))
          | inr not_1 ↦ let two = left_2 number (below_3 number) not_0 not_1 in not_shown (inr (two, subst P (there_2 two) has))
        ]
  ]
