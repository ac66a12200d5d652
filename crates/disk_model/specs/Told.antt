-- What a disk may tell of itself beside its images: when it will stop, and what that stop leaves.
use Rattle.std.specs.Prelude.{◌≡◌, ◌⊎◌, ⊤, ℕ, ◌+◌, ◌-◌, ◌/◌, ◌%◌, ◌==◌, nat_le, nat_lt, Bool, true, false, not, ◌&&◌, ◌||◌, if◌then◌else◌, List, [], ◌∷◌, length, take, Option, None, Some, IsSomeAnd, Result, Ok, Err, IsErr}
use Rattle.disk_model.specs.declared.armed.Arm.{Arm}
use Rattle.disk_model.specs.declared.fault.FileNo.{FileNo}
use Rattle.disk_model.specs.declared.fault.FileNo.TheVariants.{Chooser, AreaA, AreaB}
use Rattle.disk_model.specs.declared.fault.DiskFault.{DiskFault}
use Rattle.disk_model.specs.declared.fault.DiskFault.TheVariants.{Stopped, Failed, OutOfMemory}
use Rattle.disk_model.specs.Images.{Image, file_of, with_file, written_over}
use Rattle.disk_model.specs.Touched.{IsLeft}

-- what a disk tells: of its faults and stops, of its bytes, and of what its syncs have left
pub record Told : Type 0 where
  -- it can fail
  pub fails : Bool
  -- when it stops, where it is to stop, and which image that leaves
  pub arm : Option Arm
  pub stopped : Bool
  -- the bytes of each file, with a call that stopped done
  pub done : Image
  -- what the last sync of each file left
  pub synced : Image
  -- which bytes of a file were written since, those of a call that stopped included
  pub touched : FileNo → ℕ → Bool

-- where the disk tells, it does so afterwards too, and the two are so
abbrev pub TellsThen : (Told → Told → Type 0) → Option Told → Option Told → Type 0
TellsThen Step None new = ⊤
TellsThen Step (Some old) None = ⊥
TellsThen Step (Some old) (Some new) = Step old new

-- A stop may leave the image: each file is what may be left of it, by its bytes, those of its last sync and the places that
-- were touched since.
abbrev pub MayBeLeft : Told → Image → Type 0
MayBeLeft told image =
    (file : FileNo) → IsLeft (file_of file told.synced) (length (file_of file told.done)) (told.touched file) (file_of file image)

-- it tells that it has stopped
abbrev pub TellsStop : Option Told → Type 0
TellsStop told = IsSomeAnd told (λ now. now.stopped ≡ true)

-- it tells that it has not stopped
abbrev pub IsRunning : Option Told → Type 0
IsRunning told = IsSomeAnd told (λ now. now.stopped ≡ false)

-- ---- what a call does

-- the two are the same file
abbrev pub is_file : FileNo → FileNo → Bool
is_file Chooser Chooser = true
is_file AreaA AreaA = true
is_file AreaB AreaB = true
is_file _ _ = false

-- a place is one of so many from an offset on
abbrev pub is_within : ℕ → ℕ → ℕ → Bool
is_within at count place = nat_le at place && nat_lt place (at + count)

-- a write of a piece at an offset: the file has its bytes, and their places are touched
abbrev pub after_write : FileNo → ℕ → List ℕ → Told → Told
after_write file at piece told =
    record told {
      done = with_file file (written_over at piece (file_of file told.done)) told.done;
      touched = λ other place. told.touched other place || (is_file file other && is_within at (length piece) place);
    }

-- a cut of a file to a size
abbrev pub after_cut : FileNo → ℕ → Told → Told
after_cut file size told = record told { done = with_file file (take size (file_of file told.done)) told.done }

-- a sync of a file: its bytes are synced, and none of its places is touched
abbrev pub after_sync : FileNo → Told → Told
after_sync file told =
    record told {
      synced = with_file file (file_of file told.done) told.synced;
      touched = λ other place. told.touched other place && not (is_file file other);
    }

-- nothing
abbrev pub no_change : Told → Told
no_change told = told

-- ---- when it stops

-- the next write, cut or sync stops within
abbrev pub is_due : Option Arm → Bool
is_due None = false
is_due (Some arm) = arm.left == 0

-- one more has succeeded
abbrev pub one_less : Option Arm → Option Arm
one_less None = None
one_less (Some arm) = Some (record arm { left = arm.left - 1 })

-- A write, a cut or a sync with this effect, and this one where it stops within.
abbrev pub AfterCall : {T : Type 0} → (Told → Told) → (Told → Told) → Result T DiskFault → Told → Told → Type 0
AfterCall effect stopped_effect (Ok _) old new =
    (old.stopped ≡ false) × (is_due old.arm ≡ false) × (new ≡ record (effect old) { arm = one_less old.arm })
AfterCall effect stopped_effect (Err Stopped) old new =
    ((old.stopped ≡ true) × (new ≡ old)) ⊎ ((old.stopped ≡ false) × (is_due old.arm ≡ true) × (new ≡ record (stopped_effect old) { stopped = true }))
AfterCall effect stopped_effect (Err Failed) old new = (old.stopped ≡ false) × (old.fails ≡ true) × (new ≡ old)
AfterCall effect stopped_effect (Err OutOfMemory) old new = (old.stopped ≡ false) × (new ≡ old)

-- a call that only looks
abbrev pub AfterLook : {T : Type 0} → Result T DiskFault → Told → Told → Type 0
AfterLook (Ok _) old new = (old.stopped ≡ false) × (new ≡ old)
AfterLook (Err Stopped) old new = (old.stopped ≡ true) × (new ≡ old)
AfterLook (Err Failed) old new = (old.stopped ≡ false) × (old.fails ≡ true) × (new ≡ old)
AfterLook (Err OutOfMemory) old new = ⊥

-- calls that only look, and take memory
abbrev pub AfterLooks : {T : Type 0} → Result T DiskFault → Told → Told → Type 0
AfterLooks (Err OutOfMemory) old new = (old.stopped ≡ false) × (new ≡ old)
AfterLooks result old new = AfterLook result old new

-- a write and then a sync of the file, or the first of the two that gives no answer
abbrev pub AfterWriteSynced : FileNo → ℕ → List ℕ → Result Unit DiskFault → Told → Told → Type 0
AfterWriteSynced file at piece result old new =
    (IsErr result × AfterCall (after_write file at piece) (after_write file at piece) result old new)
    ⊎ ((mid : Told) × AfterCall {T = Unit} (after_write file at piece) (after_write file at piece) (Ok tt) old mid
    × AfterCall (after_sync file) no_change result mid new)

-- ---- arming, and what a stop leaves

-- a disk that has stopped keeps the image that it is to leave
abbrev pub after_arm : ℕ → ℕ → Told → Told
after_arm pass image told = if told.stopped then told else record told { arm = Some (record { left = pass; image = image }) }

-- a disk that has stopped keeps that image, and another is armed no more
abbrev pub after_disarm : Told → Told
after_disarm told = if told.stopped then told else record told { arm = None }

-- the bytes from a place on, with one byte where they were touched
abbrev pub overwritten : (ℕ → Bool) → ℕ → ℕ → List ℕ → List ℕ
overwritten touched byte place [] = []
overwritten touched byte place (first ∷ rest) =
    (if touched place then byte else first) ∷ overwritten touched byte (place + 1) rest

-- A file in the image of a number, by what its last sync left, what it has now, and which bytes were touched since. Modulo 3,
-- the number 0 stands for what the sync left, 1 for the stopped call done, and 2 for the same with one byte, the number's
-- third modulo 256, at each place that was touched.
abbrev pub bytes_in_image : ℕ → List ℕ → List ℕ → (ℕ → Bool) → List ℕ
bytes_in_image number synced done touched =
    if number % 3 == 0 then synced
    else if number % 3 == 1 then done
    else overwritten touched (number / 3 % 256) 0 done

-- the files in the image of a number
abbrev pub image_of : ℕ → Told → Image
image_of number told =
    record {
      chooser = bytes_in_image number told.synced.chooser told.done.chooser (told.touched Chooser);
      area_a = bytes_in_image number told.synced.area_a told.done.area_a (told.touched AreaA);
      area_b = bytes_in_image number told.synced.area_b told.done.area_b (told.touched AreaB);
    }

-- the files that a stop leaves where the disk is armed so; where it isn't, they are as the calls have made them
abbrev pub image_by : Option Arm → Told → Image
image_by None told = told.done
image_by (Some arm) told = image_of arm.image told

-- the image that a stop leaves
abbrev pub image_left : Told → Image
image_left told = image_by told.arm told

-- where the disk has stopped, the files are the image that the stop leaves, and synced
abbrev pub after_revive : Told → Told
after_revive told =
    if told.stopped then record told { arm = None; stopped = false; done = image_left told; synced = image_left told; touched = λ file place. false }
    else told
