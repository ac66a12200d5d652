-- A disk that stopped within a write that is synced: what it tells, and the files of the image that the stop leaves.
use Rattle.std.proofs.Common.{◌≡◌, ◌≢◌, inl, inr, ℕ, ◌+◌, ◌<◌, ◌≤◌, ◌%◌, ◌/◌, ◌==◌, if◌then◌else◌, Bool, true, false, ◌&&◌, ◌||◌, nat_le, nat_lt, take, drop, List, [], ◌∷◌, length, get_or, Option, Some, refl, sym, ap, ◌∙◌, subst, arith}
use Rattle.std.proofs.lemmas.Bool.{cases_Bool, cond-true, cond-false, and_left, and_right, lt-leb, le-ltb}
use Rattle.std.proofs.lemmas.List.{get_or-take, get_or-drop, length-take, length-drop, ext_get_or}
use Rattle.disk_model.specs.declared.armed.Arm.{Arm}
use Rattle.disk_model.specs.declared.fault.FileNo.{FileNo}
use Rattle.disk_model.specs.declared.fault.FileNo.TheVariants.{Chooser, AreaA, AreaB}
use Rattle.disk_model.specs.Images.{Image, file_of, with_file, written_over, Torn}
use Rattle.disk_model.specs.Told.{Told, is_file, is_within, overwritten, bytes_in_image, image_of, image_by, image_left}
use Rattle.disk_model.proofs.FileLemmas.{length-overwritten, get_or-overwritten}
use Rattle.disk_model.proofs.RunLemmas.{not_torn}
use Rattle.gate_file.proofs.GateLemmas.{holds_torn}
use Rattle.replica_store.specs.Kept.{IsClean}
use Rattle.disk_model.proofs.DiskLemmas.{file_of-with_file as file_of-same}
use Rattle.disk_model.proofs.ToldLemmas.{is_file-same as same_is, is_file-other as differs_is}

-- ---- files of an image

pub file_of-other : (file other : FileNo) (bytes : List ℕ) (image : Image) → other ≢ file → file_of other (with_file file bytes image) ≡ file_of other image
file_of-other Chooser Chooser bytes image differs = absurd (differs refl)
file_of-other Chooser AreaA bytes image differs = refl
file_of-other Chooser AreaB bytes image differs = refl
file_of-other AreaA Chooser bytes image differs = refl
file_of-other AreaA AreaA bytes image differs = absurd (differs refl)
file_of-other AreaA AreaB bytes image differs = refl
file_of-other AreaB Chooser bytes image differs = refl
file_of-other AreaB AreaA bytes image differs = refl
file_of-other AreaB AreaB bytes image differs = absurd (differs refl)

file_in_image : (number : ℕ) (told : Told) (file : FileNo) → file_of file (image_of number told) ≡ bytes_in_image number (file_of file told.synced) (file_of file told.done) (told.touched file)
file_in_image number told Chooser = refl
file_in_image number told AreaA = refl
file_in_image number told AreaB = refl

pub file_left : (arm : Arm) (told : Told) (file : FileNo) → told.arm ≡ Some arm → file_of file (image_left told) ≡ bytes_in_image arm.image (file_of file told.synced) (file_of file told.done) (told.touched file)
file_left arm told file is = ap (λ (a : Option Arm). file_of file (image_by a told)) is ∙ file_in_image arm.image told file

-- ---- the bytes of a file in the image of a number

module _ (number : ℕ) (synced done : List ℕ) (touched : ℕ → Bool) where
  abbrev byte_case : List ℕ
  byte_case = overwritten touched (number / 3 % 256) 0 done

  pub in_image_0 : (number % 3 == 0) ≡ true → bytes_in_image number synced done touched ≡ synced
  in_image_0 is = cond-true (number % 3 == 0) synced (if number % 3 == 1 then done else byte_case) is

  pub in_image_1 : (number % 3 == 0) ≡ false → (number % 3 == 1) ≡ true → bytes_in_image number synced done touched ≡ done
  in_image_1 not_0 is = cond-false (number % 3 == 0) synced (if number % 3 == 1 then done else byte_case) not_0 ∙ cond-true (number % 3 == 1) done byte_case is

  pub in_image_2 : (number % 3 == 0) ≡ false → (number % 3 == 1) ≡ false → bytes_in_image number synced done touched ≡ byte_case
  in_image_2 not_0 not_1 = cond-false (number % 3 == 0) synced (if number % 3 == 1 then done else byte_case) not_0 ∙ cond-false (number % 3 == 1) done byte_case not_1

  -- what all three have, the image has
  pub each_image : (P : List ℕ → Type 0) → P synced → P done → P byte_case → P (bytes_in_image number synced done touched)
  each_image P first second third = elim (cases_Bool (number % 3 == 0)) [
    | inl is_0 ↦ subst P (sym (in_image_0 is_0)) first
    | inr not_0 ↦
        elim (cases_Bool (number % 3 == 1)) [
          | inl is_1 ↦ subst P (sym (in_image_1 not_0 is_1)) second
          | inr not_1 ↦ subst P (sym (in_image_2 not_0 not_1)) third
        ]
  ]

untouched_bytes : (touched : ℕ → Bool) (byte place : ℕ) (bytes : List ℕ) → ((place : ℕ) → touched place ≡ false) → overwritten touched byte place bytes ≡ bytes
untouched_bytes touched byte place [] none = refl
untouched_bytes touched byte place (first ∷ rest) none =
    ap (λ (n : ℕ). n ∷ overwritten touched byte (place + 1) rest) (cond-false (touched place) byte first (none place)) ∙ ap (λ (l : List ℕ). first ∷ l) (untouched_bytes touched byte (place + 1) rest none)

-- a clean file is in each image as it is
pub clean_left : (arm : Arm) (told : Told) (file : FileNo) → told.arm ≡ Some arm → IsClean file told → file_of file (image_left told) ≡ file_of file told.done
clean_left arm told file is clean =
    file_left arm told file is
    ∙ each_image arm.image (file_of file told.synced) (file_of file told.done) (told.touched file) (λ (bytes : List ℕ). bytes ≡ file_of file told.done) clean.synced refl
    (untouched_bytes (told.touched file) (arm.image / 3 % 256) 0 (file_of file told.done) clean.untouched)

-- ---- a write that isn't synced, of a clean file

outside_before : (at count place : ℕ) → place < at → is_within at count place ≡ false
outside_before at count place below = and_left (nat_le at place) (nat_lt place (at + count)) (lt-leb at place below)

outside_after : (at count place : ℕ) → at + count ≤ place → is_within at count place ≡ false
outside_after at count place past = and_right (nat_le at place) (nat_lt place (at + count)) (le-ltb place (at + count) past)

module _ (at : ℕ) (piece old : List ℕ) (touched : ℕ → Bool) (le : at ≤ length old) (where_is : (place : ℕ) → touched place ≡ is_within at (length piece) place) where
  abbrev written : List ℕ
  written = written_over at piece old

  whole : Torn at (length piece) old written
  whole = holds_torn at piece old written le refl

  module _ (byte : ℕ) where
    abbrev bytes : List ℕ
    bytes = overwritten touched byte 0 written

    long : length bytes ≡ length written
    long = length-overwritten touched byte 0 written

    same_there : (place : ℕ) → place < length written → is_within at (length piece) place ≡ false → get_or bytes place 0 ≡ get_or written place 0
    same_there place lt outside =
        get_or-overwritten touched byte 0 place written lt
        ∙ cond-false (touched (0 + place)) byte (get_or written place 0) (ap touched (omega arith) ∙ where_is place ∙ outside)

    torn_byte : Torn at (length piece) old bytes
    torn_byte =
        record {
          before = ext_get_or 0 (take at bytes) (take at written) (omega (arith, length-take at bytes, length-take at written, long)) (λ place lt.
              get_or-take at bytes place 0 (omega (arith, length-take at bytes))
              ∙ same_there place (omega (arith, length-take at bytes, long)) (outside_before at (length piece) place (omega (arith, length-take at bytes)))
              ∙ sym (get_or-take at written place 0 (omega (arith, length-take at bytes))))
              ∙ whole.before;
          after = ext_get_or 0 (drop (at + length piece) bytes) (drop (at + length piece) written) (omega (arith, length-drop (at + length piece) bytes, length-drop (at + length piece) written, long)) (λ place lt.
              get_or-drop (at + length piece) bytes place 0
              ∙ same_there (at + length piece + place) (omega (arith, length-drop (at + length piece) bytes, long)) (outside_after at (length piece) (at + length piece + place) (omega arith))
              ∙ sym (get_or-drop (at + length piece) written place 0))
              ∙ whole.after;
          no_shorter = omega (arith, whole.no_shorter, long);
          no_longer = omega (arith, whole.no_longer, long);
        }

  -- whatever the image is, it is one of those that a stop may leave
  pub torn_image : (number : ℕ) → Torn at (length piece) old (bytes_in_image number old written touched)
  torn_image number = each_image number old written touched (Torn at (length piece) old) (not_torn at (length piece) old) whole (torn_byte (number / 3 % 256))

-- ---- what a disk tells

-- a write of a file was done or stopped within, and no sync since
pub record IsPending (file : FileNo) (at : ℕ) (piece : List ℕ) (old new : Told) : Type 0 where
  pub done : new.done ≡ with_file file (written_over at piece (file_of file old.done)) old.done
  pub synced : new.synced ≡ old.synced
  pub touched : (other : FileNo) (place : ℕ) → new.touched other place ≡ (old.touched other place || (is_file file other && is_within at (length piece) place))

or_none : (b : Bool) → b ≡ false → (b || false) ≡ false
or_none true is = is
or_none false is = refl

or_here : (b c d : Bool) → b ≡ false → c ≡ true → (b || (c && d)) ≡ d
or_here true c d is here = absurd (cc is)
or_here false true d is here = refl
or_here false false d is here = absurd (cc here)

or_there : (b c d : Bool) → b ≡ false → c ≡ false → (b || (c && d)) ≡ false
or_there true c d is there = absurd (cc is)
or_there false true d is there = absurd (cc there)
or_there false false d is there = refl

module _ (file : FileNo) (at : ℕ) (piece : List ℕ) (old new : Told) (pending : IsPending file at piece old new) where
  -- another file that was clean is so, with the same bytes
  pub pending_clean : (other : FileNo) → other ≢ file → IsClean other old → IsClean other new
  pending_clean other differs clean =
      record {
        synced = ap (file_of other) pending.synced ∙ clean.synced ∙ sym (file_of-other file other (written_over at piece (file_of file old.done)) old.done differs) ∙ sym (ap (file_of other) pending.done);
        untouched = λ place. pending.touched other place ∙ or_there (old.touched other place) (is_file file other) (is_within at (length piece) place) (clean.untouched place) (differs_is file other differs);
      }

  pub pending_same : (other : FileNo) → other ≢ file → file_of other new.done ≡ file_of other old.done
  pending_same other differs = ap (file_of other) pending.done ∙ file_of-other file other (written_over at piece (file_of file old.done)) old.done differs

  module _ (clean : IsClean file old) where
    pub pending_touched : (place : ℕ) → new.touched file place ≡ is_within at (length piece) place
    pending_touched place = pending.touched file place ∙ or_here (old.touched file place) (is_file file file) (is_within at (length piece) place) (clean.untouched place) (same_is file)

    -- the file in the image that is left
    pub pending_left : (arm : Arm) → new.arm ≡ Some arm → file_of file (image_left new) ≡ bytes_in_image arm.image (file_of file old.done) (written_over at piece (file_of file old.done)) (new.touched file)
    pending_left arm is =
        file_left arm new file is
        ∙ ap (λ (l : List ℕ). bytes_in_image arm.image l (file_of file new.done) (new.touched file)) (ap (file_of file) pending.synced ∙ clean.synced)
        ∙ ap (λ (l : List ℕ). bytes_in_image arm.image (file_of file old.done) l (new.touched file)) (ap (file_of file) pending.done ∙ file_of-same file (written_over at piece (file_of file old.done)) old.done)
