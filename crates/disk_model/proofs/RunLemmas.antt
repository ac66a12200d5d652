-- What calls on one file leave of a disk's images.
use Rattle.std.proofs.Common.{◌≡◌, ℕ, ◌≤◌, List, refl, sym, ◌∙◌, subst, arith}
use Rattle.disk_model.specs.declared.fault.FileNo.{FileNo}
use Rattle.disk_model.specs.Images.{Image, file_of, InFile, Torn, ImagesFollow, IsDurable, NoNewImage, Elapses, InFileOnly}
use Rattle.disk_model.specs.View.{DiskView, LeavesOnly}
use Rattle.disk_model.proofs.CallerLemmas.{started, goes_on}

-- the images of one disk, in terms of those of an earlier one
abbrev pub AllInFile : FileNo → (Image → Type 0) → (Image → Type 0) → (List ℕ → Type 0) → Type 0
AllInFile file before now P = (image : Image) → now image → InFileOnly file before P image

-- at first each image is one of those that were
pub in_file_at_first : (file : FileNo) (before : Image → Type 0) (P : List ℕ → Type 0) → ((image : Image) → before image → P (file_of file image)) → AllInFile file before before P
in_file_at_first file before P has image left = (image, left, (λ other differs. refl), has image left)

-- after a call on the file
pub in_file_next : (file : FileNo) (before now later : Image → Type 0) (P Q : List ℕ → Type 0) (Step : List ℕ → List ℕ → Type 0) → AllInFile file before now P → ImagesFollow (InFile file Step) now later
    → ((old new : List ℕ) → P old → Step old new → Q new) → AllInFile file before later Q
in_file_next file before now later P Q Step all follows steps image left =
    let from = follows image left in
    let was = all from.0 from.1 in (
      was.0,
      was.1,
      (λ other differs. from.2.others other differs ∙ was.2 other differs),
      steps (file_of file from.0) (file_of file image) was.3 from.2.step,
    )

-- after a call that leaves no new image
pub in_file_still : (file : FileNo) (before now later : Image → Type 0) (P : List ℕ → Type 0) → AllInFile file before now P → NoNewImage now later → AllInFile file before later P
in_file_still file before now later P all none image left = all image (none image left)

-- images in terms of those of a disk that has itself such images
pub in_file_through : (file : FileNo) (before now : Image → Type 0) (P Q : List ℕ → Type 0) → AllInFile file before now P → (image : Image) → InFileOnly file now Q image → InFileOnly file before Q image
in_file_through file before now P Q all image only =
    let was = all only.0 only.1 in (was.0, was.1, (λ other differs. only.2 other differs ∙ was.2 other differs), only.3)

pub in_file_weaker : (file : FileNo) (before : Image → Type 0) (P Q : List ℕ → Type 0) → ((bytes : List ℕ) → P bytes → Q bytes) → (image : Image) → InFileOnly file before P image → InFileOnly file before Q image
in_file_weaker file before P Q weaker image only = (only.0, only.1, only.2, weaker (file_of file image) only.3)

-- no write at all is one that a stop cuts short
pub not_torn : (at count : ℕ) (bytes : List ℕ) → Torn at count bytes bytes
not_torn at count bytes = record { before = refl; after = refl; no_shorter = omega arith; no_longer = omega arith }

-- ---- whole calls

module _ {D : Type 0} (view : DiskView D) where
  -- a write to a file that was synced: whatever is left of it is what it was, torn where the write went
  pub torn_images : (old mid : D) (seen : Image) (file : FileNo) (at count : ℕ) → IsDurable file seen (view.may_leave old) → ImagesFollow (InFile file (Torn at count)) (view.may_leave old) (view.may_leave mid)
      → AllInFile file (view.may_leave old) (view.may_leave mid) (Torn at count (file_of file seen))
  torn_images old mid seen file at count durable follows =
      in_file_next file (view.may_leave old) (view.may_leave old) (view.may_leave mid) (λ bytes. bytes ≡ file_of file seen) (Torn at count (file_of file seen)) (Torn at count)
      (in_file_at_first file (view.may_leave old) (λ bytes. bytes ≡ file_of file seen) durable) follows
      (λ before after is step. subst (λ bytes. Torn at count bytes after) is step)

  pub write_leaves : (old mid : D) (seen : Image) (file : FileNo) (at count : ℕ) → ((image : Image) → view.left_since old (view.moment old) image → view.may_leave old image) → IsDurable file seen (view.may_leave old) → ImagesFollow (InFile file (Torn at count)) (view.may_leave old) (view.may_leave mid)
      → Elapses (view.moment old) (view.moment mid) (view.left_since old) (view.left_since mid) (view.may_leave mid)
      → LeavesOnly view old mid (InFileOnly file (view.may_leave old) (Torn at count (file_of file seen)))
  write_leaves old mid seen file at count only durable follows time =
      let first = in_file_at_first file (view.may_leave old) (Torn at count (file_of file seen)) (λ image left. subst (Torn at count (file_of file seen)) (sym (durable image left)) (not_torn at count (file_of file seen))) in
      goes_on view old old mid (InFileOnly file (view.may_leave old) (Torn at count (file_of file seen))) (view.may_leave mid)
      (started view old (InFileOnly file (view.may_leave old) (Torn at count (file_of file seen))) (λ image left. first image (only image left)))
      time (torn_images old mid seen file at count durable follows)

  -- and then a call that leaves no new image
  pub still_leaves : (old mid new : D) (file : FileNo) (P : List ℕ → Type 0) → LeavesOnly view old mid (InFileOnly file (view.may_leave old) P) → AllInFile file (view.may_leave old) (view.may_leave mid) P → NoNewImage (view.may_leave mid) (view.may_leave new)
      → Elapses (view.moment mid) (view.moment new) (view.left_since mid) (view.left_since new) (view.may_leave new) → LeavesOnly view old new (InFileOnly file (view.may_leave old) P)
  still_leaves old mid new file P so_far all none time =
      goes_on view old mid new (InFileOnly file (view.may_leave old) P) (view.may_leave new) so_far time (in_file_still file (view.may_leave old) (view.may_leave mid) (view.may_leave new) P all none)

-- what a disk leaves now, in terms of what it left before a run
pub now_in_run : {D : Type 0} (view : DiskView D) (old mid : D) (P : Image → Type 0) → ((start : ℕ) (image : Image) → start ≤ view.moment mid → view.may_leave mid image → view.left_since mid start image)
    → LeavesOnly view old mid P → (image : Image) → view.may_leave mid image → P image
now_in_run view old mid P counts_now run image left = run.each image (counts_now (view.moment old) image run.later left)
