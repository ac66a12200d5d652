-- A disk in memory that is new, or revived.
use Rattle.std.proofs.Common.{◌≡◌, inl, inr, ⊎_elim, ℕ, ◌<◌, ◌==◌, ◌/◌, ◌%◌, if◌then◌else◌, Bool, true, false, List, [], length, get_or, Option, None, Some, refl, sym, ap, ◌∙◌, subst, arith}
use Rattle.std.proofs.Math.Path.{fun_ext}
use Rattle.std.proofs.lemmas.Bool.{cases_lt, cond_both, cond-false}
use Rattle.std.proofs.lemmas.List.{nil_from_length}
use Rattle.disk_model.specs.declared.armed.Arm.{Arm}
use Rattle.disk_model.specs.declared.calls.Calls.{Calls}
use Rattle.disk_model.specs.declared.fault.FileNo.{FileNo}
use Rattle.disk_model.specs.declared.fault.FileNo.TheVariants.{Chooser, AreaA, AreaB}
use Rattle.disk_model.specs.declared.mem_file.MemFile.{MemFile}
use Rattle.disk_model.specs.declared.mem_files.MemFiles.{MemFiles}
use Rattle.disk_model.specs.Calls.{is_listing, number_by, told_by, IsRevived}
use Rattle.disk_model.specs.Files.{mem_file, seen_in, synced_in, touched_in, IsImageIn, AllRestored, AreEmpty}
use Rattle.disk_model.specs.Images.{Image, file_of, NoNewImage}
use Rattle.disk_model.specs.MemDisk.{no_files, new_told}
use Rattle.disk_model.specs.Memory.{file_bytes, synced_of, spans_of, IsImageOf}
use Rattle.disk_model.specs.Told.{Told, overwritten, bytes_in_image, image_of, image_by, after_revive}
use Rattle.disk_model.specs.Touched.{is_touched, IsBetween, IsLeft}
use Rattle.disk_model.proofs.DiskLemmas.{same_image, file_of-seen, file_of-synced, each_left, all_left, alone}
use Rattle.disk_model.proofs.FileLemmas.{length-overwritten, get_or-overwritten}
use Rattle.disk_model.proofs.ImageLemmas.{seen_left}
use Rattle.disk_model.proofs.ToldLemmas.{same_told}

-- ---- what a stop leaves is one of the images

synced_left : (synced : List ℕ) (now : ℕ) (touched : ℕ → Bool) → IsLeft synced now touched synced
synced_left synced now touched =
    record {
      size = ⊎_elim (λ less. inr (omega arith, omega arith)) (λ more. inl (omega arith, more)) (cases_lt now (length synced));
      others = λ place in_image in_synced not_touched. refl;
    }

overwritten_left : (file : MemFile) (byte : ℕ) → IsImageOf file (overwritten (is_touched (spans_of file)) byte 0 (file_bytes file))
overwritten_left file byte =
    let touched = is_touched (spans_of file) in
    let there = seen_left (synced_of file) (file_bytes file) (spans_of file) file.agrees in
    let long = length-overwritten touched byte 0 (file_bytes file) in
    record {
      size = subst (IsBetween (length (synced_of file)) (length (file_bytes file))) (sym long) there.size;
      others = λ place in_image in_synced not_touched.
          let in_bytes : place < length (file_bytes file) = omega (arith, in_image, long) in
          get_or-overwritten touched byte 0 place (file_bytes file) in_bytes
          ∙ ap (λ (n : ℕ). if touched n then byte else get_or (file_bytes file) place 0) (omega arith)
          ∙ cond-false (touched place) byte (get_or (file_bytes file) place 0) not_touched
          ∙ there.others place in_bytes in_synced not_touched;
    }

abbrev restored : ℕ → MemFile → List ℕ
restored image file = bytes_in_image image (synced_of file) (file_bytes file) (is_touched (spans_of file))

restored_left : (image : ℕ) (file : MemFile) → IsImageOf file (restored image file)
restored_left image file =
    cond_both (image % 3 == 0) (synced_of file) (if image % 3 == 1 then file_bytes file else overwritten (is_touched (spans_of file)) (image / 3 % 256) 0 (file_bytes file)) (IsImageOf file)
    (λ e. synced_left (synced_of file) (length (file_bytes file)) (is_touched (spans_of file)))
    (λ e. cond_both (image % 3 == 1) (file_bytes file) (overwritten (is_touched (spans_of file)) (image / 3 % 256) 0 (file_bytes file)) (IsImageOf file)
    (λ e. seen_left (synced_of file) (file_bytes file) (spans_of file) file.agrees)
    (λ e. overwritten_left file (image / 3 % 256)))

restored_in_image : (image : ℕ) (calls : Calls) (files : MemFiles) (file : FileNo) → restored image (mem_file file files) ≡ file_of file (image_of image (told_by calls files))
restored_in_image image calls files Chooser = refl
restored_in_image image calls files AreaA = refl
restored_in_image image calls files AreaB = refl

module _ (image : ℕ) (old new : MemFiles) (all : AllRestored image old new) where
  pub restored_is_left : IsImageIn old (seen_in new)
  restored_is_left = all_left old (seen_in new) (λ file.
      subst (IsImageOf (mem_file file old)) (sym (file_of-seen file new ∙ (all file).bytes)) (restored_left image (mem_file file old)))

  pub restored_no_new_image : NoNewImage (IsImageIn old) (IsImageIn new)
  restored_no_new_image found left = all_left old found (λ file.
      subst (IsImageOf (mem_file file old)) (sym (alone (mem_file file new) (restored image (mem_file file old)) (file_of file found) (all file) (each_left new found left file))) (restored_left image (mem_file file old)))

  pub restored_durable : (file : FileNo) (found : Image) → IsImageIn new found → file_of file found ≡ file_of file (seen_in new)
  restored_durable file found left =
      alone (mem_file file new) (restored image (mem_file file old)) (file_of file found) (all file) (each_left new found left file) ∙ sym (file_of-seen file new ∙ (all file).bytes)

  restored_seen : (calls : Calls) → seen_in new ≡ image_of image (told_by calls old)
  restored_seen calls = same_image (seen_in new) (image_of image (told_by calls old)) (λ file. file_of-seen file new ∙ (all file).bytes ∙ restored_in_image image calls old file)

  restored_synced : (calls : Calls) → synced_in new ≡ image_of image (told_by calls old)
  restored_synced calls = same_image (synced_in new) (image_of image (told_by calls old)) (λ file. file_of-synced file new ∙ (all file).synced ∙ restored_in_image image calls old file)

  restored_touched : touched_in new ≡ (λ file place. false)
  restored_touched = fun_ext (λ file. fun_ext (λ place. ap (λ spans. is_touched spans place) (all file).touched))

-- the number of the image, where the disk has stopped
pub left_number : (stopped : Bool) (number image : ℕ) → Some image ≡ (if stopped then Some number else None) → (stopped ≡ true) × (image ≡ number)
left_number true number image is = (refl, cc is)
left_number false number image is = absurd (cc is)

image_by_number : (arm : Option Arm) (told : Told) → image_of (number_by arm) told ≡ image_by arm told
image_by_number None told = same_image (image_of 1 told) told.done (λ file. each file)
  where
    each : (file : FileNo) → file_of file (image_of 1 told) ≡ file_of file told.done
    each Chooser = refl
    each AreaA = refl
    each AreaB = refl
image_by_number (Some arm) told = refl

revived_by : (told : Told) → told.stopped ≡ true → after_revive told ≡ record told { arm = None; stopped = false; done = image_by told.arm told; synced = image_by told.arm told; touched = λ file place. false }
revived_by told is = ap (λ (b : Bool). if b then record told { arm = None; stopped = false; done = image_by told.arm told; synced = image_by told.arm told; touched = λ file place. false } else told) is

pub revived_told : (image : ℕ) (old new : Calls) (before after : MemFiles) → AllRestored image before after → old.stopped ≡ true → image ≡ number_by old.arm → IsRevived old new → told_by new after ≡ after_revive (told_by old before)
revived_told image old new before after all stopped is revived =
    let told = told_by old before in
    let left : image_of image told ≡ image_by old.arm told = ap (λ (n : ℕ). image_of n told) is ∙ image_by_number old.arm told in
    same_told (ap (λ fails. is_listing fails.items) revived.fails)
    (revived.arm ∙ ap (λ (b : Bool). if b then None else old.arm) stopped)
    revived.stopped
    (restored_seen image before after all old ∙ left)
    (restored_synced image before after all old ∙ left)
    (restored_touched image before after all)
    ∙ sym (revived_by told stopped)

-- ---- a new disk

module _ (files : MemFiles) (empty : AreEmpty files) where
  pub new_seen : seen_in files ≡ no_files
  new_seen = same_image (seen_in files) no_files (λ file. file_of-seen file files ∙ empty.seen file ∙ nothing file)
    where
      nothing : (file : FileNo) → [] ≡ file_of file no_files
      nothing Chooser = refl
      nothing AreaA = refl
      nothing AreaB = refl

  new_synced : synced_in files ≡ no_files
  new_synced = same_image (synced_in files) no_files (λ file. file_of-synced file files ∙ empty.synced file ∙ nothing file)
    where
      nothing : (file : FileNo) → [] ≡ file_of file no_files
      nothing Chooser = refl
      nothing AreaA = refl
      nothing AreaB = refl

  new_touched : touched_in files ≡ (λ file place. false)
  new_touched = fun_ext (λ file. fun_ext (λ place. ap (λ spans. is_touched spans place) (empty.touched file)))

  pub new_images : (image : Image) → IsImageIn files image → image ≡ no_files
  new_images image left = same_image image no_files (λ file. nil_from_length (file_of file image) (none file) ∙ nothing file)
    where
      nothing : (file : FileNo) → [] ≡ file_of file no_files
      nothing Chooser = refl
      nothing AreaA = refl
      nothing AreaB = refl

      none : (file : FileNo) → length (file_of file image) ≡ 0
      none file =
          let size = (each_left files image left file).size in
          ⊎_elim (λ up. omega (arith, up, ap length (empty.seen file))) (λ down. omega (arith, down, ap length (empty.synced file))) size

  pub new_is_told : (calls : Calls) (fails : List ℕ) → calls.fails.items ≡ fails → calls.arm ≡ None → calls.stopped ≡ false → told_by calls files ≡ new_told (is_listing fails)
  new_is_told calls fails listed unarmed running = same_told (ap is_listing listed) unarmed running new_seen new_synced new_touched
