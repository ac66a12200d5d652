-- From one file in memory to the disk: its images, what it tells, and its moments.
use Rattle.std.proofs.Common.{◌≡◌, ◌≢◌, ◌⊎◌, inl, inr, ℕ, ◌+◌, ◌≤◌, max, ◌||◌, take, List, length, refl, sym, ap, ◌∙◌, subst, arith, length-take}
use Rattle.std.proofs.Math.Path.{fun_ext}
use Rattle.disk_model.specs.declared.fault.FileNo.{FileNo}
use Rattle.disk_model.specs.declared.fault.FileNo.TheVariants.{Chooser, AreaA, AreaB}
use Rattle.disk_model.specs.declared.mem_file.MemFile.{MemFile}
use Rattle.disk_model.specs.declared.mem_files.MemFiles.{MemFiles}
use Rattle.disk_model.specs.Files.{mem_file, seen_in, synced_in, touched_in, IsImageIn, InMemFile, IsSame}
use Rattle.disk_model.specs.Images.{Image, file_of, with_file, OthersStay, InFile, written_over, HoldsPiece, Torn, Cut, ImagesFollow, IsDurable, NoNewImage}
use Rattle.disk_model.specs.Memory.{file_bytes, synced_of, spans_of, IsImageOf, IsWritten, IsFileCut, IsSynced}
use Rattle.disk_model.specs.Told.{is_within}
use Rattle.disk_model.specs.Touched.{is_touched, IsLeft}
use Rattle.disk_model.proofs.FileLemmas.{length-written_over}
use Rattle.disk_model.proofs.ImageLemmas.{torn, cut_short, seen_left, synced_alone}
use Rattle.disk_model.proofs.SpanLemmas.{is_touched-push}

-- ---- files by their names

pub cases_file : (one other : FileNo) → (one ≡ other) ⊎ (one ≢ other)
cases_file Chooser Chooser = inl refl
cases_file Chooser AreaA = inr (λ same. absurd cc)
cases_file Chooser AreaB = inr (λ same. absurd cc)
cases_file AreaA Chooser = inr (λ same. absurd cc)
cases_file AreaA AreaA = inl refl
cases_file AreaA AreaB = inr (λ same. absurd cc)
cases_file AreaB Chooser = inr (λ same. absurd cc)
cases_file AreaB AreaA = inr (λ same. absurd cc)
cases_file AreaB AreaB = inl refl

pub file_of-seen : (file : FileNo) (files : MemFiles) → file_of file (seen_in files) ≡ file_bytes (mem_file file files)
file_of-seen Chooser files = refl
file_of-seen AreaA files = refl
file_of-seen AreaB files = refl

pub file_of-synced : (file : FileNo) (files : MemFiles) → file_of file (synced_in files) ≡ synced_of (mem_file file files)
file_of-synced Chooser files = refl
file_of-synced AreaA files = refl
file_of-synced AreaB files = refl

pub file_of-with_file : (file : FileNo) (bytes : List ℕ) (image : Image) → file_of file (with_file file bytes image) ≡ bytes
file_of-with_file Chooser bytes image = refl
file_of-with_file AreaA bytes image = refl
file_of-with_file AreaB bytes image = refl

pub others-with_file : (file : FileNo) (bytes : List ℕ) (image : Image) → OthersStay file image (with_file file bytes image)
others-with_file Chooser bytes image Chooser other = absurd (other refl)
others-with_file Chooser bytes image AreaA other = refl
others-with_file Chooser bytes image AreaB other = refl
others-with_file AreaA bytes image Chooser other = refl
others-with_file AreaA bytes image AreaA other = absurd (other refl)
others-with_file AreaA bytes image AreaB other = refl
others-with_file AreaB bytes image Chooser other = refl
others-with_file AreaB bytes image AreaA other = refl
others-with_file AreaB bytes image AreaB other = absurd (other refl)

-- two images with the same files are one
pub same_image : (one other : Image) → ((file : FileNo) → file_of file one ≡ file_of file other) → one ≡ other
same_image one other same = λ i. record { chooser = same Chooser i; area_a = same AreaA i; area_b = same AreaB i }

pub each_left : (files : MemFiles) (image : Image) → IsImageIn files image → (file : FileNo) → IsImageOf (mem_file file files) (file_of file image)
each_left files image left Chooser = left.chooser
each_left files image left AreaA = left.area_a
each_left files image left AreaB = left.area_b

pub all_left : (files : MemFiles) (image : Image) → ((file : FileNo) → IsImageOf (mem_file file files) (file_of file image)) → IsImageIn files image
all_left files image each = record { chooser = each Chooser; area_a = each AreaA; area_b = each AreaB }

-- ---- one file changes

module _ (file : FileNo) (Step : MemFile → MemFile → Type 0) (old new : MemFiles) (change : InMemFile file Step old new) where
  pub others_seen : OthersStay file (seen_in old) (seen_in new)
  others_seen other differs =
      file_of-seen other new ∙ ap file_bytes (change.others other differs) ∙ sym (file_of-seen other old)

  -- an image before the change, from one after it
  before_change : (image : Image) (bytes : List ℕ) → IsImageIn new image → IsImageOf (mem_file file old) bytes → IsImageIn old (with_file file bytes image)
  before_change image bytes left was = all_left old (with_file file bytes image) (λ other. elim (cases_file other file) [
    | inl same ↦
        subst (λ f. IsImageOf (mem_file f old) (file_of f (with_file file bytes image))) (sym same)
        (subst (IsImageOf (mem_file file old)) (sym (file_of-with_file file bytes image)) was)
    | inr differs ↦
        subst (IsImageOf (mem_file other old)) (sym (others-with_file file bytes image other differs))
        (subst (λ f. IsImageOf f (file_of other image)) (change.others other differs) (each_left new image left other))
  ])

-- ---- a write

module _ (file : FileNo) (at : ℕ) (piece : List ℕ) (old new : MemFiles) (change : InMemFile file (IsWritten at piece) old new) (within : at ≤ length (file_of file (seen_in old))) where
  fits : at ≤ length (file_bytes (mem_file file old))
  fits = subst (λ bytes. at ≤ length bytes) (file_of-seen file old) within

  pub write_holds : InFile file (HoldsPiece at piece) (seen_in old) (seen_in new)
  write_holds =
      record {
        step = file_of-seen file new ∙ change.step.bytes ∙ ap (written_over at piece) (sym (file_of-seen file old));
        others = others_seen file (IsWritten at piece) old new change;
      }

  grows : (place : ℕ) → is_touched (spans_of (mem_file file new)) place ≡ (is_touched (spans_of (mem_file file old)) place || is_within at (length piece) place)
  grows place =
      ap (λ spans. is_touched spans place) change.step.touched ∙ is_touched-push (spans_of (mem_file file old)) (record { from = at; until = at + length piece }) place

  size : length (file_bytes (mem_file file new)) ≡ max (length (file_bytes (mem_file file old))) (at + length piece)
  size = ap length change.step.bytes ∙ length-written_over at piece (file_bytes (mem_file file old)) fits

  was_torn : (image : Image) → IsImageIn new image → (before : List ℕ) × IsImageOf (mem_file file old) before × Torn at (length piece) before (file_of file image)
  was_torn image left =
      torn (synced_of (mem_file file old)) (file_of file image) (length (file_bytes (mem_file file old))) at (length piece) (is_touched (spans_of (mem_file file old))) (is_touched (spans_of (mem_file file new))) fits grows
      (subst (λ synced. IsLeft synced (max (length (file_bytes (mem_file file old))) (at + length piece)) (is_touched (spans_of (mem_file file new))) (file_of file image)) change.step.synced
      (subst (λ now. IsLeft (synced_of (mem_file file new)) now (is_touched (spans_of (mem_file file new))) (file_of file image)) size (each_left new image left file)))

  pub write_follows : ImagesFollow (InFile file (Torn at (length piece))) (IsImageIn old) (IsImageIn new)
  write_follows image left =
      let was = was_torn image left in (
        with_file file was.0 image,
        before_change file (IsWritten at piece) old new change image was.0 left was.1,
        record {
          step = subst (λ before. Torn at (length piece) before (file_of file image)) (sym (file_of-with_file file was.0 image)) was.2;
          others = λ other differs. sym (others-with_file file was.0 image other differs);
        },
      )

-- ---- a cut

module _ (file : FileNo) (cut_to : ℕ) (old new : MemFiles) (change : InMemFile file (IsFileCut cut_to) old new) (within : cut_to ≤ length (file_of file (seen_in old))) where
  pub cut_done : InFile file (λ before after. after ≡ take cut_to before) (seen_in old) (seen_in new)
  cut_done =
      record {
        step = file_of-seen file new ∙ change.step.bytes ∙ ap (take cut_to) (sym (file_of-seen file old));
        others = others_seen file (IsFileCut cut_to) old new change;
      }

  cut_fits : cut_to ≤ length (file_bytes (mem_file file old))
  cut_fits = subst (λ bytes. cut_to ≤ length bytes) (file_of-seen file old) within

  cut_size : length (file_bytes (mem_file file new)) ≡ cut_to
  cut_size = omega (arith, ap length change.step.bytes, length-take cut_to (file_bytes (mem_file file old)), cut_fits)

  was_longer : (image : Image) → IsImageIn new image → (before : List ℕ) × IsImageOf (mem_file file old) before × Cut cut_to before (file_of file image)
  was_longer image left =
      cut_short (synced_of (mem_file file old)) (file_of file image) (length (file_bytes (mem_file file old))) cut_to (is_touched (spans_of (mem_file file old))) cut_fits
      (subst (λ spans. IsLeft (synced_of (mem_file file old)) cut_to (is_touched spans) (file_of file image)) change.step.touched
      (subst (λ synced. IsLeft synced cut_to (is_touched (spans_of (mem_file file new))) (file_of file image)) change.step.synced
      (subst (λ now. IsLeft (synced_of (mem_file file new)) now (is_touched (spans_of (mem_file file new))) (file_of file image)) cut_size (each_left new image left file))))

  pub cut_follows : ImagesFollow (InFile file (Cut cut_to)) (IsImageIn old) (IsImageIn new)
  cut_follows image left =
      let was = was_longer image left in (
        with_file file was.0 image,
        before_change file (IsFileCut cut_to) old new change image was.0 left was.1,
        record {
          step = subst (λ before. Cut cut_to before (file_of file image)) (sym (file_of-with_file file was.0 image)) was.2;
          others = λ other differs. sym (others-with_file file was.0 image other differs);
        },
      )

-- ---- a sync

abbrev pub Syncs : MemFile → MemFile → Type 0
Syncs before after = IsSynced (file_bytes before) after

-- a file that was synced is what is there, whatever a stop leaves
pub alone : (file : MemFile) (bytes image : List ℕ) → IsSynced bytes file → IsImageOf file image → image ≡ bytes
alone file bytes image synced left =
    synced_alone bytes image
    (subst (λ spans. IsLeft bytes (length bytes) (is_touched spans) image) synced.touched
    (subst (λ now. IsLeft bytes (length now) (is_touched (spans_of file)) image) synced.bytes
    (subst (λ before. IsLeft before (length (file_bytes file)) (is_touched (spans_of file)) image) synced.synced left)))

module _ (file : FileNo) (old new : MemFiles) (change : InMemFile file Syncs old new) where
  pub sync_seen : seen_in new ≡ seen_in old
  sync_seen = same_image (seen_in new) (seen_in old) (λ other. elim (cases_file other file) [
    | inl same ↦ subst (λ f. file_of f (seen_in new) ≡ file_of f (seen_in old)) (sym same) (file_of-seen file new ∙ change.step.bytes ∙ sym (file_of-seen file old))
    | inr differs ↦ others_seen file Syncs old new change other differs
  ])

  is_there : (image : Image) → IsImageIn new image → file_of file image ≡ file_bytes (mem_file file old)
  is_there image left = alone (mem_file file new) (file_bytes (mem_file file old)) (file_of file image) change.step (each_left new image left file)

  pub sync_durable : IsDurable file (seen_in new) (IsImageIn new)
  sync_durable image left = is_there image left ∙ sym (file_of-seen file new ∙ change.step.bytes)

  pub sync_no_new_image : NoNewImage (IsImageIn old) (IsImageIn new)
  sync_no_new_image image left = all_left old image (λ other. elim (cases_file other file) [
    | inl same ↦
        subst (λ f. IsImageOf (mem_file f old) (file_of f image)) (sym same)
        (subst (IsImageOf (mem_file file old)) (sym (is_there image left)) (seen_left (synced_of (mem_file file old)) (file_bytes (mem_file file old)) (spans_of (mem_file file old)) (mem_file file old).agrees))
    | inr differs ↦ subst (λ f. IsImageOf f (file_of other image)) (change.others other differs) (each_left new image left other)
  ])

-- ---- nothing changes

module _ (old new : MemFiles) (same : IsSame old new) where
  pub same_seen : seen_in new ≡ seen_in old
  same_seen = same_image (seen_in new) (seen_in old) (λ file. file_of-seen file new ∙ (same file).bytes ∙ sym (file_of-seen file old))

  pub same_synced : synced_in new ≡ synced_in old
  same_synced = same_image (synced_in new) (synced_in old) (λ file. file_of-synced file new ∙ (same file).synced ∙ sym (file_of-synced file old))

  pub same_touched : touched_in new ≡ touched_in old
  same_touched = fun_ext (λ file. ap is_touched (same file).touched)

  file_alike : (file : FileNo) (image : List ℕ) → IsImageOf (mem_file file new) image → IsImageOf (mem_file file old) image
  file_alike file image left =
      subst (λ spans. IsLeft (synced_of (mem_file file old)) (length (file_bytes (mem_file file old))) (is_touched spans) image) (same file).touched
      (subst (λ bytes. IsLeft (synced_of (mem_file file old)) (length bytes) (is_touched (spans_of (mem_file file new))) image) (same file).bytes
      (subst (λ synced. IsLeft synced (length (file_bytes (mem_file file new))) (is_touched (spans_of (mem_file file new))) image) (same file).synced left))

  pub same_images : NoNewImage (IsImageIn old) (IsImageIn new)
  same_images image left = all_left old image (λ file. file_alike file (file_of file image) (each_left new image left file))

pub is_same_back : (old new : MemFiles) → IsSame old new → IsSame new old
is_same_back old new same file = record { bytes = sym (same file).bytes; synced = sym (same file).synced; touched = sym (same file).touched }

-- a write that changed nothing
pub torn_not_at_all : (file : FileNo) (at count : ℕ) (old new : Image → Type 0) → NoNewImage old new → ImagesFollow (InFile file (Torn at count)) old new
torn_not_at_all file at count old new none image left = (
  image,
  none image left,
  record {
    step = record { before = refl; after = refl; no_shorter = omega arith; no_longer = omega arith };
    others = λ other differs. refl;
  },
)
