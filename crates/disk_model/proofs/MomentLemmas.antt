-- How a disk's moments go on.
use Rattle.std.proofs.Common.{◌≡◌, ◌⊎◌, inl, inr, ⊎_elim, ℕ, zero, suc, ◌≤◌, [], ◌∷◌, ◌++◌, length, drop, refl, sym, subst, arith, length-append}
use Rattle.disk_model.specs.declared.fault.FileNo.{FileNo}
use Rattle.disk_model.specs.declared.mem_files.MemFiles.{MemFiles}
use Rattle.disk_model.specs.Files.{IsImageIn, History, HadImage, LeftSince}
use Rattle.disk_model.specs.Images.{Image, NoNewImage, Elapses}

keeps : (history : History) (before : MemFiles × FileNo) (image : Image) → HadImage history image → HadImage (history ++ before ∷ []) image
keeps [] before image had = absurd had
keeps (first ∷ history) before image (inl here) = inl here
keeps (first ∷ history) before image (inr there) = inr (keeps history before image there)

adds : (history : History) (before : MemFiles × FileNo) (image : Image) → HadImage (history ++ before ∷ []) image → HadImage history image ⊎ IsImageIn before.0 image
adds [] before image (inl here) = inr here
adds [] before image (inr none) = absurd none
adds (first ∷ history) before image (inl here) = inl (inl here)
adds (first ∷ history) before image (inr there) = ⊎_elim (λ had. inl (inr had)) (λ new. inr new) (adds history before image there)

newest : (history : History) (before : MemFiles × FileNo) (image : Image) → IsImageIn before.0 image → HadImage (history ++ before ∷ []) image
newest [] before image is = inl is
newest (first ∷ history) before image is = inr (newest history before image is)

drop_push : (start : ℕ) (history : History) (before : MemFiles × FileNo) → start ≤ length history → drop start (history ++ before ∷ []) ≡ drop start history ++ before ∷ []
drop_push zero history before le = refl
drop_push (suc start) [] before le = absurd (omega arith)
drop_push (suc start) (first ∷ history) before le = drop_push start history before (omega arith)

-- a call that changes nothing, or only rooms
pub elapses_alike : (history : History) (old new : MemFiles) → NoNewImage (IsImageIn old) (IsImageIn new) → NoNewImage (IsImageIn new) (IsImageIn old)
    → Elapses (length history) (length history) (LeftSince history old) (LeftSince history new) (IsImageIn new)
elapses_alike history old new alike back =
    record {
      later = omega arith;
      nothing_else = λ start image le left. ⊎_elim (λ now. inr now) (λ had. inl (inr had)) left;
      keeps = λ start image le left. ⊎_elim (λ now. inl (back image now)) (λ had. inr had) left;
    }

elapses_push : (history : History) (old new : MemFiles) (file : FileNo)
    → Elapses (length history) (length (history ++ (old, file) ∷ [])) (LeftSince history old) (LeftSince (history ++ (old, file) ∷ []) new) (IsImageIn new)
elapses_push history old new file =
    record {
      later = omega (arith, length-append history ((old, file) ∷ []));
      nothing_else = λ start image le left. ⊎_elim (λ now. inr now) (λ had. inl (was start image (adds (drop start history) (old, file) image (subst (λ (h : History). HadImage h image) (drop_push start history (old, file) le) had)))) left;
      keeps = λ start image le left. inr (subst (λ (h : History). HadImage h image) (sym (drop_push start history (old, file) le)) (⊎_elim (newest (drop start history) (old, file) image) (keeps (drop start history) (old, file) image) left));
    }
  where
    was : (start : ℕ) (image : Image) → HadImage (drop start history) image ⊎ IsImageIn old image → LeftSince history old start image
    was start image (inl had) = inr had
    was start image (inr new) = inl new

-- a call that changes a file
pub elapses : (history later : History) (old new : MemFiles) (file : FileNo) → later ≡ history ++ (old, file) ∷ []
    → Elapses (length history) (length later) (LeftSince history old) (LeftSince later new) (IsImageIn new)
elapses history later old new file is =
    subst (λ (h : History). Elapses (length history) (length h) (LeftSince history old) (LeftSince h new) (IsImageIn new)) (sym is) (elapses_push history old new file)
