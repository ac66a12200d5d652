-- A file that is attached: synced, read, and closed where it isn't.
use Rattle.std.proofs.Common.{◌≢◌, ◌⊎◌, ℕ, ◌*◌, ◌≤◌, List, length, get_or, Option}
use Rattle.disk_model.specs.declared.fault.FileNo.{FileNo}
use Rattle.disk_model.specs.Images.{Image, file_of, Torn, NoNewImage, Elapses, InFileOnly, AllHave}
use Rattle.disk_model.specs.View.{DiskView, LeavesOnly}
use Rattle.disk_model.proofs.CallerLemmas.{started, goes_on, follows_on}
use Rattle.gate_file.specs.Gates.{HasBodies, IsStaged}
use Rattle.disk_model.proofs.RunLemmas.{now_in_run}
use Rattle.gate_file.proofs.AppendLemmas.{write_after}
use Rattle.gate_file.proofs.GateLemmas.{staged_tail}
use Rattle.disk_model.proofs.RunLemmas.{in_file_at_first, in_file_still}

module _ {D : Type 0} (view : DiskView D) (file : FileNo) (pending : Option (List ℕ)) (bodies : List (List ℕ)) where
  -- the sync
  pub sync_leaves : (old mid : D) → ((image : Image) → view.left_since old (view.moment old) image → view.may_leave old image) → AllHave file (IsStaged bodies pending) (view.may_leave old) → NoNewImage (view.may_leave old) (view.may_leave mid)
      → Elapses (view.moment old) (view.moment mid) (view.left_since old) (view.left_since mid) (view.may_leave mid)
      → LeavesOnly view old mid (InFileOnly file (view.may_leave old) (IsStaged bodies pending))
  sync_leaves old mid only_now staged none time =
      let first = in_file_at_first file (view.may_leave old) (IsStaged bodies pending) staged in
      goes_on view old old mid (InFileOnly file (view.may_leave old) (IsStaged bodies pending)) (view.may_leave mid)
      (started view old (InFileOnly file (view.may_leave old) (IsStaged bodies pending)) (λ image left. first image (only_now image left)))
      time (in_file_still file (view.may_leave old) (view.may_leave old) (view.may_leave mid) (IsStaged bodies pending) first none)

  -- and the reads
  pub read_leaves : (old mid new : D) → ((start : ℕ) (image : Image) → start ≤ view.moment mid → view.may_leave mid image → view.left_since mid start image)
      → LeavesOnly view old mid (InFileOnly file (view.may_leave old) (IsStaged bodies pending))
      → LeavesOnly view mid new (view.may_leave mid)
      → LeavesOnly view old new (InFileOnly file (view.may_leave old) (IsStaged bodies pending))
  read_leaves old mid new counts_now first second =
      follows_on view old mid new (InFileOnly file (view.may_leave old) (IsStaged bodies pending)) (view.may_leave mid) first second
      (now_in_run view old mid (InFileOnly file (view.may_leave old) (IsStaged bodies pending)) counts_now first)

  -- and the write of a closed gate, after the bodies that were found
  pub close_leaves : (old mid new : D) (seen : Image) (found : List (List ℕ)) → ((start : ℕ) (image : Image) → start ≤ view.moment mid → view.may_leave mid image → view.left_since mid start image) → view.may_leave mid seen
      → HasBodies (file_of file seen) found → (get_or (file_of file seen) (57 * length found) 0 ≢ 0) ⊎ (length (file_of file seen) ≤ 57 * length found)
      → LeavesOnly view old mid (InFileOnly file (view.may_leave old) (IsStaged bodies pending))
      → LeavesOnly view mid new (InFileOnly file (view.may_leave mid) (Torn (57 * length found) 1 (file_of file seen)))
      → LeavesOnly view old new (InFileOnly file (view.may_leave old) (IsStaged bodies pending))
  close_leaves old mid new seen found counts_now seen_left has not_closed first second =
      let staged = (now_in_run view old mid (InFileOnly file (view.may_leave old) (IsStaged bodies pending)) counts_now first seen seen_left).3 in
      write_after view file (IsStaged bodies pending) old mid new (Torn (57 * length found) 1 (file_of file seen)) counts_now
      (λ bytes torn. staged_tail (file_of file seen) bytes bodies found pending staged torn not_closed has) first second
