-- Files that are attached: the chooser is synced and read, the selected area is, and its tail gate is closed.
use Rattle.std.proofs.Common.{◌≡◌, refl, ◌∙◌, subst}
use Rattle.std.specs.Bool.{⊤}
use Rattle.paxos_base.specs.declared.rows.TableSize.{TableSize}
use Rattle.disk_model.specs.declared.fault.FileNo.{FileNo}
use Rattle.disk_model.specs.declared.fault.FileNo.TheVariants.{Chooser}
use Rattle.disk_model.specs.Images.{Image, IsDurable, NoNewImage, InFileOnly}
use Rattle.disk_model.specs.View.{DiskView, LeavesOnly}
use Rattle.disk_model.proofs.CallerLemmas.{follows_on, leaves_weaker}
use Rattle.gate_file.specs.Gates.{IsStaged}
use Rattle.paxos_base.specs.declared.durable.Durable.{Durable}
use Rattle.replica_store.specs.Files.{selected, IsAreaStaged, IsRecoverable}
use Rattle.replica_store.proofs.FileLemmas.{selects_area, selected_staged}
use Rattle.replica_store.proofs.ImageLemmas.{in_area}

-- two runs that leave no new image
pub looks_on : {D : Type 0} (view : DiskView D) (old mid new : D) (first second : Image → Type 0) → LeavesOnly view old mid first → NoNewImage first second → LeavesOnly view mid new second
    → LeavesOnly view old new first
looks_on view old mid new first second run none next = follows_on view old mid new first second run next none

module _ {D : Type 0} (view : DiskView D) (file : FileNo) where
  -- after a look, the files but one are as in an image that might be left before
  pub looked_elsewhere : (old new : D) (before : Image → Type 0) → LeavesOnly view old new before → LeavesOnly view old new (InFileOnly file before (λ bytes. ⊤))
  looked_elsewhere old new before run =
      leaves_weaker view old new before (InFileOnly file before (λ bytes. ⊤)) run (λ image was. (image, was, (λ other differs. refl), tt))

  -- and so they are after a write to that one
  pub closed_elsewhere : (old read new : D) (before after : Image → Type 0) → LeavesOnly view old read before → NoNewImage before after
      → LeavesOnly view read new (InFileOnly file after (λ bytes. ⊤)) → LeavesOnly view old new (InFileOnly file before (λ bytes. ⊤))
  closed_elsewhere old read new before after run none closed =
      follows_on view old read new (InFileOnly file before (λ bytes. ⊤)) (InFileOnly file after (λ bytes. ⊤))
      (looked_elsewhere old read before run) closed (λ image only. (only.0, none only.0 only.1, only.2, tt))

module _ (size : TableSize) (before after : Durable) (seen : Image) (left : Image → Type 0) where
  -- what stands in the area that was read
  pub area_staged : (area : FileNo) → selected seen ≡ area → left seen → IsRecoverable size before after left → IsAreaStaged size before after area left
  area_staged area is here recoverable = subst (λ file. IsAreaStaged size before after file left) is (selected_staged size before after left seen recoverable here)

  -- whatever the close of its tail gate leaves
  pub close_recoverable : (area : FileNo) → selected seen ≡ area → IsDurable Chooser seen left → (staged : IsAreaStaged size before after area left) → IsRecoverable size before after (InFileOnly area left (IsStaged staged.bodies staged.pending))
  close_recoverable area is durable staged =
      in_area size before after seen left area staged.bodies staged.pending (λ chooser. selects_area seen (is ∙ chooser)) is durable staged.without staged.with_it
