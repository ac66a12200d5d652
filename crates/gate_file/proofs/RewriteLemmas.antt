-- A file that is written anew: until it is synced, nothing is said of its bytes.
use Rattle.std.proofs.Common.{◌≡◌, ℕ, ◌+◌, List, [], ◌++◌, length, take, drop, ap, ◌∙◌, arith}
use Rattle.std.proofs.lemmas.List.{drop_all, append-nil}
use Rattle.std.specs.Bool.{⊤}
use Rattle.disk_model.specs.declared.fault.FileNo.{FileNo}
use Rattle.disk_model.specs.Images.{Image, InFile, HoldsPiece, ImagesFollow, Elapses, InFileOnly}
use Rattle.disk_model.specs.View.{DiskView, LeavesOnly}
use Rattle.disk_model.proofs.CallerLemmas.{started, goes_on, leaves_weaker}
use Rattle.disk_model.proofs.RunLemmas.{AllInFile, in_file_at_first, in_file_next, in_file_weaker}

-- nothing is said of the bytes
abbrev pub Any : List ℕ → Type 0
Any bytes = ⊤

module _ {D : Type 0} (view : DiskView D) (file : FileNo) where
  pub at_first : (old : D) → AllInFile file (view.may_leave old) (view.may_leave old) Any
  at_first old = in_file_at_first file (view.may_leave old) Any (λ image left. tt)

  pub none_yet : (old : D) → ((image : Image) → view.left_since old (view.moment old) image → view.may_leave old image) → LeavesOnly view old old (InFileOnly file (view.may_leave old) Any)
  none_yet old only_now = started view old (InFileOnly file (view.may_leave old) Any) (λ image left. at_first old image (only_now image left))

  -- a call on the file after some
  pub next : (old mid new : D) (Step : List ℕ → List ℕ → Type 0) → AllInFile file (view.may_leave old) (view.may_leave mid) Any → ImagesFollow (InFile file Step) (view.may_leave mid) (view.may_leave new) → AllInFile file (view.may_leave old) (view.may_leave new) Any
  next old mid new Step all follows = in_file_next file (view.may_leave old) (view.may_leave mid) (view.may_leave new) Any Any Step all follows (λ before after any step. tt)

  pub next_leaves : (old mid new : D) → LeavesOnly view old mid (InFileOnly file (view.may_leave old) Any) → Elapses (view.moment mid) (view.moment new) (view.left_since mid) (view.left_since new) (view.may_leave new) → AllInFile file (view.may_leave old) (view.may_leave new) Any
      → LeavesOnly view old new (InFileOnly file (view.may_leave old) Any)
  next_leaves old mid new so_far time all = goes_on view old mid new (InFileOnly file (view.may_leave old) Any) (view.may_leave new) so_far time all

-- what was written to a file that was cut to nothing is all that it has
pub written_alone : (piece old cut new : List ℕ) → cut ≡ take 0 old → HoldsPiece 0 piece cut new → new ≡ piece
written_alone piece old cut new nothing holds =
    holds
    ∙ ap (λ (l : List ℕ). take 0 l ++ (piece ++ drop (0 + length piece) l)) nothing
    ∙ ap (λ (l : List ℕ). piece ++ l) (drop_all (0 + length piece) [] (omega arith))
    ∙ append-nil piece

module _ {D : Type 0} (view : DiskView D) (file : FileNo) where
  -- whatever a run leaves of the file, it leaves the others
  pub leaves_any : (old new : D) (P : List ℕ → Type 0) → LeavesOnly view old new (InFileOnly file (view.may_leave old) P) → LeavesOnly view old new (InFileOnly file (view.may_leave old) Any)
  leaves_any old new P run = leaves_weaker view old new (InFileOnly file (view.may_leave old) P) (InFileOnly file (view.may_leave old) Any) run (in_file_weaker file (view.may_leave old) P Any (λ bytes has. tt))
