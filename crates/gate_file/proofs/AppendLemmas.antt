-- A body that is appended: the write behind the gate, and that of the gate.
use Rattle.std.proofs.Common.{◌≡◌, ℕ, ◌+◌, ◌*◌, ◌≤◌, List, [], ◌∷◌, ◌++◌, length, Some, sym, subst}
use Rattle.disk_model.specs.declared.fault.FileNo.{FileNo}
use Rattle.disk_model.specs.Images.{Image, HoldsPiece, Torn, InFileOnly}
use Rattle.disk_model.specs.View.{DiskView, LeavesOnly}
use Rattle.disk_model.proofs.CallerLemmas.{follows_on, leaves_weaker}
use Rattle.gate_file.specs.Gates.{AreOpen, HasRestingGate, HasBodyBehind, IsStaged}
use Rattle.gate_file.proofs.GateLemmas.{torn_body, body_behind, open_with_body, rest_before_gate, rest_after_gate}
use Rattle.disk_model.proofs.RunLemmas.{now_in_run, in_file_through, in_file_weaker}

module _ (file body : List ℕ) (bodies : List (List ℕ)) (rest : HasRestingGate file bodies) (long : length body ≡ 56) (mid : List ℕ) (holds : HoldsPiece (57 * length bodies + 1) (body ++ 0 ∷ []) file mid) where
  pub mid_behind : HasBodyBehind mid (length bodies) body
  mid_behind = subst (λ l. HasBodyBehind l (length bodies) body) (sym holds) (body_behind file body bodies rest long)

  pub mid_open : AreOpen mid bodies
  mid_open = subst (λ l. AreOpen l bodies) (sym holds) (open_with_body file body bodies rest long)

  pub mid_at_rest : HasRestingGate mid bodies
  mid_at_rest = subst (λ l. HasRestingGate l bodies) (sym holds) (rest_before_gate file body bodies rest long)

  pub new_at_rest : (new : List ℕ) → HoldsPiece (57 * length bodies) (1 ∷ []) mid new → HasRestingGate new (bodies ++ body ∷ [])
  new_at_rest new opened = rest_after_gate mid body new bodies mid_open mid_behind opened

module _ {D : Type 0} (view : DiskView D) (file : FileNo) (body : List ℕ) (bodies : List (List ℕ)) where
  -- the first write
  pub body_leaves : (old mid : D) (seen : List ℕ) (count : ℕ) → HasRestingGate seen bodies → LeavesOnly view old mid (InFileOnly file (view.may_leave old) (Torn (57 * length bodies + 1) count seen))
      → LeavesOnly view old mid (InFileOnly file (view.may_leave old) (IsStaged bodies (Some body)))
  body_leaves old mid seen count rest run =
      leaves_weaker view old mid (InFileOnly file (view.may_leave old) (Torn (57 * length bodies + 1) count seen)) (InFileOnly file (view.may_leave old) (IsStaged bodies (Some body))) run
      (in_file_weaker file (view.may_leave old) (Torn (57 * length bodies + 1) count seen) (IsStaged bodies (Some body)) (λ bytes torn. torn_body seen body bodies rest count bytes torn))

module _ {D : Type 0} (view : DiskView D) (file : FileNo) (Q : List ℕ → Type 0) where
  -- a second write after a first, that leaves what the first left
  pub write_after : (old mid new : D) (P : List ℕ → Type 0) → ((start : ℕ) (image : Image) → start ≤ view.moment mid → view.may_leave mid image → view.left_since mid start image) → ((bytes : List ℕ) → P bytes → Q bytes)
      → LeavesOnly view old mid (InFileOnly file (view.may_leave old) Q)
      → LeavesOnly view mid new (InFileOnly file (view.may_leave mid) P)
      → LeavesOnly view old new (InFileOnly file (view.may_leave old) Q)
  write_after old mid new P counts_now keeps first second =
      follows_on view old mid new (InFileOnly file (view.may_leave old) Q) (InFileOnly file (view.may_leave mid) P) first second (λ image only.
      in_file_weaker file (view.may_leave old) P Q keeps image
      (in_file_through file (view.may_leave old) (view.may_leave mid) Q P (now_in_run view old mid (InFileOnly file (view.may_leave old) Q) counts_now first) image only))
