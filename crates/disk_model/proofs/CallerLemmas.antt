-- How a run of a disk's calls goes on: what a stop at any moment of it leaves.
use Rattle.std.proofs.Common.{inl, inr, ⊎_elim, arith}
use Rattle.disk_model.specs.Images.{Image, Elapses}
use Rattle.disk_model.specs.View.{DiskView, LeavesOnly}

module _ {D : Type 0} (view : DiskView D) where
  -- before the first call
  pub started : (old : D) (P : Image → Type 0) → ((image : Image) → view.left_since old (view.moment old) image → P image) → LeavesOnly view old old P
  started old P here = record { later = omega arith; each = here; before = λ start image le left. inl left }

  -- one call more, after which a stop leaves what has P
  pub goes_on : (old mid new : D) (P may_leave : Image → Type 0) → LeavesOnly view old mid P → Elapses (view.moment mid) (view.moment new) (view.left_since mid) (view.left_since new) may_leave
      → ((image : Image) → may_leave image → P image) → LeavesOnly view old new P
  goes_on old mid new P may_leave so_far time here =
      record {
        later = omega (arith, so_far.later, time.later);
        each = λ image left. ⊎_elim (so_far.each image) (here image) (time.nothing_else (view.moment old) image so_far.later left);
        before = λ start image le left. ⊎_elim (so_far.before start image le) (λ now. inr (here image now)) (time.nothing_else start image (omega (arith, le, so_far.later)) left);
      }

  -- a run after another
  pub follows_on : (old mid new : D) (P Q : Image → Type 0) → LeavesOnly view old mid P → LeavesOnly view mid new Q → ((image : Image) → Q image → P image) → LeavesOnly view old new P
  follows_on old mid new P Q first second same =
      record {
        later = omega (arith, first.later, second.later);
        each = λ image left. ⊎_elim (first.each image) (same image) (second.before (view.moment old) image first.later left);
        before = λ start image le left. ⊎_elim (first.before start image le) (λ q. inr (same image q)) (second.before start image (omega (arith, le, first.later)) left);
      }

  -- what is left has something weaker
  pub leaves_weaker : (old new : D) (P Q : Image → Type 0) → LeavesOnly view old new P → ((image : Image) → P image → Q image) → LeavesOnly view old new Q
  leaves_weaker old new P Q only weaker =
      record {
        later = only.later;
        each = λ image left. weaker image (only.each image left);
        before = λ start image le left. ⊎_elim (λ was. inl was) (λ p. inr (weaker image p)) (only.before start image le left);
      }
