-- What a disk says of itself, and how time goes on for it.
use Rattle.std.specs.Prelude.{◌⊎◌, ℕ, ◌≤◌, Option}
use Rattle.disk_model.specs.Faults.{Counts}
use Rattle.disk_model.specs.Images.{Image, Elapses}
use Rattle.disk_model.specs.Told.{Told}

-- what a disk says of itself
pub record DiskView (D : Type 0) : Type 1 where
  -- what a read gives; after a stop, what it would give with the stopped write or cut done
  pub seen : D → Image
  -- the images that a stop at this moment may leave
  pub may_leave : D → Image → Type 0
  -- the moment, as a number that doesn't fall
  pub moment : D → ℕ
  -- the images that a stop since that moment might have left, within a call or between two
  pub left_since : D → ℕ → Image → Type 0
  -- a stop leaves one of these images, and none else
  pub honest : D → Type 0
  -- how often a call was stopped, and how often the disk has failed
  pub counts : D → Counts
  -- when it will stop, and which image that leaves, where it tells so
  pub told : D → Option Told

-- time went on between two states of a disk
abbrev pub HasElapsed : {D : Type 0} → DiskView D → D → D → Type 0
HasElapsed view old new =
    Elapses (view.moment old) (view.moment new) (view.left_since old) (view.left_since new) (view.may_leave new)

-- each image that a stop might have left since the old moment has P
pub record LeavesOnly {D : Type 0} (view : DiskView D) (old new : D) (P : Image → Type 0) : Type 0 where
  pub later : view.moment old ≤ view.moment new
  pub each : (image : Image) → view.left_since new (view.moment old) image → P image
  -- for a run of calls that began earlier
  pub before : (start : ℕ) (image : Image) → start ≤ view.moment old → view.left_since new start image → view.left_since old start image ⊎ P image
