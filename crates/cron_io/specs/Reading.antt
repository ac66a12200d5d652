-- What the reads of a source took of the bytes that it had left, where it tells those.
use Rattle.std.specs.Prelude.{◌≡◌, ℕ, ◌≤◌, List, length}
use Rattle.std.specs.Io.KnownBytes.{Consumes, IsAtEnd}
use Rattle.cron_io.specs.Views.{SourceView}

-- no read failed, and none will
pub record StaysReliable (old new : SourceView) (reliable_now : Type 0) : Type 0 where
  pub quiet : new.faults ≡ old.faults
  pub still : reliable_now

-- some bytes were taken from the front, and no others lost
abbrev pub HasTakenBytes : SourceView → SourceView → Type 0
HasTakenBytes old new = (bytes : List ℕ) × Consumes old.left new.left bytes

-- so many bytes were taken from the front
abbrev pub HasTakenCount : SourceView → SourceView → ℕ → Type 0
HasTakenCount old new count = (bytes : List ℕ) × Consumes old.left new.left bytes × (length bytes ≡ count)

-- these bytes were taken, and none is left
abbrev pub IsReadToEnd : SourceView → SourceView → List ℕ → Type 0
IsReadToEnd old new bytes = Consumes old.left new.left bytes × IsAtEnd new.left

-- what is left is a back part of what was, and the count of faults didn't fall
pub record HasReadOn (old new : SourceView) : Type 0 where
  pub taken : HasTakenBytes old new
  pub later : old.faults ≤ new.faults
