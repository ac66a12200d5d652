-- What the writes to a sink added to the bytes that were written, and what they took of its room, where it tells those.
use Rattle.std.specs.Prelude.{◌≡◌, ℕ, ◌-◌, ◌<◌, ◌≤◌, List, length, ◌++◌, Some, Result, OnOk, OnErr}
use Rattle.std.specs.Io.KnownBytes.{Appends}
use Rattle.cron_io.specs.Views.{SinkView}

-- these bytes were written, and nothing else
abbrev pub HasGained : SinkView → SinkView → List ℕ → Type 0
HasGained old new bytes = Appends old.written new.written bytes

-- some front of these bytes was written, and nothing else
pub record HasGainedPrefix (old new : SinkView) (bytes : List ℕ) : Type 0 where
  pub front : List ℕ
  pub back : List ℕ
  pub parts : bytes ≡ front ++ back
  pub gained : HasGained old new front

-- all of these bytes found room, and no fault was counted
pub record HasTakenAll (room : ℕ) (old new : SinkView) (bytes : List ℕ) : Type 0 where
  pub fits : length bytes ≤ room
  pub left : new.room ≡ Some (room - length bytes)
  pub quiet : new.faults ≡ old.faults

-- a sink that told its room took what fits it, whole, and refused what doesn't
pub record TakesByRoom {T E : Type 0} (old new : SinkView) (result : Result T E) (bytes : List ℕ) : Type 0 where
  pub taken : (room : ℕ) → old.room ≡ Some room → OnOk result (HasTakenAll room old new bytes)
  pub refused : (room : ℕ) → old.room ≡ Some room → OnErr result (room < length bytes)
  pub kept : (room : ℕ) → old.room ≡ Some room → OnErr result (new.room ≡ old.room)
