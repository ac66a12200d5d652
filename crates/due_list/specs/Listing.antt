-- What a call did that writes a list.
use Rattle.std.specs.Prelude.{◌≡◌, ℕ, ◌<◌, ◌≤◌, List, length, Some, Result, OnOk, IsErrOf}
use Rattle.cron_io.specs.Faults.{Rose}
use Rattle.cron_io.specs.Views.{SinkView}
use Rattle.cron_io.specs.Writing.{HasGained, HasGainedPrefix, HasTakenAll}
use Rattle.due_list.specs.declared.fault.ListFault.{ListFault}
use Rattle.due_list.specs.declared.fault.ListFault.TheVariants.{WriteFault, OutOfMemory}

-- the sink gained a text of this kind; where it told its room, all of the text found room
pub record GainsList (old new : SinkView) (Is : List ℕ → Type 0) : Type 0 where
  pub text : List ℕ
  pub is : Is text
  pub gained : HasGained old new text
  pub taken : (room : ℕ) → old.room ≡ Some room → HasTakenAll room old new text

-- The sink gained a front of a text of this kind, and the count of its faults rose; where it told its room, the text was longer.
pub record GainsFront (old new : SinkView) (Is : List ℕ → Type 0) : Type 0 where
  pub text : List ℕ
  pub is : Is text
  pub front : HasGainedPrefix old new text
  pub rose : Rose old.faults new.faults
  pub beyond : (room : ℕ) → old.room ≡ Some room → room < length text

-- the sink gained a text of this kind, or a front of it where a write failed, or nothing where memory ran out
pub record WritesListing {T : Type 0} (old new : SinkView) (result : Result T ListFault) (Is : List ℕ → Type 0) : Type 0 where
  pub written : OnOk result (GainsList old new Is)
  pub front : IsErrOf result WriteFault → GainsFront old new Is
  pub nothing : IsErrOf result OutOfMemory → new ≡ old
  pub later : old.faults ≤ new.faults
