-- What the writing of a report, or of a part of it, did.
use Rattle.std.specs.Prelude.{◌≡◌, ℕ, ◌<◌, ◌≤◌, List, length, Some, Result, Ok, OnOk, IsErrOf}
use Rattle.cron_io.specs.Faults.{Rose}
use Rattle.cron_io.specs.Views.{SinkView}
use Rattle.cron_io.specs.Writing.{HasGained, HasGainedPrefix, HasTakenAll}
use Rattle.report_text.specs.declared.fault.ReportFault.{ReportFault}
use Rattle.report_text.specs.declared.fault.ReportFault.TheVariants.{WriteFault}

-- The sink gained the text, or a front of it where the call failed, and a write fault comes only where the count rose. Where
-- the sink told its room, all of the text found room, or a write fault comes only where it is longer.
pub record Writes {T : Type 0} (old new : SinkView) (result : Result T ReportFault) (text : List ℕ) : Type 0 where
  pub written : OnOk result (HasGained old new text)
  pub front : HasGainedPrefix old new text
  pub later : old.faults ≤ new.faults
  pub fault : IsErrOf result WriteFault → Rose old.faults new.faults
  pub taken : (room : ℕ) → old.room ≡ Some room → OnOk result (HasTakenAll room old new text)
  pub beyond : (room : ℕ) → old.room ≡ Some room → IsErrOf result WriteFault → room < length text

-- the sink gained the text
abbrev pub HasWritten : SinkView → SinkView → List ℕ → Type 0
HasWritten old new text = let done : Result (Unit {0}) ReportFault = Ok tt in Writes old new done text
