use Rattle.launch_safety.proofs.WholeReadings.{held_asked, late_asked}
use Rattle.launch_safety.proofs.readings.each_call_was_read.Goals as goal

pub returns-clause-held : goal.returns-clause-held
returns-clause-held c = held_asked

pub returns-clause-late : goal.returns-clause-late
returns-clause-late c = late_asked
