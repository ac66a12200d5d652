use Rattle.launch_safety.proofs.WholeReadings.{start_asked}
use Rattle.launch_safety.proofs.readings.each_start_was_read.Goals as goal

pub returns : goal.returns
returns c = start_asked
