use Rattle.launch_safety.proofs.WholeReadings.{adoption_asked}
use Rattle.launch_safety.proofs.readings.each_adoption_was_read.Goals as goal

pub returns : goal.returns
returns c = adoption_asked
