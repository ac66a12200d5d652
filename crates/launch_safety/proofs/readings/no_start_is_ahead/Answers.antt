use Rattle.launch_safety.proofs.WholeReadings.{not_ahead}
use Rattle.launch_safety.proofs.readings.no_start_is_ahead.Goals as goal

pub returns : goal.returns
returns c = not_ahead
