use Rattle.launch_safety.proofs.VoidLemmas.{void_of_date_fits}
use Rattle.launch_safety.proofs.logs.a_void_of_a_date_fits_its_log.Goals as goal

pub returns : goal.returns
returns c = void_of_date_fits
