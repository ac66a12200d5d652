use Rattle.launch_safety.proofs.VoidLemmas.{void_fits}
use Rattle.launch_safety.proofs.logs.a_void_fits_its_log.Goals as goal

pub returns : goal.returns
returns c = void_fits
