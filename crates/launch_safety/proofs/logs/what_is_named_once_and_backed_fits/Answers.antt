use Rattle.launch_safety.proofs.OrderLemmas.{fits_whole}
use Rattle.launch_safety.proofs.logs.what_is_named_once_and_backed_fits.Goals as goal

pub returns : goal.returns
returns c = fits_whole
