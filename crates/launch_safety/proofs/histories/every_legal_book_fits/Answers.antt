use Rattle.launch_safety.proofs.Whole.{cut_fits}
use Rattle.launch_safety.proofs.histories.every_legal_book_fits.Goals as goal

pub returns : goal.returns
returns c = cut_fits
