use Rattle.std.proofs.Common.{refl}
use Rattle.history.proofs.Takeover.{book, legal}
use Rattle.launch_safety.proofs.Takeover.{takeover_holds}
use Rattle.launch_safety.proofs.histories.a_takeover_holds_its_launch.Goals as goal

pub returns : goal.returns
returns c = λ table job at now asks. (book table job at now, refl, legal table job at now asks, takeover_holds table job at now)
