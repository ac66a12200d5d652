use Rattle.program_options.proofs.WordLemmas.{no_lanes_of_zero}
use Rattle.program_options.proofs.words.read_lanes.Goals as goal

pub returns-in-0-clause-none : goal.returns-in-0-clause-none
returns-in-0-clause-none c = no_lanes_of_zero c.args.text.now c.in_ok-lanes.lanes c.in_ok-lanes.ensures.read.1 c.in-0.is
