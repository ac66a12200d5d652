use Rattle.agreement.specs.World.{first_world}
use Rattle.agreement.proofs.Transitions.{first_followed, transitions_followed}
use Rattle.agreement.proofs.laws.learned_entries_are_chosen.Goals as goal

pub returns : goal.returns
returns c = λ members table rows transitions few may.
    (transitions_followed members table rows (first_world rows) transitions few (first_followed members table rows) may).whole.known.rows
