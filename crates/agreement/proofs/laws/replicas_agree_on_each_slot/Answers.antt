use Rattle.agreement.specs.World.{first_world}
use Rattle.agreement.specs.Transition.{after_transitions}
use Rattle.agreement.proofs.Transitions.{first_followed, transitions_followed}
use Rattle.agreement.proofs.Whole.{whole_learns_one}
use Rattle.agreement.proofs.laws.replicas_agree_on_each_slot.Goals as goal

pub returns : goal.returns
returns c = λ members table rows transitions few may.
    whole_learns_one members (after_transitions members transitions (first_world rows))
    (transitions_followed members table rows (first_world rows) transitions few (first_followed members table rows) may).whole
