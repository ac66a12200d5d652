use Rattle.agreement.specs.World.{after_all, first_world}
use Rattle.agreement.specs.Transition.{after_transitions}
use Rattle.agreement.proofs.Transitions.{first_followed, followed_after_all, transitions_followed}
use Rattle.agreement.proofs.Whole.{whole_one}
use Rattle.agreement.proofs.laws.a_slot_has_one_value.Goals as goal

pub returns-clause-acts : goal.returns-clause-acts
returns-clause-acts c = λ members table rows doings slot one other few may chosen rival.
    whole_one members (after_all doings (first_world rows)) slot one other
    (followed_after_all members table rows (first_world rows) doings few (first_followed members table rows) may).whole chosen rival

pub returns-clause-transitions : goal.returns-clause-transitions
returns-clause-transitions c = λ members table rows transitions slot one other few may chosen rival.
    whole_one members (after_transitions members transitions (first_world rows)) slot one other
    (transitions_followed members table rows (first_world rows) transitions few (first_followed members table rows) may).whole chosen rival
