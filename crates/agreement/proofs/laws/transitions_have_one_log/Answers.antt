use Rattle.agreement.specs.World.{first_world}
use Rattle.agreement.specs.Transition.{after_transitions}
use Rattle.agreement.proofs.Transitions.{first_followed, transitions_followed}
use Rattle.agreement.proofs.LogLemmas.{one_log, some_log}
use Rattle.agreement.proofs.laws.transitions_have_one_log.Goals as goal

pub returns-clause-some : goal.returns-clause-some
returns-clause-some c = λ members table rows transitions few may.
    let followed = transitions_followed members table rows (first_world rows) transitions few (first_followed members table rows) may in
    some_log members (after_transitions members transitions (first_world rows)) followed.whole.kept few

pub returns-clause-one : goal.returns-clause-one
returns-clause-one c = λ members table rows transitions one other few may is_log is_other.
    let followed = transitions_followed members table rows (first_world rows) transitions few (first_followed members table rows) may in
    one_log members (after_transitions members transitions (first_world rows)) one other followed.whole.kept followed.whole.safe is_log is_other
