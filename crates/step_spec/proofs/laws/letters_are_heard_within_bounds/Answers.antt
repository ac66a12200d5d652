use Rattle.step_spec.proofs.SmallLemmas.{heard_bounded, heard_whole}
use Rattle.step_spec.proofs.laws.letters_are_heard_within_bounds.Goals as goal

pub returns-clause-ballot : goal.returns-clause-ballot
returns-clause-ballot c = λ size packets message has. (heard_bounded size packets message has).0

pub returns-clause-slot : goal.returns-clause-slot
returns-clause-slot c = λ size packets message has. (heard_bounded size packets message has).1

pub returns-clause-whole : goal.returns-clause-whole
returns-clause-whole c = heard_whole
