use Rattle.history.proofs.Posted.{letters_for_members}
use Rattle.history.proofs.bounds.letters_of_seven_are_letters_of_the_members.Goals as goal

pub returns : goal.returns
returns c = letters_for_members
