use Rattle.launch_machine.proofs.SomeAdoption.{some_adoption}
use Rattle.launch_machine.proofs.laws.a_version_may_be_adopted.Goals as goal

pub returns : goal.returns
returns c = some_adoption
