use Rattle.launch_machine.proofs.ExistLemmas.{AdoptionsOf-same, adoptions_of_exist}
use Rattle.launch_machine.proofs.UnderLemmas.{version_is_count}
use Rattle.launch_machine.proofs.laws.entries_adopt_one_list_of_versions.Goals as goal

pub returns-clause-some : goal.returns-clause-some
returns-clause-some c = adoptions_of_exist

pub returns-clause-one : goal.returns-clause-one
returns-clause-one c = AdoptionsOf-same

pub returns-clause-version : goal.returns-clause-version
returns-clause-version c = version_is_count
