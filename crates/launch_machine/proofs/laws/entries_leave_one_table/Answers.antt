use Rattle.launch_machine.specs.Clerk.{first_rows}
use Rattle.launch_machine.proofs.ClerkLemmas.{Applies-same, AppliesAll-same}
use Rattle.launch_machine.proofs.ExistLemmas.{clerk_exists}
use Rattle.launch_machine.proofs.laws.entries_leave_one_table.Goals as goal

pub returns-clause-some : goal.returns-clause-some
returns-clause-some c = clerk_exists

pub returns-clause-one : goal.returns-clause-one
returns-clause-one c = Applies-same

pub returns-clause-all : goal.returns-clause-all
returns-clause-all c table entries a b p q = AppliesAll-same table (first_rows table) entries a b p q
