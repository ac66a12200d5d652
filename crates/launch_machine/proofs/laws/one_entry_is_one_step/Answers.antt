use Rattle.launch_machine.proofs.ClerkLemmas.{IsClerkOf-push}
use Rattle.launch_machine.proofs.laws.one_entry_is_one_step.Goals as goal

pub returns : goal.returns
returns c = IsClerkOf-push
