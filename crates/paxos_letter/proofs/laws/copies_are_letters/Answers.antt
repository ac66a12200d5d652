use Rattle.paxos_letter.proofs.CallerLemmas.{IsLetter-copy}
use Rattle.paxos_letter.proofs.laws.copies_are_letters.Goals as goal

pub returns : goal.returns
returns c = IsLetter-copy
