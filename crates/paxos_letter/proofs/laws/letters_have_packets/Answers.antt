use Rattle.paxos_letter.proofs.LetterLemmas.{letters_have_packets}
use Rattle.paxos_letter.proofs.laws.letters_have_packets.Goals as goal

pub returns : goal.returns
returns c = letters_have_packets
