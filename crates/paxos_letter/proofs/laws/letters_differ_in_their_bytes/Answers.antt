use Rattle.std.proofs.Common.{sym, ◌∙◌}
use Rattle.paxos_letter.proofs.LetterLemmas.{letter_again}
use Rattle.paxos_letter.proofs.PacketBack.{same_packets}
use Rattle.paxos_letter.proofs.laws.letters_differ_in_their_bytes.Goals as goal

pub returns : goal.returns
returns c members from other packets others bytes spells other_spells =
    let one = letter_again members from packets bytes spells in
    let two = letter_again members other others bytes other_spells in
    (sym one.sender ∙ two.sender, same_packets from other packets others (sym one.fields ∙ two.fields))
