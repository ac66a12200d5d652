use Rattle.paxos_base.proofs.MemberLemmas.{majorities-Meet}
use Rattle.paxos_base.proofs.laws.majorities_meet.Goals as goal

pub returns : goal.returns
returns c =
    majorities-Meet c.args.members c.args.one c.args.other c.requires.one_of_these c.requires.other_of_these
    c.requires.one_has_a_majority c.requires.other_has_a_majority
