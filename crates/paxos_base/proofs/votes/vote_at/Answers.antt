use Rattle.std.proofs.Common.{◌≡◌, ◌<◌, length, get_or, arith}
use Rattle.paxos_base.proofs.PlaceLemmas.{at_place, none_at_place, parted}
use Rattle.paxos_base.proofs.votes.vote_at.Goals as goal
use Rattle.paxos_base.proofs.votes.vote_at.Goals.{in_default-via-in-Some+else-vote-slot, in_default-via-in_default}

pub returns-in-Some : goal.returns-in-Some
returns-in-Some c =
    let within : c.place_of.result < length c.args.votes.now = grind arith in
    let is : c.in-Some.vote.now ≡ get_or c.args.votes.now c.place_of.result c.in-Some.vote.now = grind arith in
    at_place c.args.slot c.place_of.result c.args.votes.now c.in-Some.vote.now c.place_of.ensures.from within is c.if-vote-slot.true

pub returns-in_default : goal.returns-in_default
returns-in_default c =
    none_at_place c.args.slot c.place_of.result c.args.votes.now c.requires
    (parted c.args.slot c.place_of.result c.args.votes.now c.place_of.ensures.within c.place_of.ensures.below c.place_of.ensures.from)
    (λ d within. elim c.in_default.branch [
      | in_default-via-in-Some+else-vote-slot w ↦ grind arith
      | in_default-via-in_default w ↦ grind arith
    ])
