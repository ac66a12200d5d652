use Rattle.std.proofs.Common.{◌≡◌, ◌<◌, length, arith, sym, subst, ◌∙◌, rules}
use Rattle.std.specs.List.{insert}
use Rattle.std.proofs.lemmas.List.{get_or_read}
use Rattle.paxos_base.specs.Vote.{SlotsRise}
use Rattle.paxos_base.proofs.PutLemmas.{SlotsRise-put_vote}
use Rattle.paxos_base.proofs.PlaceLemmas.{put_in_place, put_between, parted_in}
use Rattle.paxos_base.proofs.votes.put_vote.Goals as goal
use Rattle.paxos_base.proofs.votes.put_vote.Goals.{else-place-len-via-then-place-len+else-index-vote, else-place-len-via-else-place-len}

pub returns-then-index-vote-clause-items : goal.returns-then-index-vote-clause-items
returns-then-index-vote-clause-items c =
    let place = c.place_of-place.ensures in
    let within : c.place_of-place.result < length c.args.votes.now.items = grind arith in
    put_in_place c.place_of-place.result c.args.votes.now.items c.args.vote c.index.result.now c.requires.rises
    (parted_in c.args.vote.slot c.place_of-place.result c.deref.result.now c.args.votes.now.items c.deref.ensures.value place.within place.below place.from)
    within (rw (sym c.index.ensures) c.if-index-vote.true)

pub returns-else-place-len-clause-items : goal.returns-else-place-len-clause-items
returns-else-place-len-clause-items c =
    let place = c.place_of-place.ensures in
    let done : c.insert.new.self.items ≡ insert c.args.votes.now.items c.place_of-place.result c.args.vote = rw (c.insert.ensures.items, c.unwrap.ensures) (search rules) in
    done
    ∙ put_between c.place_of-place.result c.args.votes.now.items c.args.vote c.requires.rises
    (parted_in c.args.vote.slot c.place_of-place.result c.deref.result.now c.args.votes.now.items c.deref.ensures.value place.within place.below place.from)
    (λ d within. elim c.else-place-len.branch [
      | else-place-len-via-then-place-len+else-index-vote w ↦ rw (← get_or_read c.args.votes.now.items c.place_of-place.result w.index.result.now within w.index.ensures d) w.if-index-vote.false
      | else-place-len-via-else-place-len w ↦ grind arith
    ])

pub returns-then-index-vote-clause-rises : goal.returns-then-index-vote-clause-rises
returns-then-index-vote-clause-rises c = subst SlotsRise (sym (returns-then-index-vote-clause-items c)) (SlotsRise-put_vote c.args.vote c.args.votes.now.items c.requires.rises)

pub returns-else-place-len-clause-rises : goal.returns-else-place-len-clause-rises
returns-else-place-len-clause-rises c = subst SlotsRise (sym (returns-else-place-len-clause-items c)) (SlotsRise-put_vote c.args.vote c.args.votes.now.items c.requires.rises)
