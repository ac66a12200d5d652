use Rattle.std.proofs.Common.{◌≡◌, ◌∙◌, ap, true, false}
use Rattle.paxos_base.specs.Vote.{put_vote, vote_at}
use Rattle.term_core.specs.Best.{is_higher}
use Rattle.term_core.proofs.BestLemmas.{higher_put, not_higher}
use Rattle.term_core.proofs.best.take_any.Goals as goal

pub returns-in_ok-reserve : goal.returns-in_ok-reserve
returns-in_ok-reserve c =
    let held : is_higher c.args.vote.now (vote_at c.args.vote.now.slot c.args.best.now.items) ≡ true =
    rw (← c.deref.ensures.value, ← c.vote_at.ensures, ← c.is_higher.ensures) c.if-is_higher.true in
    c.put_vote.ensures.items
    ∙ ap (put_vote c.args.vote.now) c.in_ok-reserve.ensures.items
    ∙ higher_put c.args.best.now.items c.args.vote.now held

pub returns-else-is_higher : goal.returns-else-is_higher
returns-else-is_higher c =
    let held : is_higher c.args.vote.now (vote_at c.args.vote.now.slot c.args.best.now.items) ≡ false =
    rw (← c.deref.ensures.value, ← c.vote_at.ensures, ← c.is_higher.ensures) c.if-is_higher.false in
    not_higher c.args.best.now.items c.args.vote.now held
