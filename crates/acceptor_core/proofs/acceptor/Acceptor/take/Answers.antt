use Rattle.std.proofs.Common.{refl, ap, ◌∙◌, drop, sym, inl, inr}
use Rattle.paxos_base.specs.Vote.{put_vote, votes_from}
use Rattle.acceptor_core.specs.Acceptor.{AcceptorState}
use Rattle.acceptor_core.proofs.TakeLemmas.{part-tried, part-promised, part-voted, part-base}
use Rattle.acceptor_core.proofs.acceptor.Acceptor.take.Goals as goal

pub returns-in-Voted-clause-part : goal.returns-in-Voted-clause-part
returns-in-Voted-clause-part c =
    λ durable part. rw c.in-Voted.is (part-voted c.args.self.now _ durable c.in-Voted.vote refl
    (c.put_vote.ensures.items ∙ ap (λ (acceptor : AcceptorState). put_vote c.in-Voted.vote acceptor.votes) c.self.view_is)
    (ap (λ (acceptor : AcceptorState). acceptor.base) c.self.view_is) part)

pub returns-in-Base-clause-part : goal.returns-in-Base-clause-part
returns-in-Base-clause-part c =
    λ durable part. rw c.in-Base.is (part-base c.args.self.now _ durable c.in-Base.slot c.in-Base.rows
    (ap (λ (acceptor : AcceptorState). acceptor.promised) c.self.view_is)
    (c.drop-drain.ensures.items ∙ c.drain.ensures.kept ∙ ap (drop c.place_of-place.result) (sym c.deref.ensures.value) ∙ c.place_of-place.ensures.from
    ∙ ap (votes_from c.in-Base.slot) c.deref.ensures.value ∙ ap (λ (acceptor : AcceptorState). votes_from c.in-Base.slot acceptor.votes) c.self.view_is)
    refl part)

pub returns-in-Tried-clause-part : goal.returns-in-Tried-clause-part
returns-in-Tried-clause-part c =
    λ durable part.
    let votes = ap (λ (acceptor : AcceptorState). acceptor.votes) c.self.view_is in
    let base = ap (λ (acceptor : AcceptorState). acceptor.base) c.self.view_is in
    elim c.in-Tried.is [
      | inl tried ↦ rw tried (part-tried c.args.self.now _ durable c.in-Tried.ballot refl votes base part)
      | inr promised ↦ rw promised (part-promised c.args.self.now _ durable c.in-Tried.ballot refl votes base part)
    ]
