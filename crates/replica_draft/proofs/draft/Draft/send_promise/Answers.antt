use Rattle.replica_draft.proofs.DraftLemmas.{on_ok, promised}
use Rattle.replica_draft.proofs.draft.Draft.send_promise.Goals as goal

pub returns-clause-goes : goal.returns-clause-goes
returns-clause-goes c =
    on_ok c.send_old_votes.result _ _ _
    (λ said only kept. promised kept c.args.self.now c.send.new.self c.send_old_votes.new.self c.args.to c.args.ballot c.args.slot c.args.votes.now
    c.in_ok-send.ensures.sends only c.in_ok-send.ensures.said said)
    c.send_old_votes.ensures.said c.send_old_votes.ensures.sends
