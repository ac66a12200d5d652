use Rattle.std.proofs.Common.{refl}
use Rattle.replica_core.proofs.LineLemmas.{accept-refused, accept-behind, accept-again, accept-cast}
use Rattle.replica_draft.proofs.DraftLemmas.{on_ok}
use Rattle.replica_core.proofs.parts.Core.on_accept.Goals as goal

pub returns-in-Refused-clause-does : goal.returns-in-Refused-clause-does
returns-in-Refused-clause-does c =
    on_ok c.send_nack.result _ _ _
    (λ goes sends. accept-refused c.args.self.now c.args.draft.now c.send_nack.new.self c.args.from c.in-Refused.promised c.args.vote.now c.requires.change
    ((c.in-Refused.ensures.refused c.in-Refused.promised).0 refl) goes)
    c.send_nack.ensures.goes c.send_nack.ensures.sends

pub returns-in-Behind-clause-does : goal.returns-in-Behind-clause-does
returns-in-Behind-clause-does c =
    let behind = (c.in-Behind.ensures.behind c.in-Behind.base).0 refl in
    on_ok c.send_snapshot.result _ _ _
    (λ does sends. accept-behind c.args.self.now c.args.draft.now c.send_snapshot.new.draft c.args.from c.args.vote.now c.requires.change behind.1 (rw behind.0 at behind.2) does)
    c.send_snapshot.ensures.does c.send_snapshot.ensures.sends

pub returns-in-Again-clause-does : goal.returns-in-Again-clause-does
returns-in-Again-clause-does c =
    let again = c.in-Again.ensures.again.0 refl in
    on_ok c.tell_vote.result _ _ _
    (λ told sends. accept-again c.args.self.now c.args.draft.now c.tell_vote.new.draft c.args.from c.args.vote.now c.requires.change again.0 again.1 again.2 told)
    c.tell_vote.ensures.does c.tell_vote.ensures.sends

pub returns-in-Vote-clause-does : goal.returns-in-Vote-clause-does
returns-in-Vote-clause-does c =
    let vote = c.in-Vote.ensures.vote.0 refl in
    on_ok c.cast_vote.result _ _ _
    (λ cast flies. accept-cast c.args.self.now c.args.draft.now c.cast_vote.new.draft c.args.from c.args.vote.now c.requires.change vote.0 vote.1 vote.2 cast)
    c.cast_vote.ensures.does c.cast_vote.ensures.steady
