use Rattle.std.proofs.Common.{refl, rules}
use Rattle.replica_core.proofs.LineLemmas.{prepare-refused, prepare-behind, prepare-promised}
use Rattle.replica_draft.proofs.DraftLemmas.{on_ok}
use Rattle.replica_core.proofs.parts.Core.on_prepare.Goals as goal

pub returns-in-Refused-clause-does : goal.returns-in-Refused-clause-does
returns-in-Refused-clause-does c =
    on_ok c.send_nack.result _ _ _
    (λ goes sends. prepare-refused c.args.self.now c.args.draft.now c.send_nack.new.self c.args.from c.args.ballot c.args.slot c.in-Refused.promised
    c.requires.change ((c.in-Refused.ensures.refused c.in-Refused.promised).0 refl) goes)
    c.send_nack.ensures.goes c.send_nack.ensures.sends

pub returns-in-Behind-clause-does : goal.returns-in-Behind-clause-does
returns-in-Behind-clause-does c =
    let behind = (c.in-Behind.ensures.behind c.in-Behind.base).0 refl in
    on_ok c.send_snapshot.result _ _ _
    (λ does sends. prepare-behind c.args.self.now c.args.draft.now c.send_snapshot.new.draft c.args.from c.args.ballot c.args.slot c.requires.change (search rules) behind.1 (rw behind.0 at behind.2) does)
    c.send_snapshot.ensures.does c.send_snapshot.ensures.sends

pub returns-in-Promise-clause-does : goal.returns-in-Promise-clause-does
returns-in-Promise-clause-does c =
    let promise = c.in-Promise.ensures.promise.0 refl in
    on_ok c.send_promise.result _ _ _
    (λ goes sends. prepare-promised c.args.self.now c.args.draft.now c.pledge.new.self c.send_promise.new.self c.args.from c.args.ballot c.args.slot c.requires.change (search rules) promise.0 promise.1
    c.pledge.ensures.goes (rw (← c.votes_from.ensures.votes) goes))
    c.send_promise.ensures.goes c.send_promise.ensures.sends
