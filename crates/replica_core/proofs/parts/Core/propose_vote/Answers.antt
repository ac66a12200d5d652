use Rattle.std.proofs.Common.{sym, ◌∙◌}
use Rattle.replica_core.specs.Replica.{own_identity}
use Rattle.replica_draft.proofs.DraftLemmas.{on_ok}
use Rattle.replica_core.proofs.LeadLemmas.{proposes, proposes-alone, nothing-learned}
use Rattle.replica_core.proofs.parts.Core.propose_vote.Goals as goal

pub returns-then-is_alone-clause-does : goal.returns-then-is_alone-clause-does
returns-then-is_alone-clause-does c =
    on_ok c.choose.result _ _ _
    (λ chooses same. proposes-alone c.args.self.now c.args.draft.now c.propose.new.self c.send_accept.new.self c.choose.new.self (own_identity c.args.self.now) c.args.vote
    (sym c.is_alone.ensures ∙ c.if-is_alone.true) (nothing-learned c.args.self.now.learner c.args.draft.now c.args.vote.slot c.requires.change c.requires.learnt c.requires.slot)
    c.propose.ensures.goes c.in_ok-send_accept.ensures.goes chooses)
    c.choose.ensures.learns c.choose.ensures.learns

pub returns-else-is_alone-clause-does : goal.returns-else-is_alone-clause-does
returns-else-is_alone-clause-does c =
    proposes c.args.self.now c.args.draft.now c.propose.new.self c.send_accept.new.self (own_identity c.args.self.now) c.args.vote
    (sym c.is_alone.ensures ∙ c.if-is_alone.false) c.propose.ensures.goes c.in_ok-send_accept.ensures.goes
