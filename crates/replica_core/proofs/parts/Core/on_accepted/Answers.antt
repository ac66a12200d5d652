use Rattle.std.proofs.Common.{ap, sym, refl, ◌∙◌}
use Rattle.replica_core.proofs.LineLemmas.{accepted-none, accepted-chosen}
use Rattle.replica_draft.proofs.DraftLemmas.{on_ok}
use Rattle.replica_core.proofs.parts.Core.on_accepted.Goals as goal

pub returns-in-Some-clause-does : goal.returns-in-Some-clause-does
returns-in-Some-clause-does c =
    on_ok c.choose.result _ _ _
    (λ chooses same. accepted-chosen c.args.self.now c.args.draft.now (record c.args.draft.now { term = c.on_accepted.new.self }) c.choose.new.self c.args.draft.now.term c.in-Some.vote
    c.args.from c.args.ballot c.args.slot refl (sym c.on_accepted.ensures.chosen ∙ c.in-Some.is)
    (ap (λ term. record c.args.draft.now { term = term }) c.on_accepted.ensures.term) c.requires.flies chooses)
    c.choose.ensures.learns c.choose.ensures.learns

pub returns-in-None-clause-does : goal.returns-in-None-clause-does
returns-in-None-clause-does c =
    rw c.on_accepted.ensures.term (accepted-none c.args.self.now c.args.draft.now c.args.draft.now.term c.args.from c.args.ballot c.args.slot refl (sym c.on_accepted.ensures.chosen ∙ c.in-None.is))
