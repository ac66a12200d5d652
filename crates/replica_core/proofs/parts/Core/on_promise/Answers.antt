use Rattle.std.proofs.Common.{sym, refl, ◌∙◌, ap, take}
use Rattle.std.specs.List.{flat_map}
use Rattle.step_spec.specs.Heard.{vote_in}
use Rattle.term_core.specs.Best.{best_of}
use Rattle.replica_core.specs.Replica.{best_in}
use Rattle.replica_core.proofs.LineLemmas.{promise-other, promise-gathered}
use Rattle.replica_core.proofs.parts.Core.on_promise.Goals as goal

pub returns-then-not-has_asked-clause-does : goal.returns-then-not-has_asked-clause-does
returns-then-not-has_asked-clause-does c =
    promise-other c.args.self.now c.args.draft.now c.args.draft.now.term c.args.from c.args.ballot c.args.slot (flat_map vote_in (take c.args.count c.args.rest.now)) refl (sym c.has_asked.ensures ∙ c.if-not-has_asked.true)

pub returns-clause-does : goal.returns-clause-does
returns-clause-does c =
    promise-gathered c.args.self.now c.args.draft.now c.gather.new.draft c.on_promise.new.self c.args.from c.args.ballot c.args.slot (flat_map vote_in (take c.args.count c.args.rest.now))
    (sym c.has_asked.ensures ∙ c.if-not-has_asked.false)
    (c.in_ok-gather.ensures.best ∙ ap (best_of (best_in c.args.self.now c.args.draft.now)) (c.deref.ensures.value ∙ rw c.copy.ensures at c.in_ok-votes_of.ensures))
    c.in_ok-gather.ensures.kept c.in_ok-on_promise.ensures.term
