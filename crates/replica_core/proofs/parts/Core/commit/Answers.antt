use Rattle.std.proofs.Common.{◌≡◌, ap, refl, ◌∙◌, unwrap_or}
use Rattle.acceptor_core.specs.Acceptor.{IsPart}
use Rattle.term_core.specs.Term.{best_votes}
use Rattle.replica_draft.specs.Draft.{learned_with, with_best}
use Rattle.replica_core.specs.Commit.{kept_after}
use Rattle.replica_core.specs.Replica.{base_of, durable_in, rows_of}
use Rattle.replica_core.specs.declared.parts.Core.{Core}
use Rattle.replica_core.proofs.StoreLemmas.{committed, same_base}
use Rattle.replica_core.proofs.parts.Core.commit.Goals as goal

pub returns-clause-state : goal.returns-clause-state
returns-clause-state c =
    let old = c.args.self.now in
    let draft = c.args.draft in
    let stored = c.store.ensures.same in
    let learnt = c.learn.ensures.same in
    let acceptor : c.learn.new.self.acceptor ≡ c.store.new.self.acceptor = ap (λ (core : Core). core.acceptor) learnt in
    let part : IsPart c.learn.new.self.acceptor (kept_after c.args.effects.delta (durable_in old)) = rw acceptor c.store.ensures.part in
    let rows : c.learn.new.self.rows ≡ rows_of draft.change old.rows = ap (λ (core : Core). core.rows) learnt ∙ ap (λ (core : Core). rows_of draft.change core.rows) stored in
    let learned : c.learn.new.self.learner.entries ≡ learned_with draft.change old.learner.entries draft.learnt.items =
    c.learn.ensures.learned ∙ ap (λ (core : Core). learned_with draft.change core.learner.entries c.deref.result.now) stored ∙ ap (learned_with draft.change old.learner.entries) c.deref.ensures.value in
    let was : c.learn.new.self.term ≡ old.term = ap (λ (core : Core). core.term) learnt ∙ ap (λ (core : Core). core.term) stored in
    let term : c.bind.new.term ≡ with_best (unwrap_or draft.best (best_votes old.term)) draft.term =
    c.bind.ensures ∙ rw (c.unwrap_or-best.ensures, c.best_votes.ensures, c.replace-old.ensures.value, was, c.replace-old.ensures.after) refl in
    committed old draft c.args.effects.delta c.learn.new.self.tried draft.seen c.learn.new.self.acceptor c.learn.new.self.rows c.learn.new.self.learner.entries c.bind.new.term c.requires.delta (ap (λ (core : Core). core.tried) learnt ∙ c.store.ensures.tried) part rows learned term refl

pub returns-clause-base : goal.returns-clause-base
returns-clause-base c =
    let old = c.args.self.now in
    let draft = c.args.draft in
    let acceptor : c.learn.new.self.acceptor ≡ c.store.new.self.acceptor = ap (λ (core : Core). core.acceptor) c.learn.ensures.same in
    let part : IsPart c.learn.new.self.acceptor (kept_after c.args.effects.delta (durable_in old)) = rw acceptor c.store.ensures.part in
    same_base old draft.change c.args.effects.delta c.learn.new.self.learner.base c.learn.new.self.acceptor c.requires.delta c.requires.base part (c.learn.ensures.base ∙ ap (λ (core : Core). base_of draft.change core.learner.base) c.store.ensures.same)
