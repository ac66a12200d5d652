-- A draft that is taken over: what is on the disk, what was learned, and the term.
use Rattle.std.proofs.Common.{◌≡◌, ℕ, List, Option, None, Some, refl, sym, ap, ◌∙◌, unwrap_or}
use Rattle.std.specs.Option.{option_map}
use Rattle.paxos_base.specs.declared.durable.Delta.{Delta}
use Rattle.paxos_base.specs.declared.durable.Durable.{Durable}
use Rattle.paxos_base.specs.declared.entry.Entry.{Entry}
use Rattle.paxos_base.specs.declared.entry.Vote.{Vote}
use Rattle.paxos_base.specs.declared.rows.JobRow.{JobRow}
use Rattle.acceptor_core.specs.Acceptor.{AcceptorState, IsPart}
use Rattle.term_core.specs.Term.{best_votes}
use Rattle.term_core.specs.declared.term.Term.{Term}
use Rattle.step_spec.specs.State.{State}
use Rattle.replica_draft.specs.Draft.{delta_of, drafted, durable_of, learned_with, with_best}
use Rattle.replica_draft.specs.declared.change.Change.{Change}
use Rattle.replica_draft.specs.declared.draft.Draft.{Draft}
use Rattle.replica_core.specs.Commit.{kept_after}
use Rattle.replica_core.specs.Replica.{base_of, durable_in, fixed_of, rows_of}
use Rattle.replica_core.specs.declared.parts.Core.{Core}
use Rattle.replica_core.proofs.LineLemmas.{base-drafted, rows-drafted}

-- what is kept after the change of a draft
pub kept-drafted : (made : Option Change) (kept : Durable) → kept_after (option_map delta_of made) kept ≡ durable_of made kept
kept-drafted None kept = refl
kept-drafted (Some change) kept = refl

abbrev pub kept_with : ℕ → Option ℕ → List Vote → ℕ → List JobRow → Durable
kept_with tried promised votes base rows = record { tried = tried; promised = promised; votes = votes; base = base; rows = rows }

-- what is kept is the same, part by part
pub same_kept : (a b : Durable) → a.tried ≡ b.tried → a.promised ≡ b.promised → a.votes ≡ b.votes → a.base ≡ b.base → a.rows ≡ b.rows → a ≡ b
same_kept a b tried promised votes base rows =
    ap (λ x. kept_with x a.promised a.votes a.base a.rows) tried
    ∙ ap (λ x. kept_with b.tried x a.votes a.base a.rows) promised
    ∙ ap (λ x. kept_with b.tried b.promised x a.base a.rows) votes
    ∙ ap (λ x. kept_with b.tried b.promised b.votes x a.rows) base
    ∙ ap (λ x. kept_with b.tried b.promised b.votes b.base x) rows

abbrev pub state_with : Durable → List Entry → Term → ℕ → State
state_with kept learned term seen = record { kept = kept; learned = learned; term = term; seen = seen }

-- the state after all parts were taken over
pub committed : (old : Core) (draft : Draft) (delta : Option Delta) (tried seen : ℕ) (acceptor : AcceptorState) (rows : List JobRow) (entries : List Entry) (term : Term) → delta ≡ option_map delta_of draft.change
    → tried ≡ (kept_after delta (durable_in old)).tried → IsPart acceptor (kept_after delta (durable_in old)) → rows ≡ rows_of draft.change old.rows
    → entries ≡ learned_with draft.change old.learner.entries draft.learnt.items → term ≡ with_best (unwrap_or draft.best (best_votes old.term)) draft.term → seen ≡ draft.seen
    → state_with (kept_with tried acceptor.promised acceptor.votes acceptor.base rows) entries term seen ≡ (drafted (fixed_of old) draft).state
committed old draft delta tried seen acceptor rows entries term is tried_is part rows_are learned term_is seen_is =
    let same : kept_after delta (durable_in old) ≡ durable_of draft.change (durable_in old) = ap (λ d. kept_after d (durable_in old)) is ∙ kept-drafted draft.change (durable_in old) in
    let kept : kept_with tried acceptor.promised acceptor.votes acceptor.base rows ≡ durable_of draft.change (durable_in old) =
    same_kept (kept_with tried acceptor.promised acceptor.votes acceptor.base rows) (durable_of draft.change (durable_in old))
    (tried_is ∙ ap (λ (k : Durable). k.tried) same)
    (part.promised ∙ ap (λ (k : Durable). k.promised) same)
    (part.votes ∙ ap (λ (k : Durable). k.votes) same)
    (part.base ∙ ap (λ (k : Durable). k.base) same)
    (rows_are ∙ sym (rows-drafted draft.change (durable_in old))) in
    ap (λ k. state_with k entries term seen) kept
    ∙ ap (λ l. state_with (durable_of draft.change (durable_in old)) l term seen) learned
    ∙ ap (λ t. state_with (durable_of draft.change (durable_in old)) (learned_with draft.change old.learner.entries draft.learnt.items) t seen) term_is
    ∙ ap (λ s. state_with (durable_of draft.change (durable_in old)) (learned_with draft.change old.learner.entries draft.learnt.items) (with_best (unwrap_or draft.best (best_votes old.term)) draft.term) s) seen_is

-- the parts still begin at one slot
pub same_base : (old : Core) (made : Option Change) (delta : Option Delta) (base : ℕ) (acceptor : AcceptorState) → delta ≡ option_map delta_of made → old.learner.base ≡ old.acceptor.base
    → IsPart acceptor (kept_after delta (durable_in old)) → base ≡ base_of made old.learner.base → base ≡ acceptor.base
same_base old made delta base acceptor is whole part base_is =
    base_is ∙ ap (base_of made) whole ∙ sym (base-drafted made (durable_in old)) ∙ sym (ap (λ (k : Durable). k.base) (ap (λ d. kept_after d (durable_in old)) is ∙ kept-drafted made (durable_in old))) ∙ sym part.base
