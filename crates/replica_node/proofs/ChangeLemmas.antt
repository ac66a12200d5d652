-- What is kept, by whether it shows the change that it may have.
use Rattle.std.proofs.Common.{◌≡◌, ◌⊎◌, ℕ, ◌<◌, List, Option, None, Some, refl, sym, ap, ◌∙◌, subst, inl, inr, arith}
use Rattle.std.proofs.lemmas.Bool.{eq-eqb}
use Rattle.std.proofs.lemmas.Option.{none-some}
use Rattle.paxos_base.specs.declared.rows.TableSize.{TableSize}
use Rattle.paxos_base.specs.Ballot.{IsAbove}
use Rattle.paxos_base.specs.Durable.{after_delta}
use Rattle.paxos_base.specs.Vote.{SlotsRise, put_vote, vote_at}
use Rattle.paxos_base.specs.declared.durable.Delta.{Delta}
use Rattle.paxos_base.specs.declared.durable.Delta.TheVariants.{Tried, Promised, Voted, Base}
use Rattle.paxos_base.specs.declared.durable.Durable.{Durable}
use Rattle.paxos_base.specs.declared.entry.Vote.{Vote}
use Rattle.paxos_base.proofs.PutLemmas.{at_put}
use Rattle.store_format.specs.Order.{ChangeMayFollow}
use Rattle.replica_core.specs.Commit.{kept_after}
use Rattle.replica_node.specs.Change.{ShowsChange, IsDecided}
use Rattle.replica_node.proofs.AgainLemmas.{put_same}

stands_put : (vote : Vote) (votes : List Vote) → vote_at vote.slot (put_vote vote votes) ≡ Some vote
stands_put vote votes = at_put vote.slot vote votes ∙ rw (eq-eqb vote.slot vote.slot refl) refl

-- the state after a change shows it
pub shows_after : (change : Delta) (kept : Durable) → ShowsChange change (after_delta change kept)
unfolding after_delta
shows_after (Tried ballot) kept = refl
shows_after (Promised ballot) kept = refl
shows_after (Voted vote) kept = (refl, stands_put vote kept.votes)
shows_after (Base slot rows) kept = refl

not_above : (ballot : ℕ) (promised : Option ℕ) → IsAbove ballot promised → promised ≡ Some ballot → ⊥
not_above ballot promised above is =
    let itself : ballot < ballot = subst (IsAbove ballot) is above in
    omega (arith, itself)

voted_same : (vote : Vote) (kept : Durable) → kept.promised ≡ Some vote.ballot → put_vote vote kept.votes ≡ kept.votes → record kept { promised = Some vote.ballot; votes = put_vote vote kept.votes } ≡ kept
voted_same vote kept promised votes = rw (votes, sym promised) refl

-- where the state before a change shows it, the change leaves that as it is
pub after_same : (size : TableSize) (kept : Durable) (change : Delta) → SlotsRise kept.votes → ChangeMayFollow size kept change → ShowsChange change kept → after_delta change kept ≡ kept
unfolding after_delta
after_same size kept (Tried ballot) rise follows shows = let higher = follows.0 in absurd (omega (arith, higher, shows))
after_same size kept (Promised ballot) rise follows shows = absurd (not_above ballot kept.promised follows shows)
after_same size kept (Voted vote) rise follows shows = voted_same vote kept shows.0 (put_same vote kept.votes rise shows.1)
after_same size kept (Base slot rows) rise follows shows = let higher = follows.0 in absurd (omega (arith, higher, shows))

module _ (size : TableSize) (before found : Durable) (change : Delta) (rise : SlotsRise found.votes) (follows : ChangeMayFollow size before change) (either : (found ≡ before) ⊎ (found ≡ after_delta change before)) where
  -- it is the state after the change where it shows that
  pub is_after : ShowsChange change found → found ≡ after_delta change before
  is_after shows =
      elim either [
        | inl was ↦
            was ∙ sym (after_same size before change (subst (λ (k : Durable). SlotsRise k.votes) was rise) follows (subst (ShowsChange change) was shows))
        | inr is ↦ is
      ]

  -- and else the one before it, and not the other
  pub is_before : (ShowsChange change found → ⊥) → (found ≡ before) × (found ≡ after_delta change before → ⊥)
  is_before hides =
      let not_after : found ≡ after_delta change before → ⊥ = λ is. hides (subst (ShowsChange change) (sym is) (shows_after change before)) in
      elim either [ inl was ↦ (was, not_after) | inr is ↦ absurd (not_after is) ]

  -- with the answer of a node that is reopened
  pub decided_kept : (answer : Option Delta) → IsDecided change found answer → found ≡ kept_after answer before
  decided_kept answer (inl shown) = is_after shown.0 ∙ sym (ap (λ (a : Option Delta). kept_after a before) shown.1)
  decided_kept answer (inr hidden) = (is_before hidden.0).0 ∙ sym (ap (λ (a : Option Delta). kept_after a before) hidden.1)

  pub decided_lost : (answer : Option Delta) → IsDecided change found answer → answer ≡ None → found ≡ after_delta change before → ⊥
  decided_lost answer (inl shown) none is = absurd (none-some change (sym none ∙ shown.1))
  decided_lost answer (inr hidden) none is = (is_before hidden.0).1 is
