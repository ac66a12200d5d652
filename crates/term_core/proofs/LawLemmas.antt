-- What the best votes are, slot by slot.
use Rattle.std.proofs.Common.{◌≡◌, ℕ, ◌<◌, ◌≤◌, ◌⊎◌, Option, Some, None, List, [], ◌∷◌, true, false, eqb, ltb, refl, sym, ◌∙◌, inl, inr, arith, if◌then◌else◌}
use Rattle.std.specs.Option.{IsSomeAnd}
use Rattle.std.specs.List.{All, Contains, filter, fold}
use Rattle.std.proofs.lemmas.Bool.{cases_Bool, ltb-true, ltb-false, le-ltb, eqb-true, eq-eqb}
use Rattle.std.proofs.lemmas.List.Elements.{All-head, All-tail, Contains-push, Contains-push_cases, Contains-append_left, Contains-append_right, Contains-append_cases}
use Rattle.paxos_base.specs.declared.entry.Vote.{Vote}
use Rattle.paxos_base.specs.Vote.{vote_at}
use Rattle.paxos_base.proofs.PutLemmas.{at_put}
use Rattle.term_core.specs.Best.{best_of, higher_of, is_higher, with_vote}

-- one more vote changes what is held at its own slot alone
pub at_with_vote : (slot : ℕ) (best : List Vote) (vote : Vote) → vote_at slot (with_vote best vote) ≡ (if eqb vote.slot slot then higher_of (vote_at slot best) vote else vote_at slot best)
unfolding with_vote
at_with_vote slot best vote =
    elim (cases_Bool (is_higher vote (vote_at vote.slot best))) [
      | inl higher ↦ rw higher (at_put slot vote best ∙ elim (cases_Bool (eqb vote.slot slot)) [
        | inl same ↦
            let at : vote.slot ≡ slot = eqb-true _ _ same in
            let so : is_higher vote (vote_at slot best) ≡ true = rw (← at) higher in
            rw (same, so) refl
        | inr other ↦ rw other refl
      ])
      | inr lower ↦ rw lower (elim (cases_Bool (eqb vote.slot slot)) [
        | inl same ↦
            let at : vote.slot ≡ slot = eqb-true _ _ same in
            let so : is_higher vote (vote_at slot best) ≡ false = rw (← at) lower in
            rw (same, so) refl
        | inr other ↦ rw other refl
      ])
    ]

pub at_best_of : (best votes : List Vote) (slot : ℕ) → vote_at slot (best_of best votes) ≡ fold higher_of (vote_at slot best) (filter (λ vote. eqb vote.slot slot) votes)
at_best_of best [] slot = refl
at_best_of best (vote ∷ votes) slot =
    at_best_of (with_vote best vote) votes slot
    ∙ rw (at_with_vote slot best vote) (elim (cases_Bool (eqb vote.slot slot)) [ inl same ↦ rw same refl | inr other ↦ rw other refl ])

-- a vote of at least that ballot
abbrev AtLeast : ℕ → Option Vote → Type 0
AtLeast ballot found = IsSomeAnd found (λ vote. ballot ≤ vote.ballot)

at_least-higher_of : (ballot : ℕ) (held : Option Vote) (vote : Vote) → AtLeast ballot held → AtLeast ballot (higher_of held vote)
at_least-higher_of ballot None vote holds = absurd holds
at_least-higher_of ballot (Some held) vote holds =
    elim (cases_Bool (ltb held.ballot vote.ballot)) [
      | inl higher ↦ let less : held.ballot < vote.ballot = ltb-true _ _ higher in rw higher (omega (arith, holds, less))
      | inr lower ↦ rw lower holds
    ]

taken-higher_of : (held : Option Vote) (vote : Vote) → AtLeast vote.ballot (higher_of held vote)
taken-higher_of None vote = omega arith
taken-higher_of (Some held) vote =
    elim (cases_Bool (ltb held.ballot vote.ballot)) [
      | inl higher ↦ rw higher (omega arith)
      | inr lower ↦ let least : vote.ballot ≤ held.ballot = ltb-false _ _ lower in rw lower least
    ]

at_least-fold : (ballot : ℕ) (held : Option Vote) (votes : List Vote) → AtLeast ballot held → AtLeast ballot (fold higher_of held votes)
at_least-fold ballot held [] holds = holds
at_least-fold ballot held (vote ∷ votes) holds = at_least-fold ballot (higher_of held vote) votes (at_least-higher_of ballot held vote holds)

pub held_or_higher : (best votes : List Vote) (slot : ℕ) (held : Vote) → vote_at slot best ≡ Some held → IsSomeAnd (vote_at slot (best_of best votes)) (λ found. held.ballot ≤ found.ballot)
held_or_higher best votes slot held at =
    rw (at_best_of best votes slot, at) (at_least-fold held.ballot (Some held) (filter (λ (vote : Vote). eqb vote.slot slot) votes) (omega arith))

contains_none : (vote : Vote) → Contains [] vote → ⊥
contains_none vote has = omega (arith, has.1)

contains_cases : (vote first : Vote) (votes : List Vote) → Contains (first ∷ votes) vote → (first ≡ vote) ⊎ Contains votes vote
contains_cases vote first votes has =
    elim (Contains-append_cases (first ∷ []) votes vote has) [
      | inl here ↦ elim (Contains-push_cases [] first vote here) [ inl none ↦ absurd (contains_none vote none) | inr same ↦ inl same ]
      | inr later ↦ inr later
    ]

at_own : (best : List Vote) (vote : Vote) → vote_at vote.slot (with_vote best vote) ≡ higher_of (vote_at vote.slot best) vote
at_own best vote = at_with_vote vote.slot best vote ∙ rw (eq-eqb vote.slot vote.slot refl) refl

pub heard_or_higher : (best votes : List Vote) (vote : Vote) → Contains votes vote → IsSomeAnd (vote_at vote.slot (best_of best votes)) (λ found. vote.ballot ≤ found.ballot)
heard_or_higher best [] vote has = absurd (contains_none vote has)
heard_or_higher best (first ∷ votes) vote has =
    elim (contains_cases vote first votes has) [
      | inl here ↦ rw (here, at_best_of (with_vote best vote) votes vote.slot, at_own best vote)
          (at_least-fold vote.ballot (higher_of (vote_at vote.slot best) vote) (filter (λ (other : Vote). eqb other.slot vote.slot) votes) (taken-higher_of (vote_at vote.slot best) vote))
      | inr later ↦ heard_or_higher (with_vote best first) votes vote later
    ]

higher_of-cases : (held : Option Vote) (vote found : Vote) → higher_of held vote ≡ Some found → (held ≡ Some found) ⊎ (vote ≡ found)
higher_of-cases held vote found is =
    elim (cases_Bool (is_higher vote held)) [
      | inl higher ↦ let so : Some vote ≡ Some found = rw higher at is in inr cc
      | inr lower ↦ inl (rw lower at is)
    ]

with_vote-cases : (best : List Vote) (vote found : Vote) (slot : ℕ) → vote_at slot (with_vote best vote) ≡ Some found → (vote_at slot best ≡ Some found) ⊎ (vote ≡ found)
with_vote-cases best vote found slot is =
    let so = sym (at_with_vote slot best vote) ∙ is in
    elim (cases_Bool (eqb vote.slot slot)) [
      | inl same ↦ higher_of-cases (vote_at slot best) vote found (rw same at so)
      | inr other ↦ inl (rw other at so)
    ]

pub held_or_heard : (best votes : List Vote) (slot : ℕ) (found : Vote) → vote_at slot (best_of best votes) ≡ Some found → (vote_at slot best ≡ Some found) ⊎ Contains votes found
held_or_heard best [] slot found is = inl is
held_or_heard best (first ∷ votes) slot found is =
    elim (held_or_heard (with_vote best first) votes slot found is) [
      | inl before ↦ elim (with_vote-cases best first found slot before) [
        | inl held ↦ inl held
        | inr same ↦ inr (Contains-append_left (first ∷ []) votes found (rw (← same) (Contains-push [] first)))
      ]
      | inr later ↦ inr (Contains-append_right (first ∷ []) votes found later)
    ]

higher_of-stays : (held vote : Vote) → vote.ballot ≤ held.ballot → higher_of (Some held) vote ≡ Some held
higher_of-stays held vote least = rw (le-ltb held.ballot vote.ballot least) refl

stays : (best : List Vote) (vote held : Vote) (slot : ℕ) → vote_at slot best ≡ Some held → (vote.slot ≡ slot → vote.ballot ≤ held.ballot) → vote_at slot (with_vote best vote) ≡ Some held
stays best vote held slot at least =
    at_with_vote slot best vote
    ∙ elim (cases_Bool (eqb vote.slot slot)) [
      | inl same ↦ rw (same, at) (higher_of-stays held vote (least (eqb-true _ _ same)))
      | inr other ↦ rw (other, at) refl
    ]

pub first_stays : (best votes : List Vote) (slot : ℕ) (held : Vote) → vote_at slot best ≡ Some held → All (λ vote. vote.slot ≡ slot → vote.ballot ≤ held.ballot) votes → vote_at slot (best_of best votes) ≡ Some held
first_stays best [] slot held at least = at
first_stays best (first ∷ votes) slot held at least =
    first_stays (with_vote best first) votes slot held
    (stays best first held slot at (All-head (λ (vote : Vote). vote.slot ≡ slot → vote.ballot ≤ held.ballot) first votes least))
    (All-tail (λ (vote : Vote). vote.slot ≡ slot → vote.ballot ≤ held.ballot) first votes least)
