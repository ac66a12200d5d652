-- What is found by slot.
use Rattle.std.proofs.Common.{◌≡◌, ℕ, ◌+◌, Some, List, [], ◌∷◌, ◌++◌, length, drop, eqb, refl, ap, inl, inr, arith, suc, zero}
use Rattle.std.specs.List.{All, Contains, find}
use Rattle.std.proofs.lemmas.Bool.{cases_Bool, eqb-true}
use Rattle.std.proofs.lemmas.List.Elements.{All-head, All-tail, Contains-append_right}
use Rattle.paxos_base.specs.declared.entry.Entry.{Entry}
use Rattle.paxos_base.specs.declared.entry.Vote.{Vote}
use Rattle.paxos_base.specs.Vote.{vote_at}
use Rattle.step_spec.specs.Hear.{known_from}
use Rattle.step_spec.specs.Message.{Message, Known}

-- what holds of each vote holds of the one that is found at a slot, and it is at that slot
pub found_vote : (P : Vote → Type 0) (slot : ℕ) (votes : List Vote) (vote : Vote) → All P votes → vote_at slot votes ≡ Some vote → (vote.slot ≡ slot) × P vote
unfolding vote_at
found_vote P slot [] vote all is = absurd cc
found_vote P slot (first ∷ votes) vote all is =
    elim (cases_Bool (eqb first.slot slot)) [
      | inl here ↦
          let so : Some first ≡ Some vote = rw here at is in
          let same : first ≡ vote = cc in
          rw (← same) (eqb-true first.slot slot here, All-head P first votes all)
      | inr other ↦
          let so : find (λ other. eqb other.slot slot) votes ≡ Some vote = rw other at is in
          found_vote P slot votes vote (All-tail P first votes all) so
    ]

-- one more entry is known at the slot behind the others
pub known-push : (slot : ℕ) (entries : List Entry) (entry : Entry) → known_from slot (entries ++ entry ∷ []) ≡ known_from slot entries ++ Known (slot + length entries) entry ∷ []
known-push slot [] entry = let at : slot + 0 ≡ slot = omega arith in rw at refl
known-push slot (first ∷ entries) entry =
    let at : slot + 1 + length entries ≡ slot + suc (length entries) = omega arith in
    ap (λ rest. Known slot first ∷ rest) (rw (← at) (known-push (slot + 1) entries entry))

-- what is known from a later slot on is known from an earlier one on
pub known-drop : (slot n : ℕ) (entries : List Entry) (message : Message) → Contains (known_from (slot + n) (drop n entries)) message → Contains (known_from slot entries) message
known-drop slot zero entries message has = let same : slot + 0 ≡ slot = omega arith in rw same at has
known-drop slot (suc n) [] message has = has
known-drop slot (suc n) (entry ∷ entries) message has =
    let at : slot + suc n ≡ slot + 1 + n = omega arith in
    Contains-append_right (Known slot entry ∷ []) (known_from (slot + 1) entries) message
    (known-drop (slot + 1) n entries message (rw (← at) has))
