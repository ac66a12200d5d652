-- Which replica is furthest.
use Rattle.std.proofs.Common.{◌≡◌, ◌⊎◌, ℕ, zero, suc, ◌<◌, ◌≤◌, nat_lt, inl, inr, if◌then◌else◌, arith, subst}
use Rattle.std.proofs.lemmas.Bool.{cases_Bool, cases_lt, ltb-true, ltb-false}
use Rattle.step_spec.specs.State.{State, prefix_of}
use Rattle.script_semantics.specs.Settling.{furthest}

-- the last of the replicas so far, or one before it
last_or_before : (other more : ℕ) → other ≤ suc more → (other ≡ suc more) ⊎ (other ≤ more)
last_or_before other more within = elim (cases_lt other (suc more)) [ inl below ↦ inr (omega arith) | inr above ↦ inl (omega arith) ]

pub furthest_within : (replicas : ℕ → State) (more : ℕ) → furthest replicas more ≤ more
furthest_within replicas zero = omega arith
furthest_within replicas (suc more) =
    elim (cases_Bool (nat_lt (prefix_of (replicas (furthest replicas more))) (prefix_of (replicas (suc more))))) [
      | inl is ↦ rw is (omega arith)
      | inr is ↦ rw is (let have = furthest_within replicas more in omega arith)
    ]

pub furthest_most : (replicas : ℕ → State) (more other : ℕ) → other ≤ more → prefix_of (replicas other) ≤ prefix_of (replicas (furthest replicas more))
furthest_most replicas zero zero within = omega arith
furthest_most replicas zero (suc other) within = absurd (omega arith)
furthest_most replicas (suc more) other within =
    elim (cases_Bool (nat_lt (prefix_of (replicas (furthest replicas more))) (prefix_of (replicas (suc more))))) [
      | inl is ↦ rw is (elim (last_or_before other more within) [
        | inl last ↦ rw last (omega arith)
        | inr before ↦ let have = furthest_most replicas more other before in let above = ltb-true _ _ is in omega arith
      ])
      | inr is ↦ rw is (elim (last_or_before other more within) [
        | inl last ↦ rw last (ltb-false _ _ is)
        | inr before ↦ furthest_most replicas more other before
      ])
    ]

pub furthest_first : (replicas : ℕ → State) (more other : ℕ) → other < furthest replicas more → prefix_of (replicas other) < prefix_of (replicas (furthest replicas more))
furthest_first replicas zero other below = absurd (omega arith)
furthest_first replicas (suc more) other below =
    let best = furthest replicas more in
    elim (cases_Bool (nat_lt (prefix_of (replicas best)) (prefix_of (replicas (suc more))))) [
      | inl is ↦
          let here : other < suc more = subst (λ x. other < (if x then suc more else best)) is below in
          let have : prefix_of (replicas other) ≤ prefix_of (replicas best) = furthest_most replicas more other (omega arith) in
          let above : prefix_of (replicas best) < prefix_of (replicas (suc more)) = ltb-true _ _ is in
          rw is (omega arith)
      | inr is ↦
          let here : other < best = subst (λ x. other < (if x then suc more else best)) is below in
          rw is (furthest_first replicas more other here)
    ]
