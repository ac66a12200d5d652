-- Sets of replicas as the bits of a number, and why two majorities meet.
use Rattle.std.proofs.Common.{◌≡◌, ℕ, zero, suc, ◌+◌, ◌*◌, ◌/◌, ◌%◌, ◌^◌, ◌<◌, ◌≤◌, ◌↔◌, ◌⊎◌, add-zero, Bool, true, false, cond, eqb, bit_or, w8, refl, ap, sym, ◌∙◌, inl, inr, arith}
use Rattle.std.specs.Prelude.{count_ones}
use Rattle.std.specs.Int.Count.{ones, ones_in}
use Rattle.std.proofs.lemmas.Bool.{cases_eq, cases_Bool, cond-true, cond-false, eqb-true, agree_below, agree_below_at}
use Rattle.std.proofs.lemmas.Nat.Bits.{bit_at_set_same, bit_at_set_other}
use Rattle.paxos_base.specs.Members.{has_member, HasMember, member_count, majority_of, AllBelow, Meet}

-- `set | 1 << member` has the member, and what was in the set
pub has_member-set : (set member : ℕ) → member < 8 → (k : ℕ) → HasMember (bit_or set (1 * 2 ^ member % 2 ^ 8)) k ↔ ((k ≡ member) ⊎ HasMember set k)
has_member-set set member in_range k =
    elim (cases_eq k member) [
      | inl same ↦ (λ _. inl same, λ _. rw same (bit_at_set_same w8 set member in_range))
      | inr other ↦
          let kept = bit_at_set_other w8 set member in_range k other in
          (λ h. inr (sym kept ∙ h), λ e. elim e [ inl same ↦ absurd (other same) | inr h ↦ kept ∙ h ])
    ]

-- whether the ones of a number below 256 are as many as the members of its set
abbrev counts_agree : ℕ → Bool
counts_agree set = eqb (count_ones set) (member_count set)

all_counts_agree : agree_below counts_agree (λ _. true) 256 ≡ true
unfolding ones ones_in
all_counts_agree = refl

pub count_ones-member_count : (set : ℕ) → set < 256 → count_ones set ≡ member_count set
count_ones-member_count set fits =
    eqb-true _ _ (agree_below_at counts_agree (λ _. true) 256 set all_counts_agree fits)

-- how many of the members below n are in the set
abbrev count_below : ℕ → ℕ → ℕ
count_below set zero = 0
count_below set (suc n) = count_below set n + cond (has_member set n) 1 0

one_more : (set n : ℕ) → has_member set n ≡ true → count_below set (suc n) ≡ count_below set n + 1
one_more set n h = ap (λ (k : ℕ). count_below set n + k) (cond-true {A = ℕ} (has_member set n) 1 0 h)

no_more : (set n : ℕ) → has_member set n ≡ false → count_below set (suc n) ≡ count_below set n
no_more set n h = ap (λ (k : ℕ). count_below set n + k) (cond-false {A = ℕ} (has_member set n) 1 0 h) ∙ add-zero (count_below set n)

-- the members below n are in one of the sets at most, and so are those below the limit
record Apart (limit one other n : ℕ) : Type 0 where
  count : count_below one n + count_below other n ≤ n
  within : count_below one n + count_below other n ≤ limit

meet_next : (limit one other n : ℕ) → AllBelow limit one → AllBelow limit other → Apart limit one other n → Meet one other ⊎ Apart limit one other (suc n)
meet_next limit one other n p q few =
    elim (cases_Bool (has_member one n)) [
      | inl a ↦ elim (cases_Bool (has_member other n)) [
        | inl b ↦ inl (record { member = n; in_one = eqb-true _ _ a; in_other = eqb-true _ _ b })
        | inr b ↦
            let below : n < limit = p n (eqb-true _ _ a) in
            inr (record { count = rw (one_more one n a, no_more other n b) (omega arith); within = rw (one_more one n a, no_more other n b) (omega arith) })
      ]
      | inr a ↦ elim (cases_Bool (has_member other n)) [
        | inl b ↦
            let below : n < limit = q n (eqb-true _ _ b) in
            inr (record { count = rw (no_more one n a, one_more other n b) (omega arith); within = rw (no_more one n a, one_more other n b) (omega arith) })
        | inr b ↦ inr (record { count = rw (no_more one n a, no_more other n b) (omega arith); within = rw (no_more one n a, no_more other n b) (omega arith) })
      ]
    ]

-- Two sets share a member, or each member is in one of them at most.
meet_below : (limit one other n : ℕ) → AllBelow limit one → AllBelow limit other → Meet one other ⊎ Apart limit one other n
meet_below limit one other zero p q = inr (record { count = omega arith; within = omega arith })
meet_below limit one other (suc n) p q =
    elim (meet_below limit one other n p q) [ inl found ↦ inl found | inr few ↦ meet_next limit one other n p q few ]

too_many : (members a b : ℕ) → members / 2 + 1 ≤ a → members / 2 + 1 ≤ b → a + b ≤ members → ⊥
too_many members a b h k few = omega arith

-- Two majorities of the same members share one: together they count more than there are.
pub majorities-Meet : (members one other : ℕ) → AllBelow members one → AllBelow members other → majority_of members ≤ member_count one → majority_of members ≤ member_count other → Meet one other
majorities-Meet members one other p q enough_one enough_other =
    elim (meet_below members one other 8 p q) [
      | inl found ↦ found
      | inr few ↦ absurd (too_many members (member_count one) (member_count other) enough_one enough_other few.within)
    ]
