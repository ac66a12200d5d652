-- A number as the set of its bits.
use Rattle.std.proofs.Common.{◌≡◌, ◌≢◌, ◌↔◌, ℕ, ◌-◌, ◌*◌, ◌^◌, ◌<◌, ◌≤◌, zero, suc, IsBitSet, bit_and, sym, refl, ap, ◌∙◌, ⊎_elim, arith, pow_pos}
use Rattle.std.specs.Int.{bit_at}
use Rattle.std.proofs.lemmas.Bool.{cases_eq, cases_lt}
use Rattle.std.proofs.lemmas.Nat.Bits.{and_pow, bit_at-lt, bit_at-zero, bit_at_mask_inside, bit_at_mask_below, bit_at_mask_above, same_from_bits}

one_from_product : (b p q : ℕ) → b < 2 → q ≡ b * p → q ≢ 0 → b ≡ 1
one_from_product zero p q small is some = absurd (some (omega arith))
one_from_product (suc zero) p q small is some = refl
one_from_product (suc (suc b)) p q small is some = absurd (omega arith)

-- a bit that is set is 1
pub at_from_set : (n k : ℕ) → IsBitSet n k → bit_at n k ≡ 1
at_from_set n k set = one_from_product (bit_at n k) (2 ^ k) (bit_and n (2 ^ k)) (bit_at-lt n k) (and_pow n k) set

-- a bit that is 1 is set
pub set_from_at : (n k : ℕ) → bit_at n k ≡ 1 → IsBitSet n k
set_from_at n k one =
    let product : bit_and n (2 ^ k) ≡ 1 * 2 ^ k = and_pow n k ∙ ap (λ b. b * 2 ^ k) one in
    let some : 0 < 2 ^ k = pow_pos k in
    λ none. omega arith

-- a bit that is 0 is not set
pub unset_from_at : (n k : ℕ) → bit_at n k ≡ 0 → IsBitSet n k → ⊥
unset_from_at n k none set = let one = at_from_set n k set in omega arith

-- the bits of a mask
pub IsBitSet-mask : (low high value : ℕ) → IsBitSet (2 ^ high - 2 ^ low) value ↔ ((low ≤ value) × (value < high))
IsBitSet-mask low high value = (
  λ set.
      ⊎_elim
      (λ below. absurd (unset_from_at (2 ^ high - 2 ^ low) value (bit_at_mask_below low high value below) set))
      (λ least. ⊎_elim
      (λ less. (least, less))
      (λ above. absurd (unset_from_at (2 ^ high - 2 ^ low) value (bit_at_mask_above low high value above) set))
      (cases_lt value high))
      (cases_lt value low),
  λ (least, less). set_from_at (2 ^ high - 2 ^ low) value (bit_at_mask_inside low high value least less),
)

-- numbers with the same bits are equal
pub same_from_sets : (a b : ℕ) → ((value : ℕ) → IsBitSet a value ↔ IsBitSet b value) → a ≡ b
same_from_sets a b same = same_from_bits a b at
  where
    at : (value : ℕ) → bit_at a value ≡ bit_at b value
    at value =
        ⊎_elim
        (λ one. one ∙ sym (at_from_set b value ((same value).0 (set_from_at a value one))))
        (λ not_one. ⊎_elim
        (λ one. at_from_set a value ((same value).1 (set_from_at b value one)) ∙ sym one)
        (λ neither. let p = bit_at-lt a value in let q = bit_at-lt b value in omega arith)
        (cases_eq (bit_at b value) 1))
        (cases_eq (bit_at a value) 1)

-- 0 has no bits
pub IsBitSet-zero : (value : ℕ) → IsBitSet 0 value → ⊥
IsBitSet-zero value = unset_from_at 0 value (bit_at-zero value)
