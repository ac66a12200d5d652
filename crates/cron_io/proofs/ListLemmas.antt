-- Lists that go on by one.
use Rattle.std.proofs.Common.{◌≡◌, ℕ, zero, suc, ◌+◌, List, [], ◌∷◌, ◌++◌, ap, ◌∙◌, arith, add-one}
use Rattle.std.specs.List.{AllByRecursion, range_with_len}

-- one number more
pub range_more : (from count next : ℕ) → from + count ≡ next → range_with_len from (count + 1) ≡ range_with_len from count ++ next ∷ []
range_more from count next is = ap (range_with_len from) (add-one count) ∙ by_steps from count is
  where
    by_steps : (from count : ℕ) → from + count ≡ next → range_with_len from (suc count) ≡ range_with_len from count ++ next ∷ []
    by_steps from zero is = let same : from ≡ next = omega (arith, is) in ap (λ (n : ℕ). n ∷ []) same
    by_steps from (suc count) is = ap (λ (ns : List ℕ). from ∷ ns) (by_steps (from + 1) count (omega (arith, is)))

pub all_push : {X : Type 0} (P : X → Type 0) (xs : List X) (x : X) → AllByRecursion P xs → P x → AllByRecursion P (xs ++ x ∷ [])
all_push P [] x all last = (last, tt)
all_push P (y ∷ ys) x all last = (all.0, all_push P ys x all.1 last)
