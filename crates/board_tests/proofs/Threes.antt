-- What holds of each of three.
use Rattle.std.proofs.Common.{zero, suc, ◌∷◌, [], All, arith}

pub all_three : {X : Type 0} (P : X → Type 0) (a b c : X) → P a → P b → P c → All P (a ∷ b ∷ c ∷ [])
all_three P a b c pa pb pc zero d below = pa
all_three P a b c pa pb pc (suc zero) d below = pb
all_three P a b c pa pb pc (suc (suc zero)) d below = pc
all_three P a b c pa pb pc (suc (suc (suc k))) d below = absurd (omega arith)
