-- Clauses on an `Option` or a `Result` whose variant is known.
use Rattle.std.proofs.Common.{◌≡◌, Option, Some, None, IfNone, Result, Ok, Err, IfErr, IsErrAnd, sym, subst}

-- a fact that holds anyway holds for `None`
pub if_none : {T : Type 0} (r : Option T) {P : Type 0} → P → IfNone r P
if_none None p = p
if_none (Some x) p = tt

-- the error that a `?` hands on
pub handed_on : {T E : Type 0} (r : Result T E) (e : E) (P : E → Type 0) → IsErrAnd r (λ x. x ≡ e) → P e → IfErr r P
handed_on (Ok x) e P is p = tt
handed_on (Err x) e P is p = let same : x ≡ e = is in subst P (sym same) p
