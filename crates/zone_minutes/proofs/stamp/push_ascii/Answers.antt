use Rattle.std.proofs.Common.{refl, Result, Ok, Err, IsOk, MatchResult}
use Rattle.std.proofs.lemmas.Str.{IsUtf8-from_ascii}
use Rattle.zone_minutes.proofs.stamp.push_ascii.Goals as goal

IsOk-unless : {A E : Type 0} (P : A → Type 0) (U : Type 0) (Q : E → Type 0) (r : Result A E) → MatchResult r P (λ e. ¬ U × Q e) → U → IsOk r
IsOk-unless P U Q (Ok a) h u = refl
IsOk-unless P U Q (Err e) h u = absurd (h.0 u)

pub unwrap-text-requires : goal.unwrap-text-requires
unwrap-text-requires c =
    IsOk-unless _ _ _ _ c.from_utf8.ensures.cases (IsUtf8-from_ascii c.args.bytes.now c.requires)
