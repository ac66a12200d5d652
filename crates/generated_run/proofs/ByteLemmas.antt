-- The lines of a made run have no newline.
use Rattle.std.proofs.Common.{ℕ, ◌<◌, ◌^◌, List, [], ◌∷◌, ◌++◌, subst, arith, decimal, ℤ}
use Rattle.std.specs.List.{AllByRecursion}
use Rattle.std.specs.Str.Parse.{AllDigits}
use Rattle.std.specs.Char.{digit_value}
use Rattle.std.proofs.lemmas.Fmt.{decimal_is_IsNumeral}
use Rattle.crontab_text.specs.Lines.{Lacks}
use Rattle.zone_minutes.specs.Civil.{civil_at}
use Rattle.zone_minutes.specs.Stamp.{stamp_text, extended_text, two_digits}
use Rattle.zone_minutes.specs.declared.civil.Civil.{Civil}

pub lacks_append : (a b : List ℕ) → Lacks 10 a → Lacks 10 b → Lacks 10 (a ++ b)
lacks_append [] b front back = back
lacks_append (c ∷ a) b front back = (front.0, lacks_append a b front.1 back)

-- bytes that are greater than a newline
pub lacks_above : (text : List ℕ) → AllByRecursion (λ c. 10 < c) text → Lacks 10 text
lacks_above [] above = tt
lacks_above (c ∷ cs) above = let more : 10 < c = above.0 in ((λ e. omega arith), lacks_above cs above.1)

digits_lack : (text : List ℕ) → AllDigits 10 text → Lacks 10 text
digits_lack [] digits = tt
digits_lack (c ∷ cs) digits =
    ((λ e. let small : digit_value 10 < 10 = subst (λ d. digit_value d < 10) e digits.0 in absurd (omega arith)), digits_lack cs digits.1)

pub lacks_decimal : (n : ℕ) → n < 2 ^ 64 → Lacks 10 (decimal n)
lacks_decimal n small = digits_lack (decimal n) (decimal_is_IsNumeral n small).0.1

lacks_two : (n : ℕ) → Lacks 10 (two_digits n)
lacks_two n = ((λ e. omega arith), ((λ e. omega arith), tt))

pub lacks_stamp : (instant : ℤ) → Lacks 10 (stamp_text instant)
unfolding stamp_text
lacks_stamp instant = lacks_civil (civil_at instant)
  where
    lacks_civil : (civil : Civil) → Lacks 10 (extended_text civil)
    lacks_civil civil = ((λ e. omega arith), ((λ e. omega arith), ((λ e. omega arith), ((λ e. omega arith), ((λ e. omega arith), ((λ e. omega arith), ((λ e. omega arith), ((λ e. omega arith), ((λ e. omega arith), ((λ e. omega arith), ((λ e. omega arith), ((λ e. omega arith), ((λ e. omega arith), ((λ e. omega arith), ((λ e. omega arith), ((λ e. omega arith), ((λ e. omega arith), tt)))))))))))))))))
