-- What stands behind the word of a command: numbers, stamps and fates have no space.
use Rattle.std.proofs.Common.{◌≡◌, ◌≢◌, ℕ, suc, ◌+◌, ◌<◌, ◌≤◌, ◌^◌, List, ◌∷◌, ◌++◌, get_or, ap, ◌∙◌, sym, arith, rules, decimal, ℤ, pos, negsuc}
use Rattle.std.specs.Fmt.{signed_decimal}
use Rattle.std.proofs.lemmas.Str.Parse.{not_in_digits}
use Rattle.std.proofs.lemmas.Fmt.{digits_decimal, decimal_nonempty, decimal_injective}
use Rattle.std.proofs.lemmas.Int.{ints}
use Rattle.zone_minutes.specs.Stamp.{stamp_text}
use Rattle.zone_minutes.specs.declared.minute.Window.{Window}
use Rattle.zone_minutes.proofs.StampLemmas.{stamp_text-injective}
use Rattle.script_text.specs.Command.{IsStampIn, IsSkew}
use Rattle.script_text.proofs.CutLemmas.{Lacks, Lacks-from_get_or, IsCutAtSpace, same_parts}
use Rattle.cron_io.proofs.NumberLemmas.{own}

-- a number has no space
pub decimal_no_space : (n : ℕ) → n < 2 ^ 64 → Lacks 32 (decimal n)
decimal_no_space n small =
    Lacks-from_get_or 32 (decimal n) (λ i inside. not_in_digits own (decimal n) 32 (digits_decimal own n small) (λ range. omega arith) i inside)

pub digit_no_space : (n : ℕ) → 48 + n ≡ 32 → ⊥
digit_no_space n e = omega arith

-- a stamp has no space
pub stamp_no_space : (at : ℤ) → Lacks 32 (stamp_text at)
unfolding stamp_text
stamp_no_space at = search (rules, digit_no_space)

-- what stands before and behind the space behind a number, or behind a stamp
pub number_parts : (text front back : List ℕ) (n : ℕ) (rest : List ℕ) → IsCutAtSpace text front back → n < 2 ^ 64 → text ≡ decimal n ++ 32 ∷ rest → (front ≡ decimal n) × (back ≡ rest)
number_parts text front back n rest cut small is = same_parts text front (decimal n) back rest cut (decimal_no_space n small) is

pub stamp_parts : (text front back : List ℕ) (at : ℤ) (rest : List ℕ) → IsCutAtSpace text front back → text ≡ stamp_text at ++ 32 ∷ rest → (front ≡ stamp_text at) × (back ≡ rest)
stamp_parts text front back at rest cut is = same_parts text front (stamp_text at) back rest cut (stamp_no_space at) is

-- a text of a stamp says one instant
pub same_instant : (text : List ℕ) (window : Window) (a b : ℤ) → IsStampIn window a → IsStampIn window b → text ≡ stamp_text a → text ≡ stamp_text b → a ≡ b
same_instant text window a b in_a in_b says tells = stamp_text-injective a b in_a.calendar in_b.calendar (sym says ∙ tells)

-- a number begins with no sign
pub no_sign : (n : ℕ) → n < 2 ^ 64 → (rest : List ℕ) → decimal n ≡ 45 ∷ rest → ⊥
no_sign n small rest is =
    not_in_digits own (decimal n) 45 (digits_decimal own n small) (λ range. omega arith) 0 (decimal_nonempty n small) (ap (λ l. get_or l 0 0) is)

-- behind the sign stands no number
pub no_skew_behind : (text digits : List ℕ) → text ≡ 45 ∷ digits → ((n : ℕ) → n ≤ 10_000 → digits ≢ decimal n) → (minutes : ℤ) → IsSkew minutes → text ≡ signed_decimal minutes → ⊥
no_skew_behind text digits is none (pos n) range says = no_sign n (omega (arith, ints, range.1)) digits (sym says ∙ is)
no_skew_behind text digits is none (negsuc n) range says =
    let same : digits ≡ decimal (suc n) = cc in none (suc n) (omega (arith, ints, range.0)) same

-- behind the sign stands a 0
pub no_skew_of_zero : (text digits : List ℕ) → text ≡ 45 ∷ digits → digits ≡ decimal 0 → (minutes : ℤ) → IsSkew minutes → text ≡ signed_decimal minutes → ⊥
no_skew_of_zero text digits is zero_is (pos n) range says = no_sign n (omega (arith, ints, range.1)) digits (sym says ∙ is)
no_skew_of_zero text digits is zero_is (negsuc n) range says =
    let same : digits ≡ decimal (suc n) = cc in
    let none : 0 ≡ suc n = decimal_injective 0 (suc n) (omega arith) (omega (arith, ints, range.0)) (sym zero_is ∙ same) in
    omega arith
